use Rattle.std.proofs.Common.{sym, ap, ap₂, ◌∙◌}
use Rattle.std.specs.Ordering.{is_lt}
use Rattle.bplist_objects.specs.Units.{compare_units}
use Rattle.bplist_keys.proofs.TextUnits.{text_units-head}
use Rattle.bplist_keys.proofs.Groups.{less as lt_less}
use Rattle.bplist_cert.proofs.KeyPairs.{ranked_units}
use Rattle.bplist_cert.proofs.key_order.comes_after.Goals as goal

pub returns-in-Some-clause-exact : goal.returns-in-Some-clause-exact
returns-in-Some-clause-exact g c = λ honest known first second.
    let found = (rw c.in-Some.is at c.in_ok-order.ensures.exact) honest known.2 in
    let order = found.1 in
    let units = ranked_units _ _ c.args.last.now.object c.args.key.now.object c.in-Some.order order in (
      (known.0, known.1, found.0),
      (
        λ after. (order.0, order.1, sym units ∙ lt_less c.in-Some.order (sym c.is_lt.ensures ∙ after)),
        λ asc. c.is_lt.ensures ∙ ap is_lt (units ∙ asc.2),
      ),
    )

pub returns-in_ok-text_order-in-None-clause-exact :
    goal.returns-in_ok-text_order-in-None-clause-exact
returns-in_ok-text_order-in-None-clause-exact g c = λ honest known first second.
    let a = c.args.last.now in
    let b = c.args.key.now in
    let found = (rw c.in-None.is at c.in_ok-order.ensures.exact) honest known.2 in
    let order = (rw c.in_ok-order.ensures.reads at c.in_ok-text_order-in-None.ensures.value) honest known.1 in
    let runs = (rw c.in_ok-order.ensures.reads at c.in_ok-text_order-in-None.ensures.runs) honest known.1 in
    let units = ap₂ compare_units (text_units-head _ _ a.object a.head first) (text_units-head _ _ b.object b.head second) in (
      (known.0, runs, found.0),
      (
        λ after. ((a.head, first), (b.head, second), units ∙ sym order ∙ lt_less c.in_ok-text_order-in-None.field-0 (sym c.is_lt-in-None.ensures ∙ after)),
        λ asc. c.is_lt-in-None.ensures ∙ ap is_lt (order ∙ sym units ∙ asc.2),
      ),
    )
