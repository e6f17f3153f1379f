use Rattle.std.proofs.Common.{arith, ◌∙◌, ap, length, sym}
use Rattle.bplist_objects.proofs.Units.{length-units_at}
use Rattle.bplist_cert.proofs.CheckSteps.{on_err}
use Rattle.bplist_cursor.proofs.Causes.{unread_excused}
use Rattle.bplist_cursor.proofs.VouchedObjects.{gives_weaker}
use Rattle.bplist_cursor.proofs.key_search.key_text.Goals as goal

pub returns-in_err-head-clause-exact : goal.returns-in_err-head-clause-exact
returns-in_err-head-clause-exact g c = λ honest us s.
    on_err _ _ _ _ c.from_residual.ensures.1 (unread_excused c.in_err-head.field-0.0 (c.in_err-head.ensures.exact honest us s))

pub returns-clause-exact : goal.returns-clause-exact
returns-clause-exact g c = λ honest us s.
    gives_weaker _ _ c.text_units.result (λ units told. told honest ∙ sym (c.in_ok-head.ensures.exact honest us s)) (rw c.in_ok-head.ensures.reads at c.text_units.ensures.value)

pub returns-clause-asks : goal.returns-clause-asks
returns-clause-asks g c = λ honest us s.
    let f = c.args.checked.now.source.octets in
    let head = c.in_ok-head.head in
    let text = c.in_ok-head.ensures.safe in
    let inside = text.body.body in
    let within = text.body.within in
    let len = ap length (c.in_ok-head.ensures.exact honest us s) ∙ length-units_at f head.kind head.count head.body text.kind (omega (arith, inside, within)) in
    omega (arith, len, c.text_units.ensures.asks, c.in_ok-head.ensures.asks)
