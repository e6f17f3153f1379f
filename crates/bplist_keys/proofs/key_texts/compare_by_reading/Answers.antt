use Rattle.std.proofs.Common.{sym, ap₂, ◌∙◌}
use Rattle.std.proofs.lemmas.Result.{IfOk-weaker}
use Rattle.bplist_objects.specs.Units.{compare_units}
use Rattle.bplist_keys.proofs.TextUnits.{text_units-head}
use Rattle.bplist_keys.proofs.key_texts.compare_by_reading.Goals as goal

pub returns-clause-value : goal.returns-clause-value
returns-clause-value g c = λ honest runs _ _.
    let first = (rw c.in-Some.is at c.in_ok-first.ensures.exact) honest in
    let second = (rw (c.in-Some-2.is, c.in_ok-first.ensures.reads) at c.in_ok-second.ensures.exact) honest in
    let said = rw (c.in_ok-second.ensures.reads, c.in_ok-first.ensures.reads) at c.text_order.ensures.value in
    IfOk-weaker c.text_order.result _ _ (λ o is. is honest runs ∙ sym (ap₂ compare_units (text_units-head _ _ c.args.a c.in-Some.first first) (text_units-head _ _ c.args.b c.in-Some-2.second second))) said
