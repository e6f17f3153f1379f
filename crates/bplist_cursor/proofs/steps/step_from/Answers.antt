use Rattle.std.proofs.Common.{subst}
use Rattle.bplist_cursor.specs.Steps.{IsStep}
use Rattle.bplist_cursor.proofs.FoundSteps.{one_step}
use Rattle.bplist_cursor.proofs.steps.step_from.Goals as goal

pub returns-in-On-clause-exact : goal.returns-in-On-clause-exact
returns-in-On-clause-exact g c = λ honest vouched v holds.
    let file = c.args.checked.now in
    let n = c.args.node.object.0 in
    one_step file c.frame-frame.ensures.checked honest v n c.args.units.now c.in-On.object.0 (vouched, holds)
    (subst (IsStep file.source.octets file.frame n v c.args.units.now) c.in-On.is (c.in_ok-object.ensures.exact honest vouched v holds))
