use Rattle.std.proofs.Common.{arith}
use Rattle.bplist_objects.proofs.AnswerLaws.{faults_mean}
use Rattle.bplist_cert.proofs.CheckSteps.{on_err}
use Rattle.bplist_lint.proofs.TallySteps.{tallied_more, object_fault, room_fault}
use Rattle.bplist_lint.proofs.tally.check_reached_object.Goals as goal

pub returns-in_err-head-clause-exact : goal.returns-in_err-head-clause-exact
returns-in_err-head-clause-exact g c = λ honest marks marked reached t.
    let is = c.in_ok-place.ensures.value honest in
    on_err _ _ _ _ c.from_residual-in_err-head.ensures.1 (faults_mean _ _ c.in_err-head.field-0.0 (object_fault _ _ c.args.n reached t.kept) ((rw c.in_ok-place.ensures.reads at c.in_err-head.ensures.rules) honest is))

pub returns-in_err-with-clause-exact : goal.returns-in_err-with-clause-exact
returns-in_err-with-clause-exact g c = λ honest marks marked reached t.
    let framed = c.frame-frame.ensures.framed.framed honest in
    let is = c.in_ok-place.ensures.value honest in
    let h = (rw c.in_ok-place.ensures.reads at c.in_ok-head.ensures.rules) honest is in
    let full = rw (c.frame-frame.ensures.frame, is) at c.in_err-with.ensures.used in
    on_err _ _ _ _ c.from_residual-in_err-with.ensures.1 (room_fault _ _ c.args.n reached t.kept framed c.requires.within _ t.sums c.in_ok-head.head h.0 h.1 _ full.0 full.1 full.2 full.3)

pub returns-clause-exact : goal.returns-clause-exact
returns-clause-exact g c = λ honest marks marked reached t.
    let framed = c.frame-frame.ensures.framed.framed honest in
    let is = c.in_ok-place.ensures.value honest in
    let h = (rw c.in_ok-place.ensures.reads at c.in_ok-head.ensures.rules) honest is in
    let with = c.in_ok-with.ensures in
    tallied_more _ _ framed c.args.n c.requires.within reached marks c.args.tally t c.in_ok-head.head h.0 h.1 marked (let room = rw c.frame-frame.ensures.frame at with.roomy in omega (arith, is, room.room, with.used)) _ with.reached (omega (arith, is, with.used)) (omega (arith, with.references, c.refs_of.ensures))
