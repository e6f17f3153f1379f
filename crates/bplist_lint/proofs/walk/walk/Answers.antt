use Rattle.std.proofs.Common.{◌≡◌, arith, length}
use Rattle.std.proofs.lemmas.Grind.{common_steps}
use Rattle.bplist_objects.specs.declared.frame.Frame.{Frame}
use Rattle.bplist_objects.specs.Framed.{frame_in}
use Rattle.bplist_lint.proofs.Walks.{walking_end}
use Rattle.bplist_lint.proofs.walk.walk.Goals as goal

pub returns-in-Ok-clause-exact : goal.returns-in-Ok-clause-exact
returns-in-Ok-clause-exact g c = λ honest.
    let F : Frame = frame_in (g.P.Source.means c.args.src.now) in
    let steady = c.in-Ok.ensures.steady in
    let all = steady.worklist.all_marks in
    let long : length c.in-Ok.progress.worklist.marks.items ≡ F.objects = grind (arith, common_steps) in
    walking_end _ F (c.frame-frame.ensures.framed.framed honest) _ long _ (c.in-Ok.ensures.walking honest) steady.roomy.room
