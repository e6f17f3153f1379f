use Rattle.std.proofs.Common.{◌≡◌, false, replicate, vec_len, arith, rules}
use Rattle.std.proofs.lemmas.Grind.{common_steps}
use Rattle.bplist_objects.specs.declared.frame.Frame.{Frame}
use Rattle.bplist_objects.specs.Framed.{frame_in}
use Rattle.bplist_lint.proofs.ReachSteps.{searching_start, work_first}
use Rattle.bplist_lint.proofs.reach.ReachSearch.from_top.Goals as goal

pub returns-clause-searching : goal.returns-clause-searching
returns-clause-searching g c = λ honest.
    let marks_new : c.in_ok-marks.marks.items ≡ replicate c.frame-frame.result.objects false = search rules in
    rw (marks_new, c.in_ok-push.ensures.items, c.in_ok-stack.ensures.items, c.frame-frame.ensures.frame) (searching_start _ _ _ _ c.frame-frame.ensures.framed.safe.top c.in_ok-new.ensures.empty c.in_ok-new-2.ensures.empty)

pub returns-clause-work : goal.returns-clause-work
returns-clause-work g c =
    let F : Frame = frame_in (g.P.Source.means c.args.src.now) in
    let marks_new : c.in_ok-marks.marks.items ≡ replicate c.frame-frame.result.objects false = search rules in
    let long : vec_len c.push.new.self ≡ 1 = grind (arith, common_steps) in
    let first = work_first F.objects F.top.0 c.frame-frame.ensures.framed.safe.top in
    rw (marks_new, c.frame-frame.ensures.frame) (omega (arith, first, long))
