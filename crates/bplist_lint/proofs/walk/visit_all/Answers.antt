use Rattle.std.proofs.Common.{◌≡◌, ◌<◌, vec_len, arith, rules, false, length, replicate, sym, ◌∙◌}
use Rattle.std.proofs.lemmas.Grind.{common_steps}
use Rattle.std.proofs.lemmas.List.{get_or_read}
use Rattle.bplist_objects.specs.Framed.{frame_in}
use Rattle.bplist_lint.proofs.Walks.{walking_start, walking_over}
use Rattle.bplist_lint.proofs.MarkSteps.{none_marked}
use Rattle.bplist_lint.proofs.ReachSteps.{work_first}
use Rattle.bplist_lint.proofs.walk.visit_all.Goals as goal
use Rattle.bplist_lint.proofs.walk.visit_all.Goals.{then-index+in_ok-visit_from, else-index}

pub loop-n-init : goal.loop-n-init
loop-n-init g c =
    let marks_new : c.in_ok-marks.marks.items ≡ replicate c.frame-frame.result.objects false = search rules in
    let childless_new : c.in_ok-childless.childless.items ≡ replicate c.frame-frame.result.objects false = search rules in
    let no_stack : vec_len c.in_ok-with_capacity.field-0 ≡ 0 = grind (arith, common_steps) in
    record {
      reads = cc;
      asked = omega arith;
      once = rw (marks_new, c.new-2.ensures, no_stack, c.frame-frame.ensures.frame) (let first = work_first (frame_in (g.P.Source.means c.args.src.now)).objects (frame_in (g.P.Source.means c.args.src.now)).top.0 c.frame-frame.ensures.framed.safe.top in omega (arith, first));
      only = λ m is. absurd (none_marked c.frame-frame.result.objects m (rw c.in_ok-new.ensures at is));
      steady = search rules;
      empty = grind (arith, common_steps);
      walking = λ honest.
          rw (marks_new, childless_new, c.new-2.ensures, c.frame-frame.ensures.frame) (walking_start _ _ c.frame-frame.ensures.framed.safe.top _);
    }

pub loop-n-preserved : goal.loop-n-preserved
loop-n-preserved g c =
    let i = c.loop-n.invariant in
    let n = c.loop-n.n in
    let marks = c.loop-n.progress.worklist.marks.items in
    let all = i.steady.worklist.all_marks in
    let within : n < length marks = grind (arith, common_steps) in
    let read = get_or_read marks n c.index.result.now within c.index.ensures false in
    elim c.if-index.branch [
      | then-index+in_ok-visit_from w ↦ rw (w.src-is, w.progress-is) (record {
        reads = w.in_ok-visit_from.ensures.reads ∙ i.reads;
        asked = omega (arith, i.asked, w.in_ok-visit_from.ensures.asks);
        once = omega (arith, i.once, w.in_ok-visit_from.ensures.once);
        only = w.in_ok-visit_from.ensures.only i.only;
        steady = rw i.reads at w.in_ok-visit_from.ensures.steady;
        empty = w.in_ok-visit_from.ensures.empty;
        walking = λ honest. (rw i.reads at w.in_ok-visit_from.ensures.walking) honest (sym read ∙ w.if-index.true) (i.walking honest);
      })
      | else-index w ↦ rw (w.src-is, w.progress-is) (record {
        reads = i.reads;
        asked = i.asked;
        once = omega (arith, i.once);
        only = i.only;
        steady = i.steady;
        empty = i.empty;
        walking = λ honest. walking_over _ _ _ _ _ _ _ (i.walking honest) (sym read ∙ w.if-index.false);
      })
    ]
