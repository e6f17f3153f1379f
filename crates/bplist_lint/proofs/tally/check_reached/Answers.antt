use Rattle.std.proofs.Common.{◌<◌, length, arith, sym, ◌∙◌}
use Rattle.std.proofs.lemmas.Bool.{false≢true}
use Rattle.bplist_lint.proofs.TallySteps.{tallied_over, tallied_none}
use Rattle.bplist_lint.proofs.tally.check_reached.Goals as goal
use Rattle.bplist_lint.proofs.tally.check_reached.Goals.{then-marks-n+in_ok-tally, else-marks-n}

pub loop-n-init : goal.loop-n-init
loop-n-init g c = record {
  reads = cc;
  asked = omega arith;
  roomy = rw c.new-tally.ensures (record { room = omega (arith, c.frame-frame.ensures.framed.safe.table); reached = omega arith; references = omega arith });
  exact = λ honest marked. rw c.new-tally.ensures (tallied_none _ _ _);
}

pub loop-n-preserved : goal.loop-n-preserved
loop-n-preserved g c =
    let v = c.loop-n.invariant in
    let within : c.loop-n.n < length c.args.marks.now = let low = rw c.frame-frame.ensures.frame at c.loop-n-test.true in omega (arith, c.requires, low) in
    elim c.if-marks-n.branch [
      | then-marks-n+in_ok-tally w ↦
          let marked = w.if-marks-n.true in
          record {
            reads = rw w.src-is (w.in_ok-tally.ensures.reads ∙ v.reads);
            asked = rw (w.src-is, w.tally-is) (omega (arith, v.asked, w.in_ok-tally.ensures.asks_object));
            roomy = rw w.tally-is (rw v.reads at w.in_ok-tally.ensures.roomy);
            exact = λ honest marks. rw w.tally-is ((rw v.reads at w.in_ok-tally.ensures.exact) honest _ marked ((marks _).0 marked) (v.exact honest marks));
          }
      | else-marks-n w ↦
          let unmarked = w.if-marks-n.false in
          record {
            reads = rw w.src-is v.reads;
            asked = rw (w.src-is, w.tally-is) (omega (arith, v.asked));
            roomy = rw w.tally-is v.roomy;
            exact = λ honest marks. rw w.tally-is (tallied_over _ _ _ _ _ unmarked (λ r. absurd (false≢true (sym unmarked ∙ (marks _).1 r))) (v.exact honest marks));
          }
    ]
