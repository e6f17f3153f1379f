use Rattle.std.proofs.Common.{◌≡◌, ◌<◌, ◌+◌, arith, true, false, not, length, get_or, refl, sym, ◌∙◌, subst, below_more, vec_len}
use Rattle.std.proofs.lemmas.Grind.{common_steps, elements}
use Rattle.std.proofs.lemmas.List.{get_or_read}
use Rattle.bplist_keys.specs.Marks.{IsMarked}
use Rattle.bplist_lint.proofs.ListWrites.{count-set}
use Rattle.bplist_lint.proofs.MarkSteps.{noted_none, note_old, note_later, note_new}
use Rattle.bplist_lint.proofs.walk.mark_block.Goals as goal
use Rattle.bplist_lint.proofs.walk.mark_block.Goals.{then-not-index+then-m-worklist+in_ok-push, then-not-index+else-m-worklist, else-not-index}

pub loop-number-init : goal.loop-number-init
loop-number-init c = record {
  steady = c.requires.steady;
  worked = record { current = refl; work = omega arith };
  below = λ k low. absurd (omega arith);
  noted = noted_none _ _ _ _;
}

pub loop-number-preserved : goal.loop-number-preserved
loop-number-preserved c =
    let i = c.loop-number.invariant in
    let m = c.in-Some.m.0 in
    let is = c.in-Some.ensures.0 in
    let all = i.steady.all_marks in
    let stack_in = i.steady.stack_in in
    let fits : m < length c.loop-number.worklist.marks.items = omega (arith, c.in-Some.ensures.1, all) in
    let read = get_or_read c.loop-number.worklist.marks.items m c.index.result.now fits c.index.ensures false in
    let more = count-set not c.loop-number.worklist.marks.items m true false fits in
    let below = below_more _ _ i.below (omega (arith, is, c.in-Some.ensures.1)) in
    elim c.if-not-index.branch [
      | then-not-index+then-m-worklist+in_ok-push w ↦
          let unmarked : get_or c.loop-number.worklist.marks.items m false ≡ false = sym read ∙ w.if-not-index.true in
          let less = rw unmarked at more in
          let long : vec_len w.push.new.self ≡ vec_len c.loop-number.worklist.stack + 1 = grind (arith, common_steps) in
          rw w.worklist-is (record {
            steady = record { all_marks = grind (arith, common_steps); stack_in = grind (arith, elements) };
            worked = record { current = i.worked.current; work = omega (arith, less, long, i.worked.work) };
            below = below;
            noted = rw w.in_ok-push.ensures.items (note_new _ _ _ _ _ _ _ i.noted m c.loop-number-test.true is fits unmarked (omega (arith, i.worked.current, w.if-m-worklist.true)));
          })
      | then-not-index+else-m-worklist w ↦
          let unmarked : get_or c.loop-number.worklist.marks.items m false ≡ false = sym read ∙ w.if-not-index.true in
          let less = rw unmarked at more in
          rw w.worklist-is (record {
            steady = record { all_marks = grind (arith, common_steps); stack_in = stack_in };
            worked = record { current = i.worked.current; work = omega (arith, less, i.worked.work) };
            below = below;
            noted = note_later _ _ _ _ _ _ _ i.noted m c.loop-number-test.true is fits (omega (arith, i.worked.current, w.if-m-worklist.false));
          })
      | else-not-index w ↦ rw w.worklist-is (record {
        steady = i.steady;
        worked = i.worked;
        below = below;
        noted = note_old _ _ _ _ _ _ _ i.noted (subst (IsMarked c.loop-number.worklist.marks.items) is (sym read ∙ w.if-not-index.false));
      })
    ]
