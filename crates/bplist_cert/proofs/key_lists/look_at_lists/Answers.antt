use Rattle.std.proofs.Common.{◌+◌, ◌≤◌, ◌<◌, IsTrue, refl, ap, ◌∙◌, below_more, length, slice_index, inl, inr, arith}
use Rattle.std.proofs.lemmas.Bool.{cases_lt, false≢true}
use Rattle.bplist_objects.specs.declared.frame.Frame.{Frame}
use Rattle.bplist_objects.specs.Framed.{frame_in}
use Rattle.bplist_cert.specs.Lists.{Keyed, IsCompleteList}
use Rattle.bplist_cert.specs.Valid.{IsVouchedBy}
use Rattle.bplist_cert.proofs.KeyRepeats.{seen_own}
use Rattle.bplist_cert.proofs.KeyPairs.{low_listed}
use Rattle.bplist_cert.proofs.KeysLooks.{none_past}
use Rattle.bplist_cert.proofs.CheckSteps.{on_err}
use Rattle.bplist_cert.proofs.key_lists.look_at_lists.Goals.{then-look, else-look}
use Rattle.bplist_cert.proofs.key_lists.look_at_lists.Goals as goal

pub loop-i-preserved-then-not-may_be_wrong : goal.loop-i-preserved-then-not-may_be_wrong
loop-i-preserved-then-not-may_be_wrong g c =
    let heights = c.args.seen.now.heights.now in
    let keyed = c.args.keys.now in
    let v = c.loop-i.invariant in
    let n = c.args.seen.now.bound + c.loop-i.i in
    let under : c.loop-i.i < length c.args.places.now = omega (arith, c.loop-i-test.true, c.loop-i.auto.i-end, c.block_of-heights.ensures.few) in
    let height = c.block_of-heights.ensures.at c.loop-i.i under in
    let starts = c.deref.ensures.value ∙ ap (λ (x : Keyed). x.starts) c.keys.view_is in
    let start = c.block_of-starts.ensures.at c.loop-i.i under ∙ ap (λ xs. slice_index xs n) starts in
    let positions = ap (λ (x : Keyed). length x.positions) c.keys.view_is in
    record {
      same = v.same;
      lists = λ honest places seen lists.
          let before = v.lists honest places seen lists in
          record {
            learnt = before.learnt;
            good = λ good m low. below_more _ n (before.good good) (λ here.
                let none = c.may_be_wrong.ensures.none c.if-not-may_be_wrong.true (omega (arith, height, here)) in
                let low_height : slice_index heights n ≤ 1 = omega (arith, height, none.0) in
                let whole : IsCompleteList keyed n 0 = omega (arith, start, none.1, c.len.ensures, positions) in
                low_listed _ _ heights n (seen n (omega (arith, under)) here) keyed low_height whole) m (omega (arith, low));
          };
    }

pub returns-in_err-is_listed-clause-exact : goal.returns-in_err-is_listed-clause-exact
returns-in_err-is_listed-clause-exact g c = λ honest places seen lists.
    let heights = c.args.seen.now.heights.now in
    let v = c.loop-i.invariant in
    let n = c.args.seen.now.bound + c.loop-i.i in
    let under : c.loop-i.i < length c.args.places.now = omega (arith, c.loop-i-test.true, c.loop-i.auto.i-end, c.block_of-heights.ensures.few) in
    let here : IsVouchedBy heights n = omega (arith, c.block_of-heights.ensures.at c.loop-i.i under, c.may_be_wrong.ensures.vouched c.if-not-may_be_wrong.false) in
    on_err _ _ _ _ c.from_residual.ensures.1 ((rw v.same at c.in_err-is_listed.ensures.exact) honest (v.lists honest places seen lists).learnt.0 (places c.loop-i.i under) (seen_own _ _ heights n (seen n (omega (arith, under)) here)))

pub returns-then-not-branch-clause-exact : goal.returns-then-not-branch-clause-exact
returns-then-not-branch-clause-exact g c = λ honest places seen lists.
    let heights = c.args.seen.now.heights.now in
    let v = c.loop-i.invariant in
    let n = c.args.seen.now.bound + c.loop-i.i in
    let under : c.loop-i.i < length c.args.places.now = omega (arith, c.loop-i-test.true, c.loop-i.auto.i-end, c.block_of-heights.ensures.few) in
    let here : IsVouchedBy heights n = omega (arith, c.block_of-heights.ensures.at c.loop-i.i under, c.may_be_wrong.ensures.vouched c.if-not-may_be_wrong.false) in
    let before = v.lists honest places seen lists in
    let found = (rw v.same at c.in_ok-is_listed.ensures.exact) honest before.learnt.0 (places c.loop-i.i under) (seen_own _ _ heights n (seen n (omega (arith, under)) here)) in
    record { learnt = (found.0, before.learnt.1); good = λ never. absurd (false≢true never) }

pub loop-i-preserved : goal.loop-i-preserved
loop-i-preserved g c =
    let f = (g.P.Source.means c.args.src.now).octets in
    let F : Frame = frame_in (g.P.Source.means c.args.src.now) in
    let heights = c.args.seen.now.heights.now in
    let v = c.loop-i.invariant in
    let n = c.args.seen.now.bound + c.loop-i.i in
    let under : c.loop-i.i < length c.args.places.now = omega (arith, c.loop-i-test.true, c.loop-i.auto.i-end, c.block_of-heights.ensures.few) in
    let here : IsVouchedBy heights n = omega (arith, c.block_of-heights.ensures.at c.loop-i.i under, c.may_be_wrong.ensures.vouched c.if-not-may_be_wrong.false) in
    record {
      same = c.in_ok-is_listed.ensures.reads ∙ v.same;
      lists = λ honest places seen lists.
          let before = v.lists honest places seen lists in
          let found = (rw v.same at c.in_ok-is_listed.ensures.exact) honest before.learnt.0 (places c.loop-i.i under) (seen_own _ _ heights n (seen n (omega (arith, under)) here)) in
          record {
            learnt = (found.0, before.learnt.1);
            good = λ good m low. below_more _ n (before.good good) (λ _. found.1 c.if-not-branch.false) m (omega (arith, low));
          };
    }

pub returns-clause-exact : goal.returns-clause-exact
returns-clause-exact g c = λ honest places seen lists.
    let heights = c.args.seen.now.heights.now in
    let bound = c.args.seen.now.bound in
    let so_far = c.loop-i.invariant.lists honest places seen lists in
    record {
      learnt = so_far.learnt;
      good = λ good m low vouched. elim (cases_lt m (bound + c.loop-i.i)) [
        | inl before ↦ so_far.good good m before vouched
        | inr past ↦
            let none = none_past heights c.block_of-heights.result.now bound (length c.args.places.now) m c.block_of-heights.ensures.at (omega (arith, past, c.loop-i-test.false, c.loop-i.auto.i-end)) low in
            absurd (omega (arith, none, vouched))
      ];
    }

pub loop-i-init : goal.loop-i-init
loop-i-init g c = record {
  same = refl;
  lists = λ honest places seen lists.
      let was : IsTrue c.args.look.now.good = elim c.if-look.branch [ then-look w ↦ w.if-look.true | else-look w ↦ absurd (cc (w.look-is, c.if-not-look.false)) ] in
      record { learnt = lists.learnt; good = λ good m low vouched. lists.good was m (omega (arith, low)) vouched };
}
