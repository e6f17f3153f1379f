use Rattle.std.proofs.Common.{◌+◌, ◌<◌, ◌∙◌, below_more, length, inl, inr, arith}
use Rattle.std.proofs.lemmas.Bool.{cases_lt}
use Rattle.bplist_objects.specs.declared.frame.Frame.{Frame}
use Rattle.bplist_objects.specs.Framed.{frame_in}
use Rattle.bplist_keys.specs.Classes.{HasNamedKeys}
use Rattle.bplist_cert.specs.Valid.{IsVouchedBy}
use Rattle.bplist_cert.proofs.KeyRepeats.{seen_own, named_low}
use Rattle.bplist_cert.proofs.KeysLooks.{none_past}
use Rattle.bplist_cert.proofs.CheckSteps.{on_err}
use Rattle.bplist_cert.proofs.key_names.name_key_block.Goals as goal
use Rattle.bplist_cert.proofs.key_names.name_key_block.Goals.{then-height-gt1+in_ok-name_object, else-height-gt1}

pub returns-in_err-name_object-clause-exact : goal.returns-in_err-name_object-clause-exact
returns-in_err-name_object-clause-exact g c = λ honest places seen before.
    let i = c.loop-i.i in
    let so_far = c.loop-i.invariant.named honest places seen before in
    let under : i < length c.args.places.now = omega (arith, c.loop-i-test.true, c.loop-i.auto.i-end, c.block_of-block.ensures.few) in
    let v : IsVouchedBy c.args.heights.now (c.args.from + i) = omega (arith, c.block_of-block.ensures.at i under, c.if-height-gt1.true) in
    on_err _ _ _ _ c.from_residual.ensures.1 ((rw c.loop-i.invariant.same at c.in_err-name_object.ensures.exact) honest (places i under) (seen_own _ _ c.args.heights.now (c.args.from + i) (seen (c.args.from + i) (omega (arith, under)) v)) so_far.0)

pub loop-i-preserved : goal.loop-i-preserved
loop-i-preserved g c =
    let v = c.loop-i.invariant in
    let f = (g.P.Source.means c.args.src.now).octets in
    let F : Frame = frame_in (g.P.Source.means c.args.src.now) in
    let heights = c.args.heights.now in
    let n = c.args.from + c.loop-i.i in
    let under : c.loop-i.i < length c.args.places.now = omega (arith, c.loop-i-test.true, c.loop-i.auto.i-end, c.block_of-block.ensures.few) in
    let height = c.block_of-block.ensures.at c.loop-i.i under in
    elim c.if-height-gt1.branch [
      | then-height-gt1+in_ok-name_object w ↦ record {
        same = rw w.src-is (w.in_ok-name_object.ensures.reads ∙ v.same);
        all = rw w.named-is (w.in_ok-name_object.ensures.all ∙ v.all);
        named = λ honest places seen before.
            let so_far = v.named honest places seen before in
            rw w.named-is (
              w.in_ok-name_object.ensures.all ∙ so_far.0,
              λ m low. below_more (λ k. IsVouchedBy heights k → HasNamedKeys f F w.name_object.new.named.marks.items k) n (λ k before vouched head has dict j l. w.in_ok-name_object.ensures.keeps _ (so_far.1 k before vouched head has dict j l))
                  (λ vouched. (rw v.same at w.in_ok-name_object.ensures.exact) honest (places c.loop-i.i under) (seen_own f F heights n (seen n (omega (arith, under)) vouched)) so_far.0) m (omega (arith, low)),
            );
        only = λ honest places.
            let told = (rw v.same at w.in_ok-name_object.ensures.only) honest (places c.loop-i.i under) in
            let vouched : IsVouchedBy heights n = omega (arith, height, w.if-height-gt1.true) in
            rw w.named-is (λ m marked. elim (told m marked) [
              | inl before ↦ v.only honest places m before
              | inr key ↦ inr (n, vouched, key)
            ]);
      }
      | else-height-gt1 w ↦ record {
        same = rw w.src-is v.same;
        all = rw w.named-is v.all;
        named = λ honest places seen before.
            let so_far = v.named honest places seen before in
            rw w.named-is (
              so_far.0,
              λ m low. below_more _ n so_far.1 (λ vouched. named_low f F heights c.loop-i.named.marks.items n (seen n (omega (arith, under)) vouched) (omega (arith, height, w.if-height-gt1.false))) m (omega (arith, low)),
            );
        only = λ honest places. rw w.named-is (v.only honest places);
      }
    ]

pub returns-clause-exact : goal.returns-clause-exact
returns-clause-exact g c = λ honest places seen before.
    let so_far = c.loop-i.invariant.named honest places seen before in (
      so_far.0,
      λ m low vouched. elim (cases_lt m (c.args.from + c.loop-i.i)) [
        | inl before ↦ so_far.1 m before vouched
        | inr past ↦
            let none = none_past c.args.heights.now c.block_of-block.result.now c.args.from (length c.args.places.now) m c.block_of-block.ensures.at (omega (arith, past, c.loop-i-test.false, c.loop-i.auto.i-end)) low in
            absurd (omega (arith, none, vouched))
      ],
    )
