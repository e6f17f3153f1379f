use Rattle.std.proofs.Common.{◌≡◌, ◌+◌, ◌≤◌, ◌<◌, ap, length, slice_index, replicate, arith, rules, ◌∙◌}
use Rattle.std.proofs.lemmas.Grind.{common_steps}
use Rattle.std.proofs.lemmas.List.{get_or_read}
use Rattle.bplist_objects.specs.declared.frame.Frame.{Frame}
use Rattle.bplist_objects.specs.Framed.{frame_in}
use Rattle.bplist_cert.specs.Valid.{IsVouchedBy}
use Rattle.bplist_cert.proofs.CheckSteps.{on_err}
use Rattle.bplist_lint.specs.ReachRules.{is_marked}
use Rattle.bplist_lint.proofs.RangeSums.{extents_more, extents_on}
use Rattle.bplist_lint.proofs.ListWrites.{nothing, unwritten}
use Rattle.bplist_lint.proofs.ListSteps.{listed_none, listed_over, upgraded}
use Rattle.bplist_lint.proofs.upgrader.list_by_ranks.Goals as goal
use Rattle.bplist_lint.proofs.upgrader.list_by_ranks.Goals.{then-index-gt0+in_ok-starts-2, else-index-gt0}

pub returns-in_err-starts-2-clause-exact : goal.returns-in_err-starts-2-clause-exact
returns-in_err-starts-2-clause-exact g c = λ honest valid ranked.
    let v = c.loop-n.invariant in
    let low = rw c.frame-frame.ensures.frame at c.loop-n-test.true in
    let room : c.loop-n.n < length c.loop-n.starts.items = omega (arith, v.all, c.loop-n.starts.ok.0, low) in
    let here : c.index.result.now ≡ slice_index c.args.heights.items c.loop-n.n = get_or_read c.args.heights.items c.loop-n.n c.index.result.now (omega (arith, low, c.requires)) c.index.ensures 0 in
    let vouched : IsVouchedBy c.args.heights.items c.loop-n.n = omega (arith, here, c.if-index-gt0.true) in
    on_err _ _ _ _ c.from_residual-in_err-starts-2.ensures.1 ((rw v.reads at c.in_err-starts-2.ensures.exact) honest ranked.0 c.args.heights.items c.loop-n.starts.items (rw v.same ranked.1) (ranked.2 c.loop-n.n vouched) valid vouched room (v.exact honest valid ranked))

pub loop-n-init : goal.loop-n-init
loop-n-init g c =
    let all_low : c.in_ok-starts.starts.items ≡ replicate c.frame-frame.result.objects nothing = search rules in
    record {
      reads = cc;
      asked = λ honest marks only. omega arith;
      all = grind (arith, common_steps);
      few = grind (arith, common_steps);
      same = c.new-lists.ensures.ranks;
      exact = λ honest valid ranked. rw (all_low, c.new-lists.ensures.none) (listed_none _ _ _ (replicate c.frame-frame.result.objects nothing) (λ n. unwritten c.frame-frame.result.objects n nothing));
    }

pub loop-n-preserved : goal.loop-n-preserved
loop-n-preserved g c =
    let v = c.loop-n.invariant in
    elim c.if-index-gt0.branch [
      | then-index-gt0+in_ok-starts-2 w ↦ record {
        reads = rw w.src-is (w.in_ok-starts-2.ensures.reads ∙ v.reads);
        asked = λ honest marks only.
            let low = rw c.frame-frame.ensures.frame at c.loop-n-test.true in
            let here : c.index.result.now ≡ slice_index c.args.heights.items c.loop-n.n = get_or_read c.args.heights.items c.loop-n.n c.index.result.now (omega (arith, low, c.requires)) c.index.ensures 0 in
            let own = rw (only c.loop-n.n (omega (arith, here, w.if-index-gt0.true))) at (extents_more (g.P.Source.means c.args.src.now).octets (frame_in (g.P.Source.means c.args.src.now)) (is_marked marks) c.loop-n.n) in
            let one = (rw v.reads at w.in_ok-starts-2.ensures.asks) honest in
            rw w.src-is (omega (arith, v.asked honest marks only, own, one));
        all = rw w.starts-is v.all;
        few = rw w.lists-is w.in_ok-starts-2.ensures.few;
        same = rw w.lists-is (w.in_ok-starts-2.ensures.same ∙ v.same);
        exact = λ honest valid ranked.
            let low = rw c.frame-frame.ensures.frame at c.loop-n-test.true in
            let room : c.loop-n.n < length c.loop-n.starts.items = omega (arith, v.all, c.loop-n.starts.ok.0, low) in
            let here : c.index.result.now ≡ slice_index c.args.heights.items c.loop-n.n = get_or_read c.args.heights.items c.loop-n.n c.index.result.now (omega (arith, low, c.requires)) c.index.ensures 0 in
            let vouched : IsVouchedBy c.args.heights.items c.loop-n.n = omega (arith, here, w.if-index-gt0.true) in
            rw (w.starts-is, w.lists-is) ((rw v.reads at w.in_ok-starts-2.ensures.exact) honest ranked.0 c.args.heights.items c.loop-n.starts.items (rw v.same ranked.1) (ranked.2 c.loop-n.n vouched) valid vouched room (v.exact honest valid ranked));
      }
      | else-index-gt0 w ↦ record {
        reads = rw w.src-is v.reads;
        asked = λ honest marks only.
            let over = extents_more (g.P.Source.means c.args.src.now).octets (frame_in (g.P.Source.means c.args.src.now)) (is_marked marks) c.loop-n.n in
            rw w.src-is (omega (arith, v.asked honest marks only, over));
        all = rw w.starts-is v.all;
        few = rw w.lists-is v.few;
        same = rw w.lists-is v.same;
        exact = λ honest valid ranked.
            let low = rw c.frame-frame.ensures.frame at c.loop-n-test.true in
            let here : c.index.result.now ≡ slice_index c.args.heights.items c.loop-n.n = get_or_read c.args.heights.items c.loop-n.n c.index.result.now (omega (arith, low, c.requires)) c.index.ensures 0 in
            rw (w.starts-is, w.lists-is) (listed_over _ _ _ c.loop-n.n _ _ (v.exact honest valid ranked) (omega (arith, here, w.if-index-gt0.false)));
      }
    ]

pub returns-clause-exact : goal.returns-clause-exact
returns-clause-exact g c = λ honest valid ranked.
    let F : Frame = frame_in (g.P.Source.means c.args.src.now) in
    let last : c.loop-n.n ≡ F.objects = (let low = rw c.frame-frame.ensures.frame at c.loop-n-test.false in grind (arith, common_steps)) in
    let count : length c.loop-n.starts.items ≡ F.objects = omega (arith, c.loop-n.invariant.all, c.loop-n.starts.ok.0) in
    upgraded _ F c.args.heights.items valid _ count (rw last at (c.loop-n.invariant.exact honest valid ranked))

pub returns-in_err-starts-2-clause-asks : goal.returns-in_err-starts-2-clause-asks
returns-in_err-starts-2-clause-asks g c = λ honest marks only.
    let f = (g.P.Source.means c.args.src.now).octets in
    let F : Frame = frame_in (g.P.Source.means c.args.src.now) in
    let v = c.loop-n.invariant in
    let n = c.loop-n.n in
    let objects = ap (λ (x : Frame). x.objects) c.frame-frame.ensures.frame in
    let low : n + 1 ≤ F.objects = omega (arith, c.loop-n-test.true, objects) in
    let here : c.index.result.now ≡ slice_index c.args.heights.items n = get_or_read c.args.heights.items n c.index.result.now (omega (arith, low, c.requires)) c.index.ensures 0 in
    let own = rw (only n (omega (arith, here, c.if-index-gt0.true))) at (extents_more f F (is_marked marks) n) in
    let one = (rw v.reads at c.list_object.ensures.asks) honest in
    let all = extents_on f F (is_marked marks) (n + 1) F.objects low in
    omega (arith, v.asked honest marks only, own, one, all, low)
