use Rattle.std.proofs.Common.{◌≡◌, ◌<◌, length, slice_index, max, refl, sym, ◌∙◌, below_more, arith}
use Rattle.std.proofs.lemmas.Grind.{common_steps}
use Rattle.std.proofs.lemmas.List.{get_or_read}
use Rattle.bplist_lint.specs.HeightWalks.{state_at}
use Rattle.bplist_lint.specs.declared.heights.State.TheVariants.{New, Founded}
use Rattle.bplist_lint.proofs.HeightSteps.{greatest_more}
use Rattle.bplist_lint.proofs.heights.HeightWalk.look_at.Goals as goal

pub loop-k-preserved : goal.loop-k-preserved
loop-k-preserved c =
    let i = c.loop-k.invariant in
    let states = c.args.self.now.states.items in
    let heights = c.args.self.now.heights.items in
    let m = slice_index c.args.objects.now c.loop-k.k in
    let inside = c.requires.inside c.loop-k.k c.loop-k-test.true in
    let in_states : m < length states = grind (arith, common_steps) in
    let in_heights : m < length heights = grind (arith, common_steps) in
    let founded : state_at states m ≡ Founded = sym (get_or_read states m c.index.result.now in_states c.index.ensures New) ∙ c.in-Founded.is in
    let height = get_or_read heights m c.index-in-Founded.result.now in_heights c.index-in-Founded.ensures 0 in
    let best : c.max-best.result ≡ max c.loop-k.best c.index-in-Founded.result.now = grind (arith, common_steps) in
    record {
      low = λ bound all. omega (arith, i.low bound all, all m founded, height, best);
      founded = below_more _ _ i.founded founded;
      best = best ∙ rw height (greatest_more heights c.args.objects.now c.loop-k.k c.loop-k.best m c.loop-k-test.true refl i.best);
    }
