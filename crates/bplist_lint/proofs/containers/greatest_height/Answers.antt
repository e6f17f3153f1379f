use Rattle.std.proofs.Common.{◌≡◌, ◌<◌, max, slice_index, refl, ◌∙◌, below_more, arith}
use Rattle.std.proofs.lemmas.Grind.{common_steps}
use Rattle.bplist_lint.proofs.HeightSteps.{greatest_more}
use Rattle.bplist_lint.proofs.containers.greatest_height.Goals as goal

pub loop-m-preserved : goal.loop-m-preserved
loop-m-preserved c =
    let i = c.loop-m.invariant in
    let heights = c.args.heights.now in
    let m = slice_index c.args.numbers.now c.loop-m.m-index in
    let some : 0 < slice_index heights m = omega (arith, c.entry_or-height.ensures, c.if-height-eq0.false) in
    let best : c.max-best.result ≡ max c.loop-m.best (slice_index heights m) = grind (arith, common_steps) in
    record {
      each = below_more _ _ i.each some;
      best = best ∙ greatest_more heights c.args.numbers.now c.loop-m.m-index c.loop-m.best m c.loop-m-test.true refl i.best;
    }
