use Rattle.std.proofs.Common.{◌≡◌, ℕ, ◌<◌, length, slice_index}
use Rattle.bplist_lint.specs.Graph.{AreObjects}
use Rattle.bplist_lint.proofs.graph.read_block.Given as goal

abbrev pub invariant-loop-k : goal.invariant-loop-k
invariant-loop-k g l = record {
  room : length l.block ≡ length l.number-items;
  inside : AreObjects l.frame.objects l.k l.block;
  same : (k : ℕ) → k < l.k → slice_index l.number-items k < l.frame.objects → slice_index l.block k ≡ slice_index l.number-items k;
}
