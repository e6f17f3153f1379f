use Rattle.std.proofs.Common.{◌≢◌, ℕ, ◌<◌, ◌-◌, length, slice_index}
use Rattle.bplist_lint.proofs.circle.index_in.Given as goal

abbrev pub invariant-loop-index : goal.invariant-loop-index
invariant-loop-index l = (k : ℕ) → k < l.index → slice_index l.trail k ≢ l.x

abbrev pub decreases-loop-index : goal.decreases-loop-index
decreases-loop-index l = length l.trail - l.index
