use Rattle.std.proofs.Common.{ℕ, ◌<◌, ◌≤◌, ◌-◌, length, slice_index}
use Rattle.bplist_octets.proofs.numbers.low_front.Given as goal

abbrev pub invariant-loop-at : goal.invariant-loop-at
invariant-loop-at l = (l.at ≤ length l.l) × ((k : ℕ) → k < l.at → slice_index l.l k < 128)

abbrev pub decreases-loop-at : goal.decreases-loop-at
decreases-loop-at l = length l.l - l.at
