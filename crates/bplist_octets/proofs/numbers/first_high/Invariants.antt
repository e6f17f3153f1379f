use Rattle.std.proofs.Common.{ℕ, ◌<◌, slice_index}
use Rattle.bplist_octets.proofs.numbers.first_high.Given as goal

-- every byte so far is low
abbrev pub invariant-loop-i : goal.invariant-loop-i
invariant-loop-i l = (k : ℕ) → k < l.i → slice_index l.l k < 128
