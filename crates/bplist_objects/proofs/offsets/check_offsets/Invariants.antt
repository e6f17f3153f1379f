use Rattle.std.proofs.Common.{ℕ, ◌<◌, slice_index}
use Rattle.bplist_objects.proofs.offsets.check_offsets.Given as goal

-- the places so far are below the table
abbrev pub invariant-loop-n : goal.invariant-loop-n
invariant-loop-n l = (k : ℕ) → k < l.n → slice_index l.places k < l.frame.table
