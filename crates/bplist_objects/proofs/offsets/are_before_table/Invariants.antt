use Rattle.std.proofs.Common.{ℕ, ◌<◌, slice_index, IsTrue}
use Rattle.bplist_objects.proofs.offsets.are_before_table.Given as goal

-- the places so far are below the bound, if none was found that is not
abbrev pub invariant-loop-place : goal.invariant-loop-place
invariant-loop-place l = IsTrue l.below → (k : ℕ) → k < l.place-index → slice_index l.places k < l.bound
