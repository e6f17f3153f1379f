use Rattle.std.proofs.Common.{◌≡◌, ◌<◌, ◌%◌, ◌^◌, ℕ, slice_index}
use Rattle.bplist_c.proofs.members.fill_in_order.Given as goal

-- the references so far are written
abbrev pub invariant-loop-k : goal.invariant-loop-k
invariant-loop-k l = (k : ℕ) → k < l.k → slice_index l.into k ≡ slice_index l.block k % 2 ^ 32
