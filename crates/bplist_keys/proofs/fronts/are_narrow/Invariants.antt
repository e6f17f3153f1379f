use Rattle.std.proofs.Common.{◌<◌, ℕ, slice_index}
use Rattle.bplist_keys.proofs.fronts.are_narrow.Given as goal

-- the first i units are narrow
abbrev pub invariant-loop-i : goal.invariant-loop-i
invariant-loop-i l = record {
  small : (j : ℕ) → j < l.i → slice_index l.units j < 256;
}
