use Rattle.std.proofs.Common.{◌≡◌, ℕ, ◌<◌, false, length, slice_index_or}
use Rattle.bplist_lint.specs.HeightWalks.{first_state, state_at}
use Rattle.bplist_lint.proofs.heights.first_states.Given as goal

-- the states so far are those of the marks
abbrev pub invariant-loop-i : goal.invariant-loop-i
invariant-loop-i l = record {
  all : length l.states.items ≡ length l.childless;
  put : (k : ℕ) → k < l.i → state_at l.states.items k ≡ first_state (slice_index_or l.childless k false);
}
