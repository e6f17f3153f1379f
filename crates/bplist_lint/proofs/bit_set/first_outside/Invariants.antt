use Rattle.std.proofs.Common.{ℕ, ◌-◌, ◌<◌, ◌≤◌}
use Rattle.bplist_lint.specs.BitSets.{IsIn}
use Rattle.bplist_lint.proofs.bit_set.first_outside.Given as goal

abbrev pub invariant-loop-i : goal.invariant-loop-i
invariant-loop-i l = record {
  from : l.from ≤ l.i;
  before : (k : ℕ) → l.from ≤ k → k < l.i → IsIn l.words k;
}

abbrev pub decreases-loop-i : goal.decreases-loop-i
decreases-loop-i l = l.end - l.i
