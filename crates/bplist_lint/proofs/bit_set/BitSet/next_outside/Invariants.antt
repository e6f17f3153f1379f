use Rattle.std.proofs.Common.{◌≡◌, ℕ, ◌-◌, ◌≤◌, ◌<◌, vec_len}
use Rattle.bplist_lint.specs.BitSets.{IsIn}
use Rattle.bplist_lint.proofs.bit_set.BitSet.next_outside.Given as goal

abbrev pub invariant-loop-from : goal.invariant-loop-from
invariant-loop-from l = record {
  size : l.self.size ≡ l.fn.self.size;
  words : l.self.words ≡ l.fn.self.words;
  blocks : vec_len l.self.skips ≡ vec_len l.fn.self.skips;
  from : l.i ≤ l.from;
  before : (k : ℕ) → l.i ≤ k → k < l.from → IsIn l.fn.self.words.items k;
}

abbrev pub decreases-loop-from : goal.decreases-loop-from
decreases-loop-from l = l.fn.self.size - l.from
