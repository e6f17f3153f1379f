use Rattle.std.proofs.Common.{◌≡◌, ◌-◌, ◌≤◌, vec_len}
use Rattle.bplist_lint.specs.BitSets.{AreFull, AreSkips}
use Rattle.bplist_lint.proofs.bit_set.BitSet.next_block.Given as goal

abbrev pub invariant-loop-at : goal.invariant-loop-at
invariant-loop-at l = record {
  size : l.self.size ≡ l.fn.self.size;
  words : l.self.words ≡ l.fn.self.words;
  blocks : vec_len l.self.skips ≡ vec_len l.fn.self.skips;
  skipping : AreSkips l.fn.self.words.items l.self.skips.items;
  from : l.block ≤ l.at;
  within : l.at ≤ vec_len l.fn.self.skips;
  between : AreFull l.fn.self.words.items l.block l.at;
}

abbrev pub decreases-loop-at : goal.decreases-loop-at
decreases-loop-at l = vec_len l.fn.self.skips - l.at
