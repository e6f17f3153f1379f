use Rattle.std.proofs.Common.{◌≡◌, ℕ, suc, ◌++◌, take, slice_index}
use Rattle.bplist_lint.specs.KeyLists.{ranks_in, positions_in}
use Rattle.bplist_lint.proofs.key_rules.push_positions.Given as goal

-- the positions so far are there, and `last` is the rank of the last of their keys
abbrev pub invariant-loop-key : goal.invariant-loop-key
invariant-loop-key l = record {
  pushed : l.positions.items ≡ l.fn.positions.items ++ take l.key-index (positions_in l.keys);
  first : l.key-index ≡ 0 → l.last ≡ 0;
  last : (i : ℕ) → suc i ≡ l.key-index → l.last ≡ slice_index (ranks_in l.keys) i;
}
