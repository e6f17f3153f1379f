use Rattle.std.proofs.Common.{◌≡◌, ℕ, ◌+◌, ◌<◌, length, slice_index}
use Rattle.bplist_lint.specs.KeyLists.{AreRanked}
use Rattle.bplist_lint.proofs.key_rules.push_keys.Given as goal

abbrev pub invariant-loop-m : goal.invariant-loop-m
invariant-loop-m l = record {
  more : length l.keys.items ≡ length l.fn.keys.items + l.m-index;
  ranked : (refs : ℕ → ℕ) → ((k : ℕ) → k < length l.numbers → slice_index l.numbers k ≡ refs (length l.fn.keys.items + k))
      → AreRanked (λ k. slice_index l.ranks (refs k)) l.fn.keys.items → AreRanked (λ k. slice_index l.ranks (refs k)) l.keys.items;
}
