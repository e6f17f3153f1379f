use Rattle.std.proofs.Common.{◌≡◌, ◌-◌, ◌≤◌, ◌<◌, ℕ, count_by, length, take}
use Rattle.bplist_keys.specs.Marks.{IsMarked}
use Rattle.bplist_keys.proofs.named_keys.NamedKeys.next_from.Given as goal

-- none of the objects so far is named
abbrev pub invariant-loop-m : goal.invariant-loop-m
invariant-loop-m l = record {
  past : l.from ≤ l.m;
  inside : l.m < length l.self.marks.items;
  first : (k : ℕ) → l.from ≤ k → k < l.m → IsMarked l.self.marks.items k → ⊥;
  counted : count_by (λ marked. marked) (take l.m l.self.marks.items) ≡ count_by (λ marked. marked) (take l.from l.self.marks.items);
}

abbrev pub decreases-loop-m : goal.decreases-loop-m
decreases-loop-m l = length l.self.marks.items - l.m
