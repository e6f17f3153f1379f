use Rattle.std.proofs.Common.{◌≡◌, ◌<◌, ℕ, List, length}
use Rattle.bplist_keys.specs.Fronts.{FitsFronts}
use Rattle.bplist_keys.specs.Groups.{item_at}
use Rattle.bplist_keys.specs.KeyTexts.{AreHeld, HasFront}
use Rattle.bplist_keys.proofs.key_texts.KeyTexts.number.Given as goal

-- the first k items have their fronts
abbrev pub invariant-loop-k : goal.invariant-loop-k
invariant-loop-k l = record {
  all : length l.items ≡ length l.fn.items;
  same : (j : ℕ) → (item_at l.items j).object ≡ (item_at l.fn.items j).object;
  held : (text : ℕ → List ℕ) → AreHeld text l.self l.fn.items → AreHeld text l.self l.items;
  fronts : (text : ℕ → List ℕ) → AreHeld text l.self l.fn.items
      → ((j : ℕ) → j < length l.fn.items → FitsFronts l.self.units.items l.self.fronts (text (item_at l.fn.items j).object))
      → (j : ℕ) → j < l.k → HasFront text l.self (item_at l.items j);
}
