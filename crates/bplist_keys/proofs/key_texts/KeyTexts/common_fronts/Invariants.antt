use Rattle.std.proofs.Common.{◌<◌, ℕ, List}
use Rattle.bplist_keys.specs.Fronts.{FitsFronts}
use Rattle.bplist_keys.specs.Groups.{item_at}
use Rattle.bplist_keys.specs.KeyTexts.{AreHeld}
use Rattle.bplist_keys.proofs.key_texts.KeyTexts.common_fronts.Given as goal

-- the first k texts were looked at
abbrev pub invariant-loop-k : goal.invariant-loop-k
invariant-loop-k l = record {
  fits : (text : ℕ → List ℕ) → AreHeld text l.self l.items → (j : ℕ) → j < l.k → FitsFronts l.self.units.items l.fronts (text (item_at l.items j).object);
}
