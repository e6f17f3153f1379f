-- Which object keeps a value from having a text. Source: profile.
use Rattle.std.specs.Prelude.{◌≡◌, ℕ, List, ◌∷◌, None, MatchOption}
use Rattle.bplist_objects.specs.declared.frame.Frame.{Frame}
use Rattle.bplist_objects.specs.Value.{Value, array, dict, Values, value, Pairs, pair}
use Rattle.bplist_objects.specs.Heads.{Content, Spells}
use Rattle.bplist_cursor.specs.OldStyle.{value_text}

module _ (f : List ℕ) (F : Frame) where
  abbrev mutual
    -- object n holds this value, which has no text; x is the first object, in writing order, whose kind has none
    pub IsFormless : ℕ → Value → ℕ → Type 0
    IsFormless n (array vs) x = (ms : List ℕ) × Spells f F n (Content.array ms) × IsFirstFormless ms vs x
    IsFormless n (dict ps) x = (ks ms : List ℕ) × Spells f F n (Content.dict ks ms) × IsFirstFormlessOf ms ps x
    IsFormless n v x = (value_text v ≡ None) × (x ≡ n)

    -- x is that object in the first of these members that has no text
    pub IsFirstFormless : List ℕ → Values → ℕ → Type 0
    IsFirstFormless (m ∷ ms) (value v vs) x = MatchOption (value_text v) (IsFormless m v x) (λ t. IsFirstFormless ms vs x)
    IsFirstFormless _ _ x = ⊥

    -- x is that object in the value of the first of these pairs that has no text
    pub IsFirstFormlessOf : List ℕ → Pairs → ℕ → Type 0
    IsFirstFormlessOf (m ∷ ms) (pair u v ps) x = MatchOption (value_text v) (IsFormless m v x) (λ t. IsFirstFormlessOf ms ps x)
    IsFirstFormlessOf _ _ x = ⊥
