-- What a yes says of a file, by the grammar alone. Source: profile.
use Rattle.std.specs.Prelude.{◌≡◌, ℕ, ◌<◌, All, List}
use Rattle.bplist_objects.specs.Value.{Value}
use Rattle.bplist_objects.specs.Heads.{Content, Spells, refs}
use Rattle.bplist_objects.specs.Reach.{Reach, Chain}
use Rattle.bplist_objects.specs.File.{FileHolds}

-- the file holds exactly one value; no object that its top reaches refers outside the table, or back to itself by any
-- chain of references
pub record IsSound (f : List ℕ) : Type 0 where
  pub value : Value
  pub holds : FileHolds f value
  pub one : (w : Value) → FileHolds f w → w ≡ value
  pub inside : (n : ℕ) → Reach f holds.frame n
      → (c : Content) × Spells f holds.frame n c × All (λ m. m < holds.frame.objects) (refs c)
  pub no_circle : (n : ℕ) → Reach f holds.frame n → Chain f holds.frame n n → ⊥
