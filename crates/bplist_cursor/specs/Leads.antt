-- The reference that a step takes. Source: profile.
use Rattle.std.specs.Prelude.{◌≡◌, ℕ, ◌<◌, List, [], ◌∷◌, length, slice_index, ⊤}
use Rattle.std.specs.Fmt.{decimal}
use Rattle.bplist_objects.specs.declared.frame.Frame.{Frame}
use Rattle.bplist_objects.specs.Value.{text}
use Rattle.bplist_cursor.specs.declared.node.Why.{Why}
use Rattle.bplist_cursor.specs.declared.node.Why.TheVariants.{NoKey, NoIndex, NotSteppable}
use Rattle.bplist_objects.specs.Heads.{Content, leaf, array, set, dict, Spells}

module _ (f : List ℕ) (F : Frame) where
  -- m is the reference that the step with these units takes from this content
  abbrev pub IsTaken : Content → List ℕ → ℕ → Type 0
  IsTaken (dict ks ms) s m = (i : ℕ) × (i < length ks) × Spells f F (slice_index ks i) (leaf (text s)) × (slice_index ms i ≡ m)
  IsTaken (array ms) s m = (i : ℕ) × (i < length ms) × (decimal i ≡ s) × (slice_index ms i ≡ m)
  IsTaken _ s m = ⊥

  -- the steps lead from object n to object m by references
  abbrev pub LeadTo : ℕ → List (List ℕ) → ℕ → Type 0
  LeadTo n [] m = n ≡ m
  LeadTo n (s ∷ steps) m = (c : Content) × (k : ℕ) × Spells f F n c × IsTaken c s k × LeadTo k steps m

  -- each key of the dictionary is a text
  abbrev pub HasTextKeys : Content → Type 0
  HasTextKeys (dict ks ms) = (i : ℕ) → i < length ks → (slice_index ks i < F.objects) × ((u : List ℕ) × Spells f F (slice_index ks i) (leaf (text u)))
  HasTextKeys _ = ⊤

-- why a step takes no reference
abbrev pub why_of : Content → Why
why_of (dict ks ms) = NoKey
why_of (array ms) = NoIndex
why_of (set ms) = NotSteppable
why_of (leaf l) = NotSteppable
