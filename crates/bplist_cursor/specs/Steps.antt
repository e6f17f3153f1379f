-- Where one step goes, from function to function. Source: profile.
use Rattle.std.specs.Prelude.{◌≡◌, ℕ, ◌<◌, List, [], ◌∷◌, length, slice_index, MatchOption, Option, Err, ⊤}
use Rattle.bplist_objects.specs.declared.frame.Frame.{Frame}
use Rattle.bplist_objects.specs.declared.head.Head.{Head}
use Rattle.bplist_objects.specs.Value.{Value, text}
use Rattle.bplist_objects.specs.Heads.{Content, Spells, leaf, dict, refs, content_at}
use Rattle.bplist_cert.specs.CheckedFile.{CheckedFile, HonestlyChecked}
use Rattle.bplist_cursor.specs.Look.{stepped}
use Rattle.bplist_cursor.specs.Leads.{IsTaken, LeadTo, why_of}
use Rattle.bplist_cursor.specs.declared.steps.RefIndex.{RefIndex}
use Rattle.bplist_cursor.specs.declared.steps.RefIndex.TheVariants as ref_index
use Rattle.bplist_cursor.specs.declared.steps.Step.{Step}
use Rattle.bplist_cursor.specs.declared.steps.Step.TheVariants as step

-- if the step goes on, it goes to one of this many objects
abbrev pub IsInside : ℕ → Step → Type 0
IsInside objects (step.On m) = m.0 < objects
IsInside objects (step.Not _) = ⊤

-- if the step takes a reference, it takes one of this many
abbrev pub IsRefIndexBelow : ℕ → RefIndex → Type 0
IsRefIndexBelow count (ref_index.Of i) = i < count
IsRefIndexBelow count (ref_index.Nowhere _) = ⊤

module _ (f : List ℕ) (F : Frame) where
  -- all of these objects spell texts
  abbrev pub SpellTexts : List ℕ → Type 0
  SpellTexts ks = (i : ℕ) → i < length ks → (u : List ℕ) × Spells f F (slice_index ks i) (leaf (text u))

  -- the key at this index spells s, or no key does
  abbrev pub IsKeyIndex : List ℕ → List ℕ → Option ℕ → Type 0
  IsKeyIndex ks s o = MatchOption o ((i : ℕ) → i < length ks → Spells f F (slice_index ks i) (leaf (text s)) → ⊥)
      (λ i. (i < length ks) × Spells f F (slice_index ks i) (leaf (text s)))

  -- the step s leads from object n, which holds v, to this object; or this is why it can't be taken
  abbrev pub IsStep : ℕ → Value → List ℕ → Step → Type 0
  IsStep n v s (step.On m) = LeadTo f F n (s ∷ []) m.0
  IsStep n v s (step.Not y) = stepped v s ≡ Err y

  -- the step s takes this reference from this content; or it takes none, and this is why
  abbrev pub IsRefIndex : Content → List ℕ → RefIndex → Type 0
  IsRefIndex h s (ref_index.Of i) = IsTaken f F h s (slice_index (refs h) i)
  IsRefIndex h s (ref_index.Nowhere y) = ((m : ℕ) → IsTaken f F h s m → ⊥) × (y ≡ why_of h)

-- if the source is honest, P holds of the keys of a dictionary with this head; the keys are texts
abbrev pub HonestlyKeyed : CheckedFile → Head → (List ℕ → Frame → List ℕ → Type 0) → Type 0
HonestlyKeyed checked head P =
    HonestlyChecked checked (λ f F. (n : ℕ) (ks ms : List ℕ) → Spells f F n (dict ks ms) → dict ks ms ≡ content_at f F head
    → SpellTexts f F ks → P f F ks)
