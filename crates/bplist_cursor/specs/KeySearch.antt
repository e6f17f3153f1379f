-- Binary search for a key in a sorted key list. Source: profile.
use Rattle.std.specs.Prelude.{◌≡◌, ℕ, ◌+◌, ◌<◌, ◌≤◌, List, [], ◌∷◌, length, slice_index, Option, Some, None, Ok, Err}
use Rattle.std.specs.Int.Digits.{digits_of}
use Rattle.std.specs.declared.cmp.Ordering.{Ordering}
use Rattle.std.specs.declared.cmp.Ordering.TheVariants.{Less}
use Rattle.bplist_objects.specs.declared.frame.Frame.{Frame}
use Rattle.bplist_objects.specs.declared.head.Kind.{Kind}
use Rattle.bplist_objects.specs.declared.head.Kind.TheVariants.{Dict}
use Rattle.bplist_objects.specs.Value.{Value, dict, keys, text}
use Rattle.bplist_objects.specs.Heads.{Content, Spells}
use Rattle.bplist_objects.specs.Units.{compare_units}
use Rattle.bplist_cert.specs.CheckedFile.{CheckedFile}
use Rattle.bplist_cert.specs.Lists.{Keyed}
use Rattle.bplist_cursor.specs.Look.{stepped}
use Rattle.bplist_cursor.specs.declared.faults.Unread.{Unread}
use Rattle.bplist_cursor.specs.declared.faults.Unread.TheVariants.{Changed}

-- the comparisons that a step needs at an object of this kind and count: for a dictionary, the binary digits of its
-- count of pairs
abbrev pub halvings_of : Kind → ℕ → ℕ
halvings_of Dict count = length (digits_of 2 count)
halvings_of _ count = 0

-- the comparisons that a path needs: the sum over the dictionaries that it meets
abbrev pub halvings : Value → List (List ℕ) → ℕ
halvings v [] = 0
halvings v (s ∷ steps) = (elim v [ dict ps ↦ length (digits_of 2 (length (keys ps))) | _ ↦ 0 ])
    + (elim (stepped v s) [ Ok w ↦ halvings w steps | Err why ↦ 0 ])

-- with key lists, the counter rises by at most this
abbrev pub RisesAtMost : CheckedFile → ℕ → ℕ → ℕ → Type 0
RisesAtMost checked old new most = (keyed : Keyed) → checked.certificate.keys ≡ Some keyed → new ≤ old + most

module _ (f : List ℕ) (F : Frame) where
  -- key i was compared with these units
  abbrev pub IsCompared : List ℕ → ℕ → List ℕ → ℕ × Ordering → Type 0
  IsCompared ks i units found =
      (found.0 ≡ i) × ((us : List ℕ) → Spells f F (slice_index ks i) (Content.leaf (text us)) → found.1 ≡ compare_units us units)

  -- the list has the indexes of these keys in ascending order of their units
  pub record IsKeyList (ks list : List ℕ) : Type 0 where
    pub within : (j : ℕ) → j < length ks → slice_index list j < length ks
    pub ascend : (i j : ℕ) → i < j → j < length ks → (us vs : List ℕ)
        → Spells f F (slice_index ks (slice_index list i)) (Content.leaf (text us))
        → Spells f F (slice_index ks (slice_index list j)) (Content.leaf (text vs)) → compare_units us vs ≡ Less

-- the key list of dictionary n, with `count` pairs, is complete and begins at this index of the positions; or, for
-- None, there are no key lists
abbrev pub ListStarts : CheckedFile → ℕ → ℕ → Option ℕ → Type 0
ListStarts checked n count None = checked.certificate.keys ≡ None
ListStarts checked n count (Some start) =
    (keyed : Keyed) × (checked.certificate.keys ≡ Some keyed) × (start ≡ slice_index keyed.starts n) × (start + count ≤ length keyed.positions)

-- there are key lists, but that of dictionary n is incomplete
abbrev pub IsUnlisted : CheckedFile → ℕ → ℕ → Unread → Type 0
IsUnlisted checked n count e =
    (e ≡ Changed) × ((keyed : Keyed) × (checked.certificate.keys ≡ Some keyed) × (length keyed.positions < slice_index keyed.starts n + count))
