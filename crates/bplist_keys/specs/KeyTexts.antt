-- Texts in memory. Source: profile.
use Rattle.std.specs.Prelude.{◌≡◌, ℕ, ◌+◌, ◌-◌, ◌<◌, ◌≤◌, List, [], ◌∷◌, ◌++◌, Option, MatchOption, length, slice_index}
use Rattle.bplist_octets.specs.Octets.{part}
use Rattle.bplist_objects.specs.declared.frame.Frame.{Frame}
use Rattle.bplist_keys.specs.declared.key_texts.KeyTexts.{KeyTexts}
use Rattle.bplist_keys.specs.declared.sorting.Item.{Item}
use Rattle.bplist_keys.specs.Fronts.{IsFront}
use Rattle.bplist_keys.specs.Groups.{item_at}
use Rattle.bplist_keys.specs.Texts.{HasTextShape, text_units}

-- a text was read behind the others
pub record IsTextBehind (us : List ℕ) (old new : KeyTexts) : Type 0 where
  pub units : new.units.items ≡ old.units.items ++ us
  pub starts : new.starts.items ≡ old.starts.items ++ length new.units.items ∷ []

-- the item has the index of its text
pub record IsHeld (text : ℕ → List ℕ) (texts : KeyTexts) (item : Item) : Type 0 where
  pub inside : item.group + 1 < length texts.starts.items
  pub order : slice_index texts.starts.items item.group ≤ slice_index texts.starts.items (item.group + 1)
  pub within : slice_index texts.starts.items (item.group + 1) ≤ length texts.units.items
  pub units : part texts.units.items (slice_index texts.starts.items item.group)
      (slice_index texts.starts.items (item.group + 1) - slice_index texts.starts.items item.group) ≡ text item.object

-- each item has the index of its text
abbrev pub AreHeld : (ℕ → List ℕ) → KeyTexts → List Item → Type 0
AreHeld text texts xs = (k : ℕ) → k < length xs → IsHeld text texts (item_at xs k)

-- the item has the front of its text
abbrev pub HasFront : (ℕ → List ℕ) → KeyTexts → Item → Type 0
HasFront text texts item = IsFront texts.units.items texts.fronts (text item.object) item.number

module _ (f : List ℕ) (F : Frame) where
  -- the item's text can be compared: it is in memory, or no text is and it can be read
  abbrev pub IsReady : Option KeyTexts → Item → Type 0
  IsReady texts item = MatchOption texts (HasTextShape f F item.object)
      (λ held. IsHeld (text_units f F) held item × HasFront (text_units f F) held item)

  abbrev pub AreReady : Option KeyTexts → List Item → Type 0
  AreReady texts xs = (k : ℕ) → k < length xs → IsReady texts (item_at xs k)
