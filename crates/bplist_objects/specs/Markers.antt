-- The head that marker and count announce, as a function, and the same by place and index, for contracts and proofs
-- inside crates. Announced says what a head is; the lemmas `head_is_found` and `found_head` tie the two. Source: as
-- there.
use Rattle.std.specs.Prelude.{◌≡◌, ◌⊎◌, ℕ, ◌+◌, ◌-◌, ◌*◌, ◌^◌, ◌<◌, ◌≤◌, Bool, true, false, ◌&&◌, nat_eq, nat_le, if◌then◌else◌, List, [], ◌∷◌, slice_index, Option, Some, None, find}
use Rattle.std.specs.Option.{option_map, option_and_then}
use Rattle.bplist_objects.specs.declared.frame.Frame.{Frame}
use Rattle.bplist_objects.specs.declared.head.Kind.{Kind}
use Rattle.bplist_objects.specs.declared.head.Kind.TheVariants as kinds
use Rattle.bplist_objects.specs.declared.head.Head.{Head}
use Rattle.bplist_objects.specs.Numbers.{num_at}
use Rattle.bplist_objects.specs.Frame.{off}
use Rattle.bplist_objects.specs.Announced.{item_size}

-- how markers give a count: by a function of the marker, or as the low half of this high half (15: it follows)
pub data Markers : Type 0 where
  plain : (low high : ℕ) → (ℕ → ℕ) → Markers
  counted : (high : ℕ) → Markers

-- the markers of each kind and the counts that they give
abbrev pub markers_of : Kind → Markers
markers_of kinds.Null = plain 0 0 (λ marker. 0)
markers_of kinds.False = plain 8 8 (λ marker. 0)
markers_of kinds.True = plain 9 9 (λ marker. 0)
markers_of kinds.Int = plain 16 20 (λ marker. 2 ^ (marker - 16))
markers_of kinds.Real = plain 34 35 (λ marker. 2 ^ (marker - 32))
markers_of kinds.Date = plain 51 51 (λ marker. 8)
markers_of kinds.Bytes = counted 4
markers_of kinds.Ascii = counted 5
markers_of kinds.Wide = counted 6
markers_of kinds.Uid = plain 128 143 (λ marker. marker - 127)
markers_of kinds.Array = counted 10
markers_of kinds.Set = counted 12
markers_of kinds.Dict = counted 13

-- the byte is a marker of this form
abbrev pub is_marker_of : Markers → ℕ → Bool
is_marker_of (plain low high says) marker = nat_le low marker && nat_le marker high
is_marker_of (counted high) marker = nat_le (16 * high) marker && nat_le marker (16 * high + 15)

-- all kinds
abbrev pub all_kinds : List Kind
all_kinds =
    kinds.Null ∷ kinds.False ∷ kinds.True ∷ kinds.Int ∷ kinds.Real ∷ kinds.Date ∷ kinds.Bytes ∷ kinds.Ascii ∷ kinds.Wide ∷ kinds.Uid
    ∷ kinds.Array ∷ kinds.Set ∷ kinds.Dict ∷ []

-- the kind of a marker, if the byte is a marker
unfoldable pub kind_at : ℕ → Option Kind
kind_at marker = find (λ kind. is_marker_of (markers_of kind) marker) all_kinds

-- the count after the marker, as the number of an Int, and the place after it, if there is one
abbrev pub long_found : List ℕ → ℕ → Option (ℕ × ℕ)
long_found f place =
    let size = 2 ^ (slice_index f (place + 1) - 16) in
    if is_marker_of (markers_of kinds.Int) (slice_index f (place + 1)) then Some (num_at f (place + 2) size, place + 2 + size) else None

-- the count and the body that a marker of this form announces
abbrev pub count_found : List ℕ → ℕ → Markers → Option (ℕ × ℕ)
count_found f place (plain low high says) = Some (says (slice_index f place), place + 1)
count_found f place (counted high) =
    if nat_eq (slice_index f place) (16 * high + 15) then long_found f place else Some (slice_index f place - 16 * high, place + 1)

module _ (f : List ℕ) (F : Frame) where
  -- the head of this kind with this count and body
  abbrev pub head_with : Kind → ℕ × ℕ → Head
  head_with kind (count, body) = record { kind = kind; count = count; body = body; end = body + count * item_size F.ref_size kind }

  -- the head that marker and count of object n announce, if any
  unfoldable pub head_found : ℕ → Option Head
  head_found n =
      option_and_then (λ kind. option_map (head_with kind) (count_found f (off f F n) (markers_of kind))) (kind_at (slice_index f (off f F n)))

-- ---- the same by place and index
-- the least marker of a form
abbrev pub least_marker : Markers → ℕ
least_marker (plain low high says) = low
least_marker (counted high) = 16 * high

-- the greatest marker of a form
abbrev pub greatest_marker : Markers → ℕ
greatest_marker (plain low high says) = high
greatest_marker (counted high) = 16 * high + 15

-- the byte is a marker of this kind
abbrev pub Marks : ℕ → Kind → Type 0
Marks marker kind = (least_marker (markers_of kind) ≤ marker) × (marker ≤ greatest_marker (markers_of kind))

-- the marker holds a count, or says that it follows
abbrev pub is_counted : Markers → Bool
is_counted (plain low high says) = false
is_counted (counted high) = true

-- the marker is of this form, and says that the count follows
abbrev pub IsLongOf : Markers → ℕ → Type 0
IsLongOf (plain low high says) marker = ⊥
IsLongOf (counted high) marker = marker ≡ 16 * high + 15

-- the marker says that the count follows
abbrev pub IsLong : ℕ → Type 0
IsLong marker = (kind : Kind) × IsLongOf (markers_of kind) marker

-- the byte after such a marker is that of an integer of 1 to 16 bytes
abbrev pub IsIntMarker : ℕ → Type 0
IsIntMarker form = (16 ≤ form) × (form ≤ 20)

-- the count after the marker, and the place after that count
abbrev pub HasLongCount : List ℕ → ℕ → ℕ → ℕ → Type 0
HasLongCount f place count body =
    (w : ℕ) × (w ≤ 4) × (slice_index f (place + 1) ≡ 16 + w) × (count ≡ num_at f (place + 2) (2 ^ w))
    × (body ≡ place + 2 + 2 ^ w)

-- marker and count have this form and announce this count and body
abbrev pub AnnouncesAs : List ℕ → ℕ → Markers → ℕ → ℕ → Type 0
AnnouncesAs f place (plain low high says) count body =
    (low ≤ slice_index f place) × (slice_index f place ≤ high) × (count ≡ says (slice_index f place)) × (body ≡ place + 1)
AnnouncesAs f place (counted high) count body =
    ((count < 15) × (slice_index f place ≡ 16 * high + count) × (body ≡ place + 1))
    ⊎ ((slice_index f place ≡ 16 * high + 15) × HasLongCount f place count body)

-- marker and count announce this kind, count and body
abbrev pub Announces : List ℕ → ℕ → Kind → ℕ → ℕ → Type 0
Announces f place kind count body = AnnouncesAs f place (markers_of kind) count body

-- a marker of this form may give this count
abbrev pub MarkersCount : Markers → ℕ → Type 0
MarkersCount (plain low high says) count = (marker : ℕ) × (low ≤ marker) × (marker ≤ high) × (count ≡ says marker)
MarkersCount (counted high) count = Unit {0}
