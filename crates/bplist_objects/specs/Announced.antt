-- The front of an object (its marker and count), and the head that the file's bytes announce by it. Source: the format
-- comment of CFBinaryPList.c.
use Rattle.std.specs.Prelude.{◌≡◌, ◌⊎◌, ℕ, ◌+◌, ◌*◌, ◌^◌, ◌<◌, ◌≤◌, List, [], ◌∷◌, length}
use Rattle.bplist_octets.specs.Octets.{part, num}
use Rattle.bplist_objects.specs.declared.frame.Frame.{Frame}
use Rattle.bplist_objects.specs.declared.head.Kind.{Kind}
use Rattle.bplist_objects.specs.declared.head.Kind.TheVariants as kinds
use Rattle.bplist_objects.specs.declared.head.Head.{Head}
use Rattle.bplist_objects.specs.Frame.{off}

-- the number of body bytes for each item of the count
abbrev pub item_size : ℕ → Kind → ℕ
item_size ref_size kind =
    elim kind [
      | kinds.Wide ↦ 2
      | kinds.Array ↦ ref_size
      | kinds.Set ↦ ref_size
      | kinds.Dict ↦ 2 * ref_size
      | _ ↦ 1
    ]

-- a short count is below 15, and is the low half of the marker
abbrev pub IsShortCount : ℕ → ℕ → List ℕ → Type 0
IsShortCount high count front = (count < 15) × (front ≡ (16 * high + count) ∷ [])

-- a long count follows a marker with low half 15, as an integer object of 1, 2, 4, 8 or 16 bytes
abbrev pub IsLongCount : ℕ → ℕ → List ℕ → Type 0
IsLongCount high count front =
    (w : ℕ) × (l : List ℕ) × (w ≤ 4) × (length l ≡ 2 ^ w) × (num l ≡ count)
    × (front ≡ (16 * high + 15) ∷ (16 + w) ∷ l)

-- the front is a marker with this high half and this count, short or long
abbrev pub IsCount : ℕ → ℕ → List ℕ → Type 0
IsCount high count front = IsShortCount high count front ⊎ IsLongCount high count front

-- the front of an object of this kind and count: the bytes before its body
abbrev pub IsFront : Kind → ℕ → List ℕ → Type 0
IsFront kinds.Null count front = (count ≡ 0) × (front ≡ 0 ∷ [])
IsFront kinds.False count front = (count ≡ 0) × (front ≡ 8 ∷ [])
IsFront kinds.True count front = (count ≡ 0) × (front ≡ 9 ∷ [])
IsFront kinds.Int count front = (w : ℕ) × (w ≤ 4) × (count ≡ 2 ^ w) × (front ≡ (16 + w) ∷ [])
IsFront kinds.Real count front = (w : ℕ) × (2 ≤ w) × (w ≤ 3) × (count ≡ 2 ^ w) × (front ≡ (32 + w) ∷ [])
IsFront kinds.Date count front = (count ≡ 8) × (front ≡ 51 ∷ [])
IsFront kinds.Bytes count front = IsCount 4 count front
IsFront kinds.Ascii count front = IsCount 5 count front
IsFront kinds.Wide count front = IsCount 6 count front
IsFront kinds.Uid count front = (n : ℕ) × (n ≤ 15) × (count ≡ n + 1) × (front ≡ (128 + n) ∷ [])
IsFront kinds.Array count front = IsCount 10 count front
IsFront kinds.Set count front = IsCount 12 count front
IsFront kinds.Dict count front = IsCount 13 count front

-- the byte begins some front
abbrev pub IsMarker : ℕ → Type 0
IsMarker marker = (kind : Kind) × (count : ℕ) × (rest : List ℕ) × IsFront kind count (marker ∷ rest)

-- some front has this kind and count
abbrev pub MayCount : Kind → ℕ → Type 0
MayCount kind count = (front : List ℕ) × IsFront kind count front

module _ (f : List ℕ) (F : Frame) where
  -- the file's bytes from the offset of object n on are a front, and this is the head that it announces
  pub record HasHead (n : ℕ) (head : Head) : Type 0 where
    pub front : List ℕ
    pub announces : IsFront head.kind head.count front
    pub stands : part f (off f F n) (length front) ≡ front
    pub body : head.body ≡ off f F n + length front
    pub ends : head.«end» ≡ head.body + head.count * item_size F.ref_size head.kind
