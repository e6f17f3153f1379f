-- The frame of a file (the five numbers of its trailer), and rules 1 to 13 of a file as a whole. Source: the format
-- comment of CFBinaryPList.c; the limits of rules 1, 8 and 9, all words and the order are profile.
use Rattle.std.specs.Prelude.{◌≡◌, ℕ, ◌+◌, ◌-◌, ◌*◌, ◌^◌, ◌<◌, ◌≤◌, List, [], ◌∷◌, ◌++◌, length, slice_index}
use Rattle.std.specs.List.{AllByRecursion}
use Rattle.bplist_objects.specs.declared.frame.Frame.{Frame}
use Rattle.bplist_objects.specs.declared.rule.Rule.{Rule}
use Rattle.bplist_objects.specs.declared.rule.Rule.TheVariants.{TooLarge, TooShort, Magic, NoObjects, Top, TableEarly, TableLate, OffsetSize, RefSize, Length, RefNarrow, OffsetNarrow, OffsetHigh}
use Rattle.bplist_objects.specs.Numbers.{num_at}

-- the eight bytes `bplist00`
abbrev pub header : List ℕ
header = 98 ∷ 112 ∷ 108 ∷ 105 ∷ 115 ∷ 116 ∷ 48 ∷ 48 ∷ []

-- the five numbers of the last 32 bytes
abbrev pub trailer : List ℕ → Frame
trailer f = record {
  offset_size = num_at f (length f - 26) 1;
  ref_size = num_at f (length f - 25) 1;
  objects = num_at f (length f - 24) 8;
  top = record { 0 = num_at f (length f - 16) 8 };
  table = num_at f (length f - 8) 8;
}

-- the place of object n, as its entry in the offset table gives it
abbrev pub off : List ℕ → Frame → ℕ → ℕ
off f F n = num_at f (F.table + n * F.offset_size) F.offset_size

-- the rules of the trailer's numbers, in order
abbrev pub number_rules : List Rule
number_rules =
    NoObjects ∷ Top ∷ TableEarly ∷ TableLate ∷ OffsetSize ∷ RefSize ∷ Length ∷ RefNarrow ∷ OffsetNarrow ∷ []

-- rules 1 to 12 in order
abbrev pub trailer_rules : List Rule
trailer_rules = TooLarge ∷ TooShort ∷ Magic ∷ number_rules

-- rules 1 to 13 in order
abbrev pub frame_rules : List Rule
frame_rules = trailer_rules ++ OffsetHigh ∷ []

-- the file keeps this one of rules 1 to 13
abbrev pub Keeps : List ℕ → Rule → Type 0
Keeps f TooLarge = length f ≤ 4294967295
Keeps f TooShort = 41 ≤ length f
Keeps f Magic = (i : ℕ) → i < 8 → slice_index f i ≡ slice_index header i
Keeps f NoObjects = 1 ≤ (trailer f).objects
Keeps f Top = (trailer f).top.0 < (trailer f).objects
Keeps f TableEarly = 9 ≤ (trailer f).table
Keeps f TableLate = (trailer f).table < length f - 32
Keeps f OffsetSize = (1 ≤ (trailer f).offset_size) × ((trailer f).offset_size ≤ 8)
Keeps f RefSize = (1 ≤ (trailer f).ref_size) × ((trailer f).ref_size ≤ 8)
Keeps f Length = (trailer f).table + (trailer f).objects * (trailer f).offset_size + 32 ≡ length f
Keeps f RefNarrow = (trailer f).ref_size < 8 → (trailer f).objects < 256 ^ (trailer f).ref_size
Keeps f OffsetNarrow = (trailer f).offset_size < 8 → (trailer f).table < 256 ^ (trailer f).offset_size
Keeps f OffsetHigh = (n : ℕ) → n < (trailer f).objects → off f (trailer f) n < (trailer f).table
Keeps f _ = Unit {0}

-- F is the trailer's numbers, and the file keeps rules 1 to 13
pub record IsFrame (f : List ℕ) (F : Frame) : Type 0 where
  pub spelled : F ≡ trailer f
  pub kept : AllByRecursion (Keeps f) frame_rules
