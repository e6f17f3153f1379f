-- Rules 14 to 20 of an object by itself: how each is kept, and how it is broken and where. Source: the format comment
-- of CFBinaryPList.c; all words, places and the order are profile.
use Rattle.std.specs.Prelude.{◌≡◌, ℕ, ◌+◌, ◌*◌, ◌<◌, ◌≤◌, List, [], ◌∷◌, ◌++◌, slice_index}
use Rattle.bplist_objects.specs.declared.rule.Rule.{Rule}
use Rattle.bplist_objects.specs.declared.rule.Rule.TheVariants.{OffsetLow, Marker, Count, Extent, NotAscii, UidLarge, RefHigh}
use Rattle.bplist_objects.specs.declared.fault.Fault.{Fault}
use Rattle.bplist_objects.specs.declared.frame.Frame.{Frame}
use Rattle.bplist_objects.specs.declared.head.Kind.TheVariants as kinds
use Rattle.bplist_objects.specs.declared.head.Head.{Head}
use Rattle.bplist_objects.specs.Numbers.{num_at}
use Rattle.bplist_objects.specs.Frame.{off}
use Rattle.bplist_objects.specs.Rules.{IsFirstFault, OfObject}
use Rattle.bplist_objects.specs.Scan.{AreBelow, IsFirstNotBelow}
use Rattle.bplist_objects.specs.Safe.{ref_count}
use Rattle.bplist_objects.specs.Announced.{IsMarker, HasHead}

-- rules 14 to 17 in order
abbrev pub shape_rules : List Rule
shape_rules = OffsetLow ∷ Marker ∷ Count ∷ Extent ∷ []

-- rules 18 to 20 in order
abbrev pub body_rules : List Rule
body_rules = NotAscii ∷ UidLarge ∷ RefHigh ∷ []

-- rules 14 to 20 in order
abbrev pub object_rules : List Rule
object_rules = shape_rules ++ body_rules

-- object n keeps this rule; rules 16 and 17 require nothing if the marker, or for rule 17 the count, is already wrong
abbrev pub KeepsByObject : List ℕ → Frame → ℕ → Rule → Type 0
KeepsByObject f F n OffsetLow = 8 ≤ off f F n
KeepsByObject f F n Marker = IsMarker (slice_index f (off f F n))
KeepsByObject f F n Count =
    IsMarker (slice_index f (off f F n)) → off f F n + 1 < F.table → (head : Head) × HasHead f F n head
KeepsByObject f F n Extent =
    IsMarker (slice_index f (off f F n))
    → (off f F n + 1 < F.table → (head : Head) × HasHead f F n head)
    → (head : Head) × HasHead f F n head × (head.«end» ≤ F.table)
KeepsByObject f F n NotAscii =
    (head : Head) → HasHead f F n head → head.kind ≡ kinds.Ascii
    → AreBelow f head.body 1 head.count 128
KeepsByObject f F n UidLarge =
    (head : Head) → HasHead f F n head → head.kind ≡ kinds.Uid
    → num_at f head.body head.count ≤ 4294967295
KeepsByObject f F n RefHigh =
    (head : Head) → HasHead f F n head
    → AreBelow f head.body F.ref_size (ref_count head.kind head.count) F.objects
KeepsByObject f F n _ = Unit {0}

-- object n breaks this rule at this place
abbrev pub BreaksByObject : List ℕ → Frame → ℕ → Rule → ℕ → Type 0
BreaksByObject f F n OffsetLow place =
    (KeepsByObject f F n OffsetLow → ⊥) × (place ≡ F.table + n * F.offset_size)
BreaksByObject f F n Count place = (KeepsByObject f F n Count → ⊥) × (place ≡ off f F n + 1)
BreaksByObject f F n NotAscii place =
    (head : Head) × (i : ℕ) × HasHead f F n head × (head.kind ≡ kinds.Ascii)
    × IsFirstNotBelow f head.body 1 head.count 128 i × (place ≡ head.body + i)
BreaksByObject f F n RefHigh place =
    (head : Head) × (i : ℕ) × HasHead f F n head
    × IsFirstNotBelow f head.body F.ref_size (ref_count head.kind head.count) F.objects i
    × (place ≡ head.body + i * F.ref_size)
BreaksByObject f F n rule place = (KeepsByObject f F n rule → ⊥) × (place ≡ off f F n)

-- the fault is of the first of these rules that object n breaks
abbrev pub IsObjectFault : List ℕ → Frame → ℕ → List Rule → Fault → Type 0
IsObjectFault f F n rules fault = IsFirstFault (KeepsByObject f F n) (OfObject n (BreaksByObject f F n)) rules fault
