-- What the first look at an object finds. Source: profile.
use Rattle.std.specs.Prelude.{◌≡◌, ℕ, ◌+◌, ◌-◌, ◌*◌, ◌<◌, ◌≤◌, ◌⊎◌, Bool, true, IsTrue, nat_eq, nat_lt, if◌then◌else◌, List, Option, Some, None}
use Rattle.std.specs.Option.{option_map, option_and_then}
use Rattle.bplist_objects.specs.declared.frame.Frame.{Frame}
use Rattle.bplist_objects.specs.declared.head.Kind.{Kind}
use Rattle.bplist_objects.specs.declared.head.Kind.TheVariants as kinds
use Rattle.bplist_objects.specs.declared.head.Head.{Head}
use Rattle.bplist_objects.specs.declared.scan.Visit.{Visit}
use Rattle.bplist_objects.specs.declared.scan.Visit.TheVariants as visits
use Rattle.bplist_objects.specs.Frame.{off}
use Rattle.bplist_objects.specs.Rules.{KeepsAll}
use Rattle.bplist_objects.specs.Safe.{IsSafeHead, ref_count}
use Rattle.bplist_objects.specs.Announced.{item_size, HasHead}
use Rattle.bplist_objects.specs.Markers.{Markers, plain, counted, markers_of, kind_at}
use Rattle.bplist_objects.specs.ObjectRules.{KeepsByObject, shape_rules, object_rules}

-- a rule is about bodies of this kind: rule 18 or 19, or rule 20 if there are references
abbrev pub is_looked_into : Kind → Bool
is_looked_into kind = elim kind [ kinds.Ascii ↦ true | kinds.Uid ↦ true | other ↦ nat_lt 0 (ref_count other 1) ]

-- the count that a marker of this form holds, if it does not follow
abbrev pub count_in : Markers → ℕ → Option ℕ
count_in (plain low high says) marker = Some (says marker)
count_in (counted high) marker = if nat_eq marker (16 * high + 15) then None else Some (marker - 16 * high)

-- the size of an object with this marker and kind, in bytes, if the marker gives it and no rule is about the body
abbrev pub size_of_kind : ℕ → Kind → Option ℕ
size_of_kind marker kind =
    if is_looked_into kind then None else option_map (λ count. 1 + count * item_size 1 kind) (count_in (markers_of kind) marker)

-- the same, from the marker only
abbrev pub size_said : ℕ → Option ℕ
size_said marker = option_and_then (size_of_kind marker) (kind_at marker)

-- a visit of object n finds its end (it keeps rules 14 to 20 and has no references) or a head still to be checked
abbrev pub IsVisited : List ℕ → Frame → ℕ → Visit → Type 0
IsVisited f F n (visits.Done last) =
    (head : Head) × HasHead f F n head × (head.«end» ≡ last) × (ref_count head.kind head.count ≡ 0)
    × KeepsAll (KeepsByObject f F n) object_rules
IsVisited f F n (visits.Body head) =
    HasHead f F n head × KeepsAll (KeepsByObject f F n) shape_rules
    × (IsTrue (is_looked_into head.kind) ⊎ (off f F n + 1 < head.body))

-- what a visit of an object at this place finds is after the place and before the table
abbrev pub IsSafeVisit : Frame → ℕ → Visit → Type 0
IsSafeVisit F place (visits.Done last) = (place < last) × (last ≤ F.table)
IsSafeVisit F place (visits.Body head) = IsSafeHead F head × (place < head.body)
