-- The faults of a count that follows its marker. Source: the format comment of CFBinaryPList.c; places are profile.
use Rattle.std.specs.Prelude.{◌≡◌, ◌⊎◌, ℕ, ◌+◌, ◌<◌, ◌≤◌, List, slice_index, Some}
use Rattle.bplist_objects.specs.declared.rule.Rule.TheVariants.{Count, Extent}
use Rattle.bplist_objects.specs.declared.fault.Fault.{Fault}
use Rattle.bplist_objects.specs.Markers.{IsIntMarker, HasLongCount}

-- the byte after the marker is before the table and is no integer's marker
abbrev pub IsFormFault : List ℕ → ℕ → ℕ → Fault → Type 0
IsFormFault f table place fault =
    (fault.rule ≡ Count) × (place + 1 < table) × (IsIntMarker (slice_index f (place + 1)) → ⊥)
    × (fault.place ≡ place + 1)

-- a byte of the count, or of a body of this count, would not be before the table
abbrev pub IsCountExtentFault : List ℕ → ℕ → ℕ → Fault → Type 0
IsCountExtentFault f table place fault =
    (fault.rule ≡ Extent) × (fault.place ≡ place)
    × ((table ≤ place + 1) ⊎ ((count : ℕ) × (body : ℕ) × HasLongCount f place count body × (table < body + count)))

-- the count after the marker has a fault
abbrev pub IsLongCountFault : List ℕ → ℕ → ℕ → ℕ → Fault → Type 0
IsLongCountFault f table place n fault =
    (fault.object ≡ Some (record { 0 = n })) × (IsFormFault f table place fault ⊎ IsCountExtentFault f table place fault)
