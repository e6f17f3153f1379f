-- The heights of the references of a vouched object, by index (rules 28 and 29). Source: profile.
use Rattle.std.specs.Prelude.{◌≡◌, ◌⊎◌, ℕ, ◌+◌, ◌*◌, ◌<◌, ◌≤◌, List, length, slice_index, Some}
use Rattle.bplist_objects.specs.declared.rule.Rule.{Rule}
use Rattle.bplist_objects.specs.declared.rule.Rule.TheVariants as rules
use Rattle.bplist_objects.specs.declared.fault.Fault.{Fault}
use Rattle.bplist_objects.specs.declared.frame.Frame.{Frame}
use Rattle.bplist_objects.specs.declared.head.Head.{Head}
use Rattle.bplist_objects.specs.Safe.{ref_count}
use Rattle.bplist_objects.specs.Scan.{ref}
use Rattle.bplist_objects.specs.Claims.{FailsAt}
use Rattle.bplist_cert.specs.declared.heights.Wanted.{Wanted}
use Rattle.bplist_cert.specs.declared.heights.Wanted.TheVariants.{Vouched, Below, VouchedBelow}

-- the height of a reference is as wanted
abbrev pub Meets : Wanted → ℕ → Type 0
Meets Vouched height = 1 ≤ height
Meets (Below bound) height = height < bound
Meets (VouchedBelow bound) height = (1 ≤ height) × (height < bound)

-- the first `count` references have heights as wanted
abbrev pub AreMet : List ℕ → Frame → List ℕ → Head → Wanted → ℕ → Type 0
AreMet f F heights head wanted count = (k : ℕ) → k < count → Meets wanted (slice_index heights (ref f F head k))

-- reference i is the first whose height is not as wanted
abbrev pub IsFirstUnmet : List ℕ → Frame → List ℕ → Head → Wanted → ℕ → Type 0
IsFirstUnmet f F heights head wanted i = FailsAt (AreMet f F heights head wanted) (ref_count head.kind head.count) i

-- the first `count` of a list of references have heights as wanted
abbrev pub AreMetBy : List ℕ → Wanted → List ℕ → ℕ → Type 0
AreMetBy heights wanted refs count = (k : ℕ) → k < count → Meets wanted (slice_index heights (slice_index refs k))

-- reference i of such a list is the first whose height is not as wanted
pub record IsFirstUnmetBy (heights : List ℕ) (wanted : Wanted) (refs : List ℕ) (i : ℕ) : Type 0 where
  pub within : i < length refs
  pub unmet : Meets wanted (slice_index heights (slice_index refs i)) → ⊥
  pub before : AreMetBy heights wanted refs i

-- the rule for a height that is not as wanted; for both rules together it is 29, whichever of them is broken
abbrev pub rule_of : Wanted → Rule
rule_of Vouched = rules.ChildNotVouched
rule_of (Below bound) = rules.HeightNotLess
rule_of (VouchedBelow bound) = rules.HeightNotLess

-- the fault of the first reference of object n whose height is not as wanted
abbrev pub IsUnmetFault : List ℕ → Frame → List ℕ → ℕ → Head → Wanted → Fault → Type 0
IsUnmetFault f F heights n head wanted fault =
    (fault.rule ≡ rule_of wanted) × (fault.object ≡ Some (record { 0 = n }))
    × ((i : ℕ) × IsFirstUnmet f F heights head wanted i × (fault.place ≡ head.body + i * F.ref_size))

-- all references of object n have heights, which are smaller than its own
abbrev pub AreLower : List ℕ → Frame → List ℕ → ℕ → Head → Type 0
AreLower f F heights n head =
    AreMet f F heights head Vouched (ref_count head.kind head.count)
    × AreMet f F heights head (Below (slice_index heights n)) (ref_count head.kind head.count)

-- the fault of the first of rules 28 and 29 that is broken
abbrev pub IsHeightFault : List ℕ → Frame → List ℕ → ℕ → Head → Fault → Type 0
IsHeightFault f F heights n head fault =
    IsUnmetFault f F heights n head Vouched fault
    ⊎ (AreMet f F heights head Vouched (ref_count head.kind head.count)
    × IsUnmetFault f F heights n head (Below (slice_index heights n)) fault)
