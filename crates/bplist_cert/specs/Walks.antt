-- The keys that a walk over the vouched objects has collected so far. Source: profile.
use Rattle.std.specs.Prelude.{◌≡◌, ◌≢◌, ◌⊎◌, ◌<◌, ℕ, suc, nat_lt, List, None, count_by, length, slice_index, Contains, IsTrue, Option, IfSome, MatchOption}
use Rattle.bplist_objects.specs.declared.frame.Frame.{Frame}
use Rattle.bplist_objects.specs.declared.head.Head.{Head}
use Rattle.bplist_objects.specs.declared.head.Kind.TheVariants.{Dict}
use Rattle.bplist_objects.specs.Announced.{HasHead}
use Rattle.bplist_objects.specs.Extents.{HaveRoom}
use Rattle.bplist_objects.specs.Safe.{ref_count}
use Rattle.bplist_objects.specs.Scan.{ref}
use Rattle.bplist_keys.specs.Classes.{IsNamedBy}
use Rattle.bplist_cert.specs.Valid.{IsVouchedBy}
use Rattle.bplist_cert.specs.Looks.{KeepBeforeKeysBelow}
use Rattle.bplist_cert.specs.declared.key_names.KeyNames.{KeyNames}

-- different objects have got this stamp, and none had it before
abbrev pub AreStamped : ℕ → List ℕ → List ℕ → List ℕ → Type 0
AreStamped stamp numbers before after =
    ((k : ℕ) → k < length numbers → (slice_index before (slice_index numbers k) ≢ stamp) × (slice_index after (slice_index numbers k) ≡ stamp))
    × ((j k : ℕ) → j < k → k < length numbers → slice_index numbers j ≢ slice_index numbers k)
    × ((x : ℕ) → (slice_index after x ≡ slice_index before x) ⊎ (slice_index after x ≡ stamp))

-- the objects with these numbers, and no others, have got stamps; and if no dictionary has named one twice so far, they
-- differ
pub record HasStamped (stamp : ℕ) (numbers : List ℕ) (before after : KeyNames) : Type 0 where
  pub all : length after.last.items ≡ length before.last.items
  pub keeps : (x : ℕ) → 0 < slice_index before.last.items x → 0 < slice_index after.last.items x
  pub stamped : (k : ℕ) → k < length numbers → slice_index numbers k < length before.last.items → 0 < slice_index after.last.items (slice_index numbers k)
  pub only : (x : ℕ) → 0 < slice_index after.last.items x → (0 < slice_index before.last.items x) ⊎ Contains numbers x
  pub apart : IsTrue after.apart → IsTrue before.apart × AreStamped stamp numbers before.last.items after.last.items

-- the keys of a dictionary with this head are different objects
abbrev pub AreApart : List ℕ → Frame → Head → Type 0
AreApart f F head = (j k : ℕ) → j < k → k < head.count → ref f F head j ≢ ref f F head k

-- if this is the head of a dictionary, its keys have stamps; references of the object alone have got stamps; and if no
-- dictionary has named one twice so far, the keys are different objects
pub record HasCollected (f : List ℕ) (F : Frame) (head : Head) (before after : KeyNames) : Type 0 where
  pub all : length after.last.items ≡ length before.last.items
  pub keeps : (x : ℕ) → 0 < slice_index before.last.items x → 0 < slice_index after.last.items x
  pub stamped : head.kind ≡ Dict → (k : ℕ) → k < head.count → ref f F head k < length before.last.items → 0 < slice_index after.last.items (ref f F head k)
  pub only : (x : ℕ) → 0 < slice_index after.last.items x → (0 < slice_index before.last.items x) ⊎ IsNamedBy f F head (ref_count head.kind head.count) x
  pub apart : IsTrue after.apart → IsTrue before.apart × (head.kind ≡ Dict → AreApart f F head)

-- if there are names afterwards, there were names before, and this relation is true of both
abbrev pub IfCollected : Option KeyNames → Option KeyNames → (KeyNames → KeyNames → Type 0) → Type 0
IfCollected before after Relation = IfSome after (λ now. MatchOption before ⊥ (λ was. Relation was now))

-- exactly `count` numbers are not 0, and these differ
abbrev pub AreOwn : List ℕ → ℕ → Type 0
AreOwn numbers count =
    (count_by (nat_lt 0) numbers ≡ count)
    × ((a b : ℕ) → a < b → b < length numbers → 0 < slice_index numbers a → slice_index numbers a ≢ slice_index numbers b)

-- if object n is a dictionary, its keys have stamps
abbrev pub HasStampedKeys : List ℕ → Frame → List ℕ → ℕ → Type 0
HasStampedKeys f F last n = (head : Head) → HasHead f F n head → head.kind ≡ Dict → (k : ℕ) → k < head.count → 0 < slice_index last (ref f F head k)

-- if object n is a dictionary, its keys are different objects
abbrev pub HasKeysApart : List ℕ → Frame → ℕ → Type 0
HasKeysApart f F n = (head : Head) → HasHead f F n head → head.kind ≡ Dict → AreApart f F head

-- the keys of each vouched dictionary below a bound are different objects
abbrev pub HaveKeysApart : List ℕ → Frame → List ℕ → ℕ → Type 0
HaveKeysApart f F heights bound = (n : ℕ) → n < bound → IsVouchedBy heights n → HasKeysApart f F n

-- unless none are collected, the keys of the vouched dictionaries below a bound have stamps; if no dictionary has named
-- one twice, those of each dictionary are different objects; and vouched objects alone have stamps
abbrev pub AreCollected : List ℕ → Frame → List ℕ → ℕ → Option KeyNames → Type 0
AreCollected f F heights bound names = IfSome names (λ names. (length names.last.items ≡ F.objects)
    × ((n : ℕ) → n < bound → IsVouchedBy heights n → HasStampedKeys f F names.last.items n)
    × (IsTrue names.apart → HaveKeysApart f F heights bound)
    × ((m : ℕ) → 0 < slice_index names.last.items m → IsVouchedBy heights m))

-- with object n, the keys of the vouched dictionaries up to it are collected
abbrev pub AreCollectedNext : List ℕ → Frame → List ℕ → ℕ → Option KeyNames → Option KeyNames → Type 0
AreCollectedNext f F heights n before after = AreCollected f F heights n before → AreCollected f F heights (suc n) after

-- a walk over all vouched objects found no fault, and their keys are collected
pub record AreWalked (f : List ℕ) (F : Frame) (heights : List ℕ) (names : Option KeyNames) : Type 0 where
  pub kept : KeepBeforeKeysBelow f F heights F.objects
  pub room : HaveRoom f F (IsVouchedBy heights)
  pub collected : AreCollected f F heights F.objects names
  pub some : names ≡ None → ⊥
