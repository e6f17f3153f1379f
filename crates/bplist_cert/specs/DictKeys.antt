-- The keys of a dictionary by index: they are texts, they differ, and a key list has them in order (rules 21, 22 and
-- 32).
-- Source: the format comment of CFBinaryPList.c says what a key reference is; the rest is profile.
use Rattle.std.specs.Prelude.{◌≡◌, ◌≢◌, ℕ, suc, ◌+◌, ◌*◌, ◌<◌, List, slice_index, Some}
use Rattle.bplist_objects.specs.declared.rule.Rule.TheVariants as rules
use Rattle.bplist_objects.specs.declared.fault.Fault.{Fault}
use Rattle.std.specs.declared.cmp.Ordering.TheVariants.{Less}
use Rattle.bplist_objects.specs.declared.frame.Frame.{Frame}
use Rattle.bplist_objects.specs.declared.head.Head.{Head}
use Rattle.bplist_objects.specs.Heads.{IsHeadOf}
use Rattle.bplist_objects.specs.Units.{IsTextKind, units_of, compare_units}
use Rattle.bplist_objects.specs.Claims.{FailsAt}
use Rattle.bplist_objects.specs.Scan.{ref}

-- object m spells a text with this head
pub record IsText (f : List ℕ) (F : Frame) (m : ℕ) (head : Head) : Type 0 where
  pub within : m < F.objects
  pub is : IsHeadOf f F m head
  pub kind : IsTextKind head.kind

-- the first `count` keys are texts
abbrev pub KeysAreTexts : List ℕ → Frame → Head → ℕ → Type 0
KeysAreTexts f F head count = (k : ℕ) → k < count → (key : Head) × IsText f F (ref f F head k) key

-- key i is the first that is not a text
abbrev pub IsFirstKeyless : List ℕ → Frame → Head → ℕ → Type 0
IsFirstKeyless f F head i = FailsAt (KeysAreTexts f F head) head.count i

-- the first `count` keys have different units
abbrev pub KeysDiffer : List ℕ → Frame → Head → ℕ → Type 0
KeysDiffer f F head count =
    (i j : ℕ) → i < j → j < count → (a b : Head)
    → IsText f F (ref f F head i) a → IsText f F (ref f F head j) b → units_of f a ≢ units_of f b

-- key j is the first that equals an earlier key
abbrev pub IsFirstTwice : List ℕ → Frame → Head → ℕ → Type 0
IsFirstTwice f F head j = FailsAt (KeysDiffer f F head) head.count j

-- the first `count` numbers of a key list are positions; each is that of a key that comes after the one before
abbrev pub AreInOrder : List ℕ → Frame → Head → List ℕ → ℕ → Type 0
AreInOrder f F head list count =
    (j : ℕ) → j < count → (slice_index list j < head.count)
    × ((i : ℕ) (a b : Head) → suc i ≡ j
    → IsText f F (ref f F head (slice_index list i)) a
    → IsText f F (ref f F head (slice_index list j)) b
    → compare_units (units_of f a) (units_of f b) ≡ Less)

-- dictionary n breaks rule 21, by its first key that is not a text
abbrev pub IsKeylessFault : List ℕ → Frame → ℕ → Head → Fault → Type 0
IsKeylessFault f F n head fault =
    (fault.rule ≡ rules.KeyKind) × (fault.object ≡ Some (record { 0 = n }))
    × ((i : ℕ) × IsFirstKeyless f F head i × (fault.place ≡ head.body + i * F.ref_size))

-- dictionary n breaks rule 22, by its first repeated key
abbrev pub IsTwiceFault : List ℕ → Frame → ℕ → Head → Fault → Type 0
IsTwiceFault f F n head fault =
    (fault.rule ≡ rules.KeyTwice) × (fault.object ≡ Some (record { 0 = n }))
    × ((i : ℕ) × IsFirstTwice f F head i × (fault.place ≡ head.body + i * F.ref_size))
