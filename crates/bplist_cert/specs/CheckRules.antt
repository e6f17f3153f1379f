-- How an object keeps each rule, and how it breaks it and where, for any set of objects and any certificate. Then the
-- rules of the check, in their order.
-- Source: profile.
use Rattle.std.specs.Prelude.{◌≡◌, ◌⊎◌, ℕ, ◌+◌, ◌*◌, ◌<◌, min, Bool, true, false, cond, List, [], ◌∷◌, ◌++◌, length, slice_index, Option, Some, None, is_some, IfSome, MatchOption}
use Rattle.bplist_objects.specs.declared.rule.Rule.{Rule}
use Rattle.bplist_objects.specs.declared.rule.Rule.TheVariants.{KeyKind, KeyTwice, ChildNotVouched, HeightNotLess, Overfull, KeyOrder}
use Rattle.bplist_objects.specs.declared.fault.Fault.{Fault}
use Rattle.bplist_objects.specs.declared.frame.Frame.{Frame}
use Rattle.bplist_objects.specs.declared.head.Head.{Head}
use Rattle.bplist_objects.specs.declared.head.Kind.TheVariants as kinds
use Rattle.bplist_objects.specs.Frame.{off}
use Rattle.bplist_objects.specs.Safe.{ref_count}
use Rattle.bplist_objects.specs.Announced.{HasHead}
use Rattle.bplist_objects.specs.Rules.{KeepsAll, IsFirstFault, OfObject}
use Rattle.bplist_objects.specs.ObjectRules.{KeepsByObject, BreaksByObject, object_rules}
use Rattle.bplist_objects.specs.Extents.{IsOverfull}
use Rattle.bplist_objects.specs.Claims.{FailsAt}
use Rattle.bplist_objects.specs.Scan.{ref}
use Rattle.bplist_cert.specs.Lists.{Keyed, Lists, IsCompleteList, list_of}
use Rattle.bplist_cert.specs.Valid.{IsVouchedBy}
use Rattle.bplist_cert.specs.DictKeys.{KeysAreTexts, KeysDiffer, AreInOrder, IsKeylessFault, IsTwiceFault}

-- the rules of keys: 21, then 22 or, in version 2, 32
abbrev pub key_rules : Option Keyed → List Rule
key_rules keys = KeyKind ∷ cond (is_some keys) KeyOrder KeyTwice ∷ []

-- the rules of a vouched object before those of keys, in order
abbrev pub rules_before_keys : List Rule
rules_before_keys = object_rules ++ Overfull ∷ ChildNotVouched ∷ HeightNotLess ∷ []

-- all rules of a vouched object, in order
abbrev pub check_rules : Option Keyed → List Rule
check_rules keys = rules_before_keys ++ key_rules keys

-- the key list of dictionary n is complete and in order
abbrev pub HasOrder : List ℕ → Frame → Keyed → ℕ → Head → Type 0
HasOrder f F keyed n head =
    IsCompleteList keyed n head.count × AreInOrder f F head (list_of keyed n head.count) head.count

-- the key list is incomplete, or number j is its first that is out of order; the place is that in the certificate
abbrev pub BreaksOrder : List ℕ → Frame → ℕ → Keyed → ℕ → Head → ℕ → Type 0
BreaksOrder f F count keyed n head place =
    ((length keyed.positions < slice_index keyed.starts n + head.count)
    × (place ≡ 16 + 4 * count + 4 * n))
    ⊎ (IsCompleteList keyed n head.count
    × ((j : ℕ) × FailsAt (AreInOrder f F head (list_of keyed n head.count)) head.count j
    × (place ≡ 16 + 8 * count + 4 * (slice_index keyed.starts n + j))))

-- rules 21, 22, 28 and 29, which are about an object's references
abbrev pub is_of_refs : Rule → Bool
is_of_refs rule = elim rule [
  | ChildNotVouched ↦ true
  | HeightNotLess ↦ true
  | KeyKind ↦ true
  | KeyTwice ↦ true
  | _ ↦ false
]

module _ (f : List ℕ) (F : Frame) (heights : List ℕ) (n : ℕ) where
  -- the first `many` references of object n are as this rule wants them; those to keys come before all others
  abbrev pub Asks : Rule → Head → ℕ → Type 0
  Asks ChildNotVouched head many = (k : ℕ) → k < many → IsVouchedBy heights (ref f F head k)
  Asks HeightNotLess head many =
      (k : ℕ) → k < many → slice_index heights (ref f F head k) < slice_index heights n
  Asks KeyKind head many = head.kind ≡ kinds.Dict → KeysAreTexts f F head (min many head.count)
  Asks KeyTwice head many = head.kind ≡ kinds.Dict → KeysDiffer f F head (min many head.count)
  Asks rule head many = Unit {0}

  -- all references of object n are as this rule wants them
  abbrev pub KeepsByRefs : Rule → Type 0
  KeepsByRefs rule =
      (head : Head) → HasHead f F n head → Asks rule head (ref_count head.kind head.count)

  -- the first reference of object n that is not as this rule wants it is at this place
  abbrev pub BreaksByRefs : Rule → ℕ → Type 0
  BreaksByRefs rule place =
      (head : Head) × (i : ℕ) × HasHead f F n head
      × FailsAt (Asks rule head) (ref_count head.kind head.count) i × (place ≡ head.body + i * F.ref_size)

module _ (f : List ℕ) (F : Frame) (S : ℕ → Type 0) (certificate : Lists) where
  -- object n of S keeps this rule: 31 among S, 32 by its key list, the others by its references or by itself
  abbrev pub KeepsRule : ℕ → Rule → Type 0
  KeepsRule n Overfull = IsOverfull f F S n → ⊥
  KeepsRule n KeyOrder =
      (head : Head) → HasHead f F n head → head.kind ≡ kinds.Dict
      → IfSome certificate.keys (λ keyed. HasOrder f F keyed n head)
  KeepsRule n rule =
      cond (is_of_refs rule) (KeepsByRefs f F certificate.heights n rule) (KeepsByObject f F n rule)

  -- object n of S breaks this rule at this place
  abbrev pub BreaksRule : ℕ → Rule → ℕ → Type 0
  BreaksRule n Overfull place = IsOverfull f F S n × (place ≡ off f F n)
  BreaksRule n KeyOrder place =
      (head : Head) × HasHead f F n head × (head.kind ≡ kinds.Dict)
      × MatchOption certificate.keys ⊥
      (λ keyed. BreaksOrder f F (length certificate.heights) keyed n head place)
  BreaksRule n rule place =
      cond (is_of_refs rule)
      (BreaksByRefs f F certificate.heights n rule place)
      (BreaksByObject f F n rule place)

  -- the objects of S below n keep these rules
  abbrev pub KeepBelow : List Rule → ℕ → Type 0
  KeepBelow listed n = (m : ℕ) → m < n → S m → KeepsAll (KeepsRule m) listed

  -- the first of these rules that the least object of S that breaks one breaks
  pub record IsLeastFault (listed : List Rule) (fault : Fault) : Type 0 where
    pub object : ℕ
    pub member : S object
    pub first : IsFirstFault (KeepsRule object) (OfObject object (BreaksRule object)) listed fault
    pub least : KeepBelow listed object

module _ (f : List ℕ) (F : Frame) (certificate : Lists) where
  -- vouched object n keeps all rules
  abbrev pub KeepsCheck : ℕ → Type 0
  KeepsCheck n = KeepsAll (KeepsRule f F (IsVouchedBy certificate.heights) certificate n) (check_rules certificate.keys)

  -- the first rule that vouched object n breaks
  abbrev pub IsCheckFault : ℕ → Fault → Type 0
  IsCheckFault n fault =
      let S = IsVouchedBy certificate.heights in
      IsFirstFault (KeepsRule f F S certificate n) (OfObject n (BreaksRule f F S certificate n)) (check_rules certificate.keys) fault

-- the fault of the key list of dictionary n
abbrev pub IsOrderFault : List ℕ → Frame → ℕ → Keyed → ℕ → Head → Fault → Type 0
IsOrderFault f F count keyed n head fault =
    (fault.rule ≡ KeyOrder) × (fault.object ≡ Some (record { 0 = n })) × BreaksOrder f F count keyed n head fault.place

-- the keys of dictionary n differ, or in version 2 are in order in its key list
abbrev pub KeepsLast : List ℕ → Frame → Option Keyed → ℕ → Head → Type 0
KeepsLast f F None n head = KeysDiffer f F head head.count
KeepsLast f F (Some keyed) n head = HasOrder f F keyed n head

-- the fault of the key rule other than 21
abbrev pub IsLastFault : List ℕ → Frame → ℕ → Option Keyed → ℕ → Head → Fault → Type 0
IsLastFault f F count None n head fault = IsTwiceFault f F n head fault
IsLastFault f F count (Some keyed) n head fault = IsOrderFault f F count keyed n head fault

-- the fault of the first key rule that is broken
abbrev pub IsKeysFault : List ℕ → Frame → ℕ → Option Keyed → ℕ → Head → Fault → Type 0
IsKeysFault f F count keys n head fault =
    (head.kind ≡ kinds.Dict)
    × (IsKeylessFault f F n head fault ⊎ (KeysAreTexts f F head head.count × IsLastFault f F count keys n head fault))
