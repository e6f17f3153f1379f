-- The walk over the vouched objects, one after the other.
use Rattle.std.proofs.Common.{◌≡◌, ℕ, suc, ◌<◌, ◌≤◌, ◌+◌, ◌-◌, ◌*◌, min, inl, inr, List, [], ◌∷◌, length, slice_index, Option, Some, None, Result, Ok, Err, sym, ap, subst, below_more, arith}
use Rattle.std.specs.Result.{IsErrAnd, MatchResult}
use Rattle.std.proofs.lemmas.Bool.{cases_lt}
use Rattle.std.proofs.lemmas.List.{get_or_past}
use Rattle.bplist_objects.specs.declared.rule.Rule.{Rule}
use Rattle.bplist_objects.specs.declared.rule.Rule.TheVariants as rules
use Rattle.bplist_objects.specs.declared.fault.Fault.{Fault}
use Rattle.bplist_objects.specs.declared.fault.ObjectFault.{ObjectFault}
use Rattle.bplist_objects.specs.declared.fault.ObjectFault.TheVariants as errors
use Rattle.bplist_objects.specs.declared.frame.Frame.{Frame}
use Rattle.bplist_objects.specs.declared.frame.ObjectNo.{ObjectNo}
use Rattle.bplist_objects.specs.declared.head.Head.{Head}
use Rattle.bplist_objects.specs.declared.head.Kind.TheVariants as kinds
use Rattle.bplist_objects.specs.Frame.{off, IsFrame}
use Rattle.bplist_objects.specs.Safe.{ref_count}
use Rattle.bplist_objects.specs.Answers.{GivesFault, Never, Gives}
use Rattle.bplist_objects.specs.Announced.{HasHead}
use Rattle.bplist_objects.specs.FrameRules.{IsFrameFault}
use Rattle.bplist_objects.specs.Rules.{KeepsAll, IsFirstFault, OfObject}
use Rattle.bplist_objects.specs.ObjectRules.{KeepsByObject, IsObjectFault, object_rules}
use Rattle.bplist_objects.specs.Extents.{Sums, IsOverfull}
use Rattle.bplist_objects.proofs.RuleLaws.{first_fault_after, first_fault_among, kept_all_after}
use Rattle.bplist_objects.proofs.ExtentSums.{shape_extent, sums_none, sums_more, sums_same, not_overfull, overfull}
use Rattle.bplist_objects.proofs.BodyLaws.{HasHead-unique}
use Rattle.bplist_objects.proofs.HeadTies.{kept_spells}
use Rattle.bplist_objects.proofs.FrameTies.{numbered}
use Rattle.bplist_cert.specs.declared.heights.Wanted.TheVariants.{Vouched, Below}
use Rattle.bplist_cert.specs.declared.refusal.Refusal.{Refusal}
use Rattle.bplist_cert.specs.declared.refusal.Refusal.TheVariants as refusals
use Rattle.bplist_cert.specs.Lists.{Keyed, Lists, lists}
use Rattle.bplist_cert.specs.Valid.{IsVouchedBy}
use Rattle.bplist_cert.specs.Heights.{AreMet, IsHeightFault, AreLower, IsUnmetFault}
use Rattle.bplist_objects.specs.Claims.{FailsAt}
use Rattle.bplist_cert.specs.DictKeys.{KeysAreTexts, KeysDiffer, IsKeylessFault}
use Rattle.bplist_cert.specs.CheckRules.{Asks, KeepsRule, BreaksRule, KeepsCheck, IsCheckFault, check_rules, rules_before_keys, key_rules, KeepsLast}
use Rattle.bplist_cert.specs.declared.walk.Pass.{Pass}
use Rattle.bplist_cert.specs.declared.walk.Pass.TheVariants.{Quick, Exact}
use Rattle.bplist_cert.specs.Looks.{KeepsBeforeKeys, KeepBeforeKeysBelow, IsShown, IsShownFault}
use Rattle.bplist_cert.specs.KeyRepeats.{HasGoodKeys, BreaksKeys, IsFirstKeysFault}
use Rattle.bplist_cert.specs.PairFault.{IsCheckedObject, AreCheckedBelow, IsWalkFault, IsSeenFault, IsVouchedFault, IsPairFault}
use Rattle.bplist_cert.specs.Refusals.{GivesRefusal, refusal_of}
use Rattle.bplist_cert.proofs.KeyRepeats.{rules_after, good_at}

-- the first references of a dictionary are those to its keys
pub key_count : (head : Head) → head.kind ≡ kinds.Dict → min (ref_count head.kind head.count) head.count ≡ head.count
key_count head dict =
    let two : ref_count head.kind head.count ≡ 2 * head.count = ap (λ k. ref_count k head.count) dict in
    omega (arith, two)

-- a claim about the keys fails at the same number as one about the references
keys_fail : (head : Head) → head.kind ≡ kinds.Dict → (Claim : ℕ → Type 0) → ((m n : ℕ) → m ≤ n → Claim n → Claim m) → (i : ℕ) → FailsAt Claim head.count i
    → FailsAt (λ many. head.kind ≡ kinds.Dict → Claim (min many head.count)) (ref_count head.kind head.count) i
keys_fail head dict Claim fewer i (within, before, never) =
    let two : ref_count head.kind head.count ≡ 2 * head.count = ap (λ k. ref_count k head.count) dict in (
      omega (arith, within, two),
      λ _. fewer (min i head.count) i (omega arith) before,
      λ more. never (fewer (suc i) (min (suc i) head.count) (omega (arith, within)) (more dict)),
    )

-- all heads of an object are this one
any_head : (f : List ℕ) (F : Frame) (n : ℕ) (head : Head) → HasHead f F n head → (Claim : Head → ℕ → Type 0) → Claim head (ref_count head.kind head.count)
    → (other : Head) → HasHead f F n other → Claim other (ref_count other.kind other.count)
any_head f F n head has Claim here other h = subst (λ (x : Head). Claim x (ref_count x.kind x.count)) (HasHead-unique f F n head other has h) here

module _ (f : List ℕ) (F : Frame) (S : ℕ → Type 0) (heights : List ℕ) (n : ℕ) where
  -- good keys keep the rules of keys, and keys that keep them are good
  pub kept_by_good : (keys : Option Keyed) → HasGoodKeys f F keys n → KeepsAll (KeepsRule f F S (lists heights keys) n) (key_rules keys)
  kept_by_good None good = (
    λ head has dict. subst (KeysAreTexts f F head) (sym (key_count head dict)) (good head has dict).0,
    (λ head has dict. subst (KeysDiffer f F head) (sym (key_count head dict)) (good head has dict).1, tt),
  )
  kept_by_good (Some keyed) good =
      (λ head has dict. subst (KeysAreTexts f F head) (sym (key_count head dict)) (good head has dict).0, (λ head has dict. (good head has dict).1, tt))

  pub good_by_kept : (keys : Option Keyed) → KeepsAll (KeepsRule f F S (lists heights keys) n) (key_rules keys) → HasGoodKeys f F keys n
  good_by_kept None k head has dict =
      (subst (KeysAreTexts f F head) (key_count head dict) (k.0 head has dict), subst (KeysDiffer f F head) (key_count head dict) (k.1.0 head has dict))
  good_by_kept (Some keyed) k head has dict = (subst (KeysAreTexts f F head) (key_count head dict) (k.0 head has dict), k.1.0 head has dict)

  module _ (fault : Fault) (head : Head) (has : HasHead f F n head) (dict : head.kind ≡ kinds.Dict) where
    -- rule 21 is broken, or kept
    keyless : (keys : Option Keyed) → IsKeylessFault f F n head fault → (fault.rule ≡ rules.KeyKind) × OfObject n (BreaksRule f F S (lists heights keys) n) rules.KeyKind fault.object fault.place
    keyless keys (rule, object, (i, first, place)) =
        (rule, (object, (head, i, has, keys_fail head dict (KeysAreTexts f F head) (λ m k few t i l. t i (omega (arith, few, l))) i first, place)))

    texted : (keys : Option Keyed) → KeysAreTexts f F head head.count → KeepsRule f F S (lists heights keys) n rules.KeyKind
    texted keys texts = any_head f F n head has (Asks f F heights n rules.KeyKind) (λ _. subst (KeysAreTexts f F head) (sym (key_count head dict)) texts)

  -- the first rule of keys that is broken
  pub first_of_keys : (keys : Option Keyed) (fault : Fault) → BreaksKeys f F (length heights) keys n fault
      → IsFirstFault (KeepsRule f F S (lists heights keys) n) (OfObject n (BreaksRule f F S (lists heights keys) n)) (key_rules keys) fault
  first_of_keys None fault (head, has, (dict, inl h)) = inl (keyless fault head has dict None h)
  first_of_keys None fault (head, has, (dict, inr (texts, (rule, object, (i, first, place))))) =
      let broken = keys_fail head dict (KeysDiffer f F head) (λ m k few d i j lt l. d i j lt (omega (arith, few, l))) i first in
      inr (texted fault head has dict None texts, inl (rule, (object, (head, i, has, broken, place))))
  first_of_keys (Some keyed) fault (head, has, (dict, inl h)) = inl (keyless fault head has dict (Some keyed) h)
  first_of_keys (Some keyed) fault (head, has, (dict, inr (texts, (rule, object, broken)))) =
      inr (texted fault head has dict (Some keyed) texts, inl (rule, (object, (head, has, dict, broken))))

module _ (f : List ℕ) (F : Frame) (heights : List ℕ) (keys : Option Keyed) (n : ℕ) where
  abbrev Keeps : Rule → Type 0
  Keeps rule = KeepsRule f F (IsVouchedBy heights) (lists heights keys) n rule

  abbrev Breaks : Rule → Option ObjectNo → ℕ → Type 0
  Breaks rule object place = OfObject n (BreaksRule f F (IsVouchedBy heights) (lists heights keys) n) rule object place

  abbrev Broken : Fault → Type 0
  Broken fault = IsCheckFault f F (lists heights keys) n fault

  module _ (s : KeepsBeforeKeys f F heights n) where
    -- a seen object with good keys keeps all rules
    pub good_keeps : HasGoodKeys f F keys n → KeepsCheck f F (lists heights keys) n
    good_keeps good = kept_all_after Keeps rules_before_keys (key_rules keys) s (kept_by_good f F (IsVouchedBy heights) heights n keys good)

    -- the first fault of its keys is its first
    pub keys_break : (fault : Fault) → BreaksKeys f F (length heights) keys n fault → Broken fault
    keys_break fault h = first_fault_after Keeps Breaks rules_before_keys (key_rules keys) fault s (first_of_keys f F (IsVouchedBy heights) heights n keys fault h)

  -- a fault of the object by itself
  pub object_fault : (e : ObjectFault) → GivesFault (IsObjectFault f F n object_rules) e → GivesFault Broken e
  object_fault (errors.Fault fault) h = first_fault_among Keeps Breaks object_rules (rules_after (key_rules keys)) fault h
  object_fault (errors.Read r) h = tt

  module _ (frame : IsFrame f F) (lt : n < F.objects) (head : Head) (has : HasHead f F n head) (kept : KeepsAll (KeepsByObject f F n) object_rules) (vouched : IsVouchedBy heights n) (t : ℕ) (sums : Sums f F (IsVouchedBy heights) n t) where
    abbrev now : ℕ
    now = t + (head.«end» - off f F n)

    -- with the object, the running sum
    more : Sums f F (IsVouchedBy heights) (suc n) now
    more =
        let extent = shape_extent f F n head (kept_spells f F n frame lt head has kept).0 in
        sums_more f F (IsVouchedBy heights) n (head.«end» - off f F n) t vouched extent sums

    -- rules 14 to 20 are kept, and this is the first fault of those after them
    after_own : (fault : Fault) → IsFirstFault Keeps Breaks (rules_after (key_rules keys)) fault → Broken fault
    after_own fault h = first_fault_after Keeps Breaks object_rules (rules_after (key_rules keys)) fault kept h

    -- the sum is too large
    pub overfull_fault : (fault : Fault) → fault.rule ≡ rules.Overfull → fault.object ≡ Some (record { 0 = n }) → fault.place ≡ off f F n → F.table < now + 8 → Broken fault
    overfull_fault fault rule object place large =
        after_own fault (inl (rule, (object, (overfull f F (IsVouchedBy heights) n now more large, place))))

    module _ (room : now + 8 ≤ F.table) where
      roomy : IsOverfull f F (IsVouchedBy heights) n → ⊥
      roomy = not_overfull f F (IsVouchedBy heights) n now more room

      -- what a rule wants, by this head
      by_head : (rule : Rule) → Asks f F heights n rule head (ref_count head.kind head.count)
          → (other : Head) → HasHead f F n other → Asks f F heights n rule other (ref_count other.kind other.count)
      by_head rule = any_head f F n head has (Asks f F heights n rule)

      -- a fault of the heights
      pub heights_fault : (e : ObjectFault) → GivesFault (IsHeightFault f F heights n head) e → GivesFault Broken e
      heights_fault (errors.Fault fault) (inl (rule, object, (i, first, place))) =
          after_own fault (inr (roomy, inl (rule, (object, (head, i, has, first, place)))))
      heights_fault (errors.Fault fault) (inr (met, (rule, object, (i, first, place)))) =
          after_own fault (inr (roomy, inr (by_head rules.ChildNotVouched met, inl (rule, (object, (head, i, has, first, place))))))
      heights_fault (errors.Read r) h = tt

      module _ (met : AreMet f F heights head Vouched (ref_count head.kind head.count)) (low : AreMet f F heights head (Below (slice_index heights n)) (ref_count head.kind head.count)) where
        -- the object keeps the rules before those of keys
        pub seen : IsCheckedObject f F (lists heights keys) Quick n now
        seen = record {
          sums = more;
          room = room;
          kept = kept_all_after (KeepsRule f F (IsVouchedBy heights) (lists heights None) n) object_rules (rules_after []) kept
              (roomy, (by_head rules.ChildNotVouched met, (by_head rules.HeightNotLess low, tt)));
        }

        -- the object keeps all rules
        pub held : (head.kind ≡ kinds.Dict → KeysAreTexts f F head head.count × KeepsLast f F keys n head) → IsCheckedObject f F (lists heights keys) Exact n now
        held last = record { sums = more; room = room; kept = good_keeps seen.kept (good_at f F keys n head has last) }

  module _ (look : Pass) where
    below_by : ((m : ℕ) → m < n → IsVouchedBy heights m → IsShown f F (lists heights keys) look m) → (IsVouchedBy heights n → IsShown f F (lists heights keys) look n)
        → (m : ℕ) → m < suc n → IsVouchedBy heights m → IsShown f F (lists heights keys) look m
    below_by below here m low = below_more (λ k. IsVouchedBy heights k → IsShown f F (lists heights keys) look k) n below here m (omega (arith, low))

    -- the next object is not vouched for
    pub passed : (slice_index heights n ≡ 0) → (t : ℕ) → AreCheckedBelow f F (lists heights keys) look n t → AreCheckedBelow f F (lists heights keys) look (suc n) t
    passed none t run =
        let never : IsVouchedBy heights n → ⊥ = λ v. omega (arith, v, none) in
        record { sums = sums_same f F (IsVouchedBy heights) n t never run.sums; room = run.room; kept = below_by run.kept (λ v. absurd (never v)) }

    -- the next object is vouched for
    pub held_more : (t : ℕ) → AreCheckedBelow f F (lists heights keys) look n t → (u : ℕ) → IsCheckedObject f F (lists heights keys) look n u → AreCheckedBelow f F (lists heights keys) look (suc n) u
    held_more t run u h = record { sums = h.sums; room = h.room; kept = below_by run.kept (λ _. h.kept) }

  -- the fault of a vouched object is that of the walk
  pub fault_met : n < F.objects → IsVouchedBy heights n → (look : Pass) (t : ℕ) → AreCheckedBelow f F (lists heights keys) Quick n t → (fault : Fault)
      → IsShownFault f F (lists heights keys) look n fault → IsWalkFault f F (lists heights keys) look fault
  fault_met within v Quick t run fault h = λ kept. h (kept n within v)
  fault_met within v Exact t run fault h = record { object = n; vouched = v; first = h; seen = run.kept }

-- what is vouched for is an object
pub vouched_inside : (heights : List ℕ) (count n : ℕ) → length heights ≡ count → IsVouchedBy heights n → n < count
vouched_inside heights count n e v = elim (cases_lt n (length heights)) [
  | inl a ↦ omega (arith, a, e)
  | inr b ↦ absurd (let none = get_or_past heights n 0 b in omega (arith, v, none))
]

-- before the first object
pub start : (f : List ℕ) (F : Frame) (certificate : Lists) (look : Pass) → IsFrame f F → AreCheckedBelow f F certificate look 0 0
start f F certificate look frame = record {
  sums = sums_none f F (IsVouchedBy certificate.heights);
  room = omega (arith, (numbered frame).table_early);
  kept = λ m lt v. absurd (omega arith);
}

-- if each broken rule names an object, so does the first fault
names_object : (keeps : Rule → Type 0) (breaks : Rule → Option ObjectNo → ℕ → Type 0) (o : Option ObjectNo) → ((rule : Rule) (object : Option ObjectNo) (place : ℕ) → breaks rule object place → object ≡ o)
    → (rules : List Rule) (fault : Fault) → IsFirstFault keeps breaks rules fault → fault.object ≡ o
names_object keeps breaks o names [] fault h = absurd h
names_object keeps breaks o names (rule ∷ rules) fault (inl h) = names rule fault.object fault.place h.1
names_object keeps breaks o names (rule ∷ rules) fault (inr h) = names_object keeps breaks o names rules fault h.1

module _ (f : List ℕ) (F : Frame) (heights : List ℕ) (keys : Option Keyed) where
  -- if all vouched objects are seen and their keys are good, they keep all rules
  pub all_good : (t : ℕ) → AreCheckedBelow f F (lists heights keys) Quick F.objects t → ((n : ℕ) → n < F.objects → IsVouchedBy heights n → HasGoodKeys f F keys n) → AreCheckedBelow f F (lists heights keys) Exact F.objects t
  all_good t run good = record { sums = run.sums; room = run.room; kept = λ m lt v. good_keeps f F heights keys m (run.kept m lt v) (good m lt v) }

  module _ (fault : Fault) where
    -- the first fault of keys is the first of all, if all vouched objects up to it are seen
    pub keys_first : (bound : ℕ) → KeepBeforeKeysBelow f F heights bound → IsFirstKeysFault f F (lists heights keys) bound fault → IsVouchedFault f F (lists heights keys) fault
    keys_first bound seen k = record {
      object = k.object;
      member = k.vouched;
      first = keys_break f F heights keys k.object (seen k.object k.within k.vouched) fault k.breaks;
      least = λ m lt v. good_keeps f F heights keys m (seen m (omega (arith, lt, k.within)) v) (k.before m lt v);
    }

    -- the first fault of seen objects is the first of all, if the keys before it are good
    pub seen_first : (s : IsSeenFault f F (lists heights keys) fault) → ((n : ℕ) → n < s.object → IsVouchedBy heights n → HasGoodKeys f F keys n) → IsVouchedFault f F (lists heights keys) fault
    seen_first s good = record { object = s.object; member = s.vouched; first = s.first; least = λ m lt v. good_keeps f F heights keys m (s.seen m lt v) (good m lt v) }

    -- it names its object, which is one
    pub seen_object : (s : IsSeenFault f F (lists heights keys) fault) → fault.object ≡ Some (record { 0 = s.object })
    seen_object s =
        names_object (KeepsRule f F (IsVouchedBy heights) (lists heights keys) s.object) (OfObject s.object (BreaksRule f F (IsVouchedBy heights) (lists heights keys) s.object)) (Some (record { 0 = s.object })) (λ rule object place b. b.0)
        (check_rules keys) fault s.first

-- a fault of the file as a whole
pub frame_fault : (f : List ℕ) (certificate : Lists) (e : ObjectFault) → GivesFault (IsFrameFault f) e → GivesRefusal (IsPairFault f certificate) (refusal_of e)
frame_fault f certificate (errors.Fault fault) h = inl h
frame_fault f certificate (errors.Read r) h = tt

-- a claim about a fault is one about the refusal
pub object_refused : (P Q : Fault → Type 0) (e : ObjectFault) → ((x : Fault) → P x → Q x) → GivesFault P e → GivesRefusal Q (refusal_of e)
object_refused P Q (errors.Fault fault) same h = same fault h
object_refused P Q (errors.Read r) same h = tt

-- a call that returns no fault is refused only because of a failed read or refused memory
pub never_refused : (Q : Fault → Type 0) (e : ObjectFault) → GivesFault Never e → GivesRefusal Q (refusal_of e)
never_refused Q e h = object_refused Never Q e (λ x never. absurd never) h

-- a claim about a fault that is refused
pub refused_weaker : (P Q : Fault → Type 0) (e : Refusal) → ((x : Fault) → P x → Q x) → GivesRefusal P e → GivesRefusal Q e
refused_weaker P Q (refusals.Fault fault) same h = same fault h
refused_weaker P Q _ same h = tt

-- what the exit of a `?` returns, by its error
pub on_err : {X E : Type 0} (P : X → Type 0) (Q : E → Type 0) (r : Result X E) (e : E) → IsErrAnd r (λ x. x ≡ e) → Q e → MatchResult r P Q
on_err P Q (Ok x) e is h = absurd is
on_err P Q (Err x) e is h = subst Q (sym is) h

-- a claim about a fault that is returned
pub given_weaker : (P Q : Fault → Type 0) (e : ObjectFault) → ((x : Fault) → P x → Q x) → GivesFault P e → GivesFault Q e
given_weaker P Q (errors.Fault fault) same h = same fault h
given_weaker P Q (errors.Read r) same h = tt

-- the references have heights, and this is the result of the check by rule 29
pub heights_checked : (f : List ℕ) (F : Frame) (heights : List ℕ) (n : ℕ) (head : Head) (result : Result (Unit {0}) ObjectFault)
    → AreMet f F heights head Vouched (ref_count head.kind head.count)
    → Gives (λ _. AreMet f F heights head (Below (slice_index heights n)) (ref_count head.kind head.count)) (IsUnmetFault f F heights n head (Below (slice_index heights n))) result
    → Gives (λ _. AreLower f F heights n head) (IsHeightFault f F heights n head) result
heights_checked f F heights n head (Ok _) met h = (met, h)
heights_checked f F heights n head (Err (errors.Fault fault)) met h = inr (met, h)
heights_checked f F heights n head (Err (errors.Read r)) met h = tt
