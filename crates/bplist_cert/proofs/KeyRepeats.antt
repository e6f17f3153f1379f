-- What the classes of the keys of a vouched dictionary say about the keys.
use Rattle.std.proofs.Common.{Bool, not, IsTrue, Option, Some, None, MatchOption, is_some, ◌≡◌, ℕ, ◌*◌, ◌<◌, ◌≤◌, List, suc, zero, nat_lt, false, take, [], ◌∷◌, inl, inr, length, slice_index, slice_index_or, count_by, sym, ap, ◌∙◌, subst, arith}
use Rattle.std.proofs.Math.Numerals.{add-one}
use Rattle.std.proofs.lemmas.Bool.{false≢true, cases_eq, cases_lt, cases_Bool, le-ltb, lt-ltb}
use Rattle.std.proofs.lemmas.List.{get_or_past, take_all}
use Rattle.std.proofs.lemmas.List.Sums.{count_by_more_yes, count_by_more_no}
use Rattle.bplist_objects.specs.declared.rule.Rule.{Rule}
use Rattle.bplist_objects.specs.declared.rule.Rule.TheVariants as rules
use Rattle.bplist_objects.specs.declared.fault.Fault.{Fault}
use Rattle.bplist_objects.specs.declared.frame.Frame.{Frame}
use Rattle.bplist_objects.specs.declared.frame.ObjectNo.{ObjectNo}
use Rattle.bplist_objects.specs.declared.head.Head.{Head}
use Rattle.bplist_objects.specs.declared.head.Kind.TheVariants.{Dict}
use Rattle.bplist_objects.specs.Announced.{HasHead}
use Rattle.bplist_objects.specs.Frame.{IsFrame}
use Rattle.bplist_objects.specs.Rules.{KeepsAll}
use Rattle.bplist_objects.specs.ObjectRules.{KeepsByObject, object_rules}
use Rattle.bplist_objects.specs.Safe.{ref_count}
use Rattle.bplist_objects.specs.Units.{units_of}
use Rattle.bplist_objects.proofs.RuleLaws.{kept_all_parts}
use Rattle.bplist_objects.proofs.BodyLaws.{HasHead-unique}
use Rattle.bplist_objects.proofs.HeadTies.{shape_announced}
use Rattle.bplist_keys.specs.Marks.{IsMarked}
use Rattle.bplist_keys.specs.Texts.{text_units}
use Rattle.bplist_keys.specs.Ranks.{AreClasses}
use Rattle.bplist_keys.specs.declared.class_table.KeyDefect.{KeyDefect}
use Rattle.bplist_keys.specs.declared.class_table.KeyDefect.TheVariants as defects
use Rattle.bplist_keys.specs.Classes.{HasNamedKeys, AreClassed, HaveClasses, HaveOwnClasses, IsKeyDefect, IsWrongFault}
use Rattle.bplist_objects.specs.Claims.{FailsAt}
use Rattle.bplist_objects.proofs.ClaimLaws.{fails_too}
use Rattle.bplist_keys.proofs.RankLaws.{none_marked, classes_same}
use Rattle.bplist_keys.proofs.TextUnits.{text_units-head}
use Rattle.bplist_cert.specs.DictKeys.{IsText, KeysAreTexts, KeysDiffer, IsFirstTwice, IsTwiceFault}
use Rattle.bplist_cert.specs.Lists.{Keyed, lists}
use Rattle.bplist_cert.specs.CheckRules.{KeepsRule, KeepsLast}
use Rattle.bplist_objects.specs.Scan.{ref}
use Rattle.bplist_cert.specs.Valid.{IsVouchedBy}
use Rattle.bplist_cert.specs.Looks.{KeepsBeforeKeys, KeepBeforeKeysBelow}
use Rattle.bplist_cert.specs.KeyRepeats.{KeysAreSound, HasGoodKeys}
use Rattle.bplist_cert.specs.Walks.{AreOwn, HasKeysApart}
use Rattle.bplist_cert.proofs.TextObjects.{text_there}

-- a number that is not 0 is in the list
pub vouched_below : (numbers : List ℕ) (n : ℕ) → 0 < slice_index numbers n → n < length numbers
vouched_below numbers n some = elim (cases_lt n (length numbers)) [
  | inl a ↦ a
  | inr b ↦ absurd (let none = get_or_past numbers n 0 b in omega (arith, some, none))
]

-- none is found
pub none_there : {X : Type 0} (A : Type 0) (B : X → Type 0) (found : Option X) (none : Bool) → is_some found ≡ not none → IsTrue none → MatchOption found A B → A
none_there A B None none e t h = h
none_there A B (Some x) none e t h = absurd (false≢true (sym (e ∙ ap not t)))

-- the rules of a vouched object after 14 to 20, with these at the end
abbrev pub rules_after : List Rule → List Rule
rules_after last = rules.Overfull ∷ rules.ChildNotVouched ∷ rules.HeightNotLess ∷ last

module _ (f : List ℕ) (F : Frame) where
  -- the key references of a dictionary that keeps rule 20 are objects
  pub keys_inside : (n : ℕ) → KeepsAll (KeepsByObject f F n) object_rules → (head : Head) → HasHead f F n head → head.kind ≡ Dict → (k : ℕ) → k < head.count → ref f F head k < F.objects
  keys_inside n kept head has dict k low =
      let each = subst (λ kind. (i : ℕ) → i < ref_count kind head.count → ref f F head i < F.objects) dict (kept.1.1.1.1.1.1.0 head has) in
      each k (omega (arith, low))

  -- the classes of the named are those of the keys
  pub keys_classed : (named : List Bool) (classes : List ℕ) (n : ℕ) → AreClasses f F named classes → HasNamedKeys f F named n → (head : Head) → HasHead f F n head → head.kind ≡ Dict → AreClassed f F classes head
  keys_classed named classes n are named_keys head has dict = record {
    only = λ k low some. ((are.given (ref f F head k)).0 some).1;
    all = λ k low shape. (are.given (ref f F head k)).1 (named_keys head has dict k low, shape);
    same = λ i j _ _. classes_same f F named classes are (ref f F head i) (ref f F head j);
  }

  -- keys are good by one head
  pub good_at : (keys : Option Keyed) (n : ℕ) (head : Head) → HasHead f F n head → (head.kind ≡ Dict → KeysAreTexts f F head head.count × KeepsLast f F keys n head) → HasGoodKeys f F keys n
  good_at keys n head has good other h = subst (λ (x : Head). x.kind ≡ Dict → KeysAreTexts f F x x.count × KeepsLast f F keys n x) (HasHead-unique f F n head other has h) good

  -- what an object keeps that keeps the rules before those of keys
  module _ (heights : List ℕ) (n : ℕ) (seen : KeepsBeforeKeys f F heights n) where
    pub seen_parts : KeepsAll (KeepsByObject f F n) object_rules × KeepsAll (KeepsRule f F (IsVouchedBy heights) (lists heights None) n) (rules_after [])
    seen_parts = kept_all_parts (KeepsRule f F (IsVouchedBy heights) (lists heights None) n) object_rules (rules_after []) seen

    pub seen_own : KeepsAll (KeepsByObject f F n) object_rules
    seen_own = seen_parts.0

    pub seen_lower : (head : Head) → HasHead f F n head → (k : ℕ) → k < ref_count head.kind head.count → IsVouchedBy heights (ref f F head k) × (slice_index heights (ref f F head k) < slice_index heights n)
    seen_lower head has k low = (seen_parts.1.1.0 head has k low, seen_parts.1.1.1.0 head has k low)

  -- the keys of a vouched dictionary are vouched for, and lower
  module _ (heights : List ℕ) (n : ℕ) (seen : KeepsBeforeKeys f F heights n) (head : Head) (has : HasHead f F n head) (dict : head.kind ≡ Dict) where
    key_vouched : (k : ℕ) → k < head.count → IsVouchedBy heights (ref f F head k)
    key_vouched k low =
        let two : ref_count head.kind head.count ≡ 2 * head.count = ap (λ x. ref_count x head.count) dict in
        (seen_lower heights n seen head has k (omega (arith, low, two))).0

    -- an object of height 1 has no keys
    pub no_keys : slice_index heights n ≤ 1 → (k : ℕ) → k < head.count → ⊥
    no_keys least k low =
        let two : ref_count head.kind head.count ≡ 2 * head.count = ap (λ x. ref_count x head.count) dict in
        let l = seen_lower heights n seen head has k (omega (arith, low, two)) in
        omega (arith, least, l.0, l.1)

  pub named_low : (heights : List ℕ) (named : List Bool) (n : ℕ) → KeepsBeforeKeys f F heights n → slice_index heights n ≤ 1 → HasNamedKeys f F named n
  named_low heights named n seen least head has dict k low = absurd (no_keys heights n seen head has dict least k low)

  pub good_low : (heights : List ℕ) (n : ℕ) → KeepsBeforeKeys f F heights n → slice_index heights n ≤ 1 → HasGoodKeys f F None n
  good_low heights n seen least head has dict =
      (λ k low. absurd (no_keys heights n seen head has dict least k low), λ i j before low. absurd (no_keys heights n seen head has dict least j low))

  -- if no object is named as a key, a dictionary whose keys are named has none
  pub good_unnamed : (named : List Bool) (n : ℕ) → count_by (λ marked. marked) named ≡ 0 → HasNamedKeys f F named n → HasGoodKeys f F None n
  good_unnamed named n none named_keys head has dict =
      let no_key : (k : ℕ) → k < head.count → ⊥ = λ k low. none_marked named none _ (named_keys head has dict k low) in
      (λ k low. absurd (no_key k low), λ i j before low. absurd (no_key j low))

  -- the keys of a vouched dictionary keep rules 14 to 20
  pub sound_keys : (heights : List ℕ) → KeepBeforeKeysBelow f F heights F.objects → (n : ℕ) → n < F.objects → IsVouchedBy heights n → (head : Head) → HasHead f F n head → head.kind ≡ Dict → KeysAreSound f F head
  sound_keys heights seen n within vouched head has dict k low inside =
      seen_own heights (ref f F head k) (seen (ref f F head k) inside (key_vouched heights n (seen n within vouched) head has dict k low))

  module _ (head : Head) (classes : List ℕ) (classed : AreClassed f F classes head) where
    pub class_at : (k : ℕ) → k < head.count → (key : Head) → IsText f F (ref f F head k) key → 0 < slice_index classes (ref f F head k)
    class_at k low key is = classed.all k low (key, (is.is.0, is.kind))

    units_at : (k : ℕ) (key : Head) → IsText f F (ref f F head k) key → text_units f F (ref f F head k) ≡ units_of f key
    units_at k key is = text_units-head f F (ref f F head k) key (is.is.0, is.kind)

    pub apart_differ : (count : ℕ) → count ≤ head.count → HaveOwnClasses (ref f F head) classes count → KeysDiffer f F head count
    apart_differ count few apart i j low high a b is_a is_b same =
        let i_low : i < head.count = omega (arith, few, low, high) in
        let j_low : j < head.count = omega (arith, few, high) in
        apart i j low high ((classed.same i j i_low j_low (class_at i i_low a is_a) (class_at j j_low b is_b)).1 (units_at i a is_a ∙ same ∙ sym (units_at j b is_b)))

    -- texts have classes
    pub texts_classed : (count : ℕ) → count ≤ head.count → KeysAreTexts f F head count → HaveClasses (ref f F head) classes count
    texts_classed count few texts k low = let t = texts k low in class_at k (omega (arith, few, low)) t.0 t.1

    module _ (texts : KeysAreTexts f F head head.count) where
      differ_apart : (count : ℕ) → count ≤ head.count → KeysDiffer f F head count → HaveOwnClasses (ref f F head) classes count
      differ_apart count few differ i j low high same =
          let i_low : i < head.count = omega (arith, few, low, high) in
          let j_low : j < head.count = omega (arith, few, high) in
          let a = texts i i_low in
          let b = texts j j_low in
          differ i j low high a.0 b.0 a.1 b.1
          (sym (units_at i a.0 a.1) ∙ (classed.same i j i_low j_low (class_at i i_low a.0 a.1) (class_at j j_low b.0 b.1)).0 same ∙ units_at j b.0 b.1)

      -- the first class that comes again is that of the first key that comes twice
      pub again_twice : (j : ℕ) → FailsAt (HaveOwnClasses (ref f F head) classes) head.count j → IsFirstTwice f F head j
      again_twice = fails_too (HaveOwnClasses (ref f F head) classes) (KeysDiffer f F head) head.count apart_differ differ_apart

      -- if keys that are texts are wrong, then because one comes twice
      pub twice_fault : (n : ObjectNo) (wrong : KeyDefect) (fault : Fault) → IsKeyDefect (ref f F head) classes head.count wrong → IsWrongFault F n head wrong fault → IsTwiceFault f F n.0 head fault
      twice_fault n (defects.NotText i) fault is told = absurd (is.2 (texts_classed (suc i) (omega (arith, is.0)) (λ k l. texts k (omega (arith, l, is.0)))))
      twice_fault n (defects.Repeated j) fault is told = (told.0, told.1, (j, again_twice j is.1, told.2))

    module _ (framed : IsFrame f F) (sound : KeysAreSound f F head) (inside : (k : ℕ) → k < head.count → ref f F head k < F.objects) where
      -- keys with a class are texts
      pub classed_texts : (count : ℕ) → count ≤ head.count → HaveClasses (ref f F head) classes count → KeysAreTexts f F head count
      classed_texts count few some k under =
          let low : k < head.count = omega (arith, few, under) in
          let m = ref f F head k in
          let t = classed.only k low (some k under) in
          (t.0, text_there f F m framed (inside k low) t.0 (shape_announced f F m t.0 t.1.0) (sound k low (inside k low)) t.1.1)

-- if only marks have numbers above 0, there are no more of these than of marks; and if there are as many, each mark has
-- one
counted : (marks : List Bool) (numbers : List ℕ) → length numbers ≡ length marks → ((m : ℕ) → 0 < slice_index numbers m → IsMarked marks m) → (n : ℕ) → n ≤ length marks
    → (count_by (nat_lt 0) (take n numbers) ≤ count_by (λ marked. marked) (take n marks))
    × (count_by (λ marked. marked) (take n marks) ≤ count_by (nat_lt 0) (take n numbers) → (m : ℕ) → m < n → IsMarked marks m → 0 < slice_index numbers m)
counted marks numbers same only zero few = (omega arith, λ enough m low. absurd (omega (arith, low)))
counted marks numbers same only (suc n) few = let before = counted marks numbers same only n (omega (arith, few)) in elim (cases_lt 0 (slice_index numbers n)) [
  | inl some ↦
      let a = rw (add-one n) at (count_by_more_yes (nat_lt 0) numbers n 0 (omega (arith, few, same)) (lt-ltb 0 (slice_index numbers n) some)) in
      let b = rw (add-one n) at (count_by_more_yes (λ marked. marked) marks n false (omega (arith, few)) (only n some)) in (
        omega (arith, a, b, before.0),
        λ enough m low marked. elim (cases_eq m n) [
          | inl e ↦ subst (λ x. 0 < slice_index numbers x) (sym e) some
          | inr d ↦ before.1 (omega (arith, enough, a, b)) m (omega (arith, low, d)) marked
        ],
      )
  | inr none ↦
      let a = rw (add-one n) at (count_by_more_no (nat_lt 0) numbers n 0 (omega (arith, few, same)) (le-ltb 0 (slice_index numbers n) none)) in
      elim (cases_Bool (slice_index_or marks n false)) [
        | inl is ↦
            let b = rw (add-one n) at (count_by_more_yes (λ marked. marked) marks n false (omega (arith, few)) is) in
            (omega (arith, a, b, before.0), λ enough m low marked. absurd (omega (arith, enough, a, b, before.0)))
        | inr is ↦
            let b = rw (add-one n) at (count_by_more_no (λ marked. marked) marks n false (omega (arith, few)) is) in (
              omega (arith, a, b, before.0),
              λ enough m low marked. elim (cases_eq m n) [
                | inl e ↦ absurd (false≢true (sym (subst (λ x. slice_index_or marks x false ≡ false) (sym e) is) ∙ marked))
                | inr d ↦ before.1 (omega (arith, enough, a, b)) m (omega (arith, low, d)) marked
              ],
            )
      ]
]

-- if as many objects have classes as are named, each that is named has one
all_classed : (named : List Bool) (classes : List ℕ) → length classes ≡ length named → ((m : ℕ) → 0 < slice_index classes m → IsMarked named m)
    → count_by (nat_lt 0) classes ≡ count_by (λ marked. marked) named → (m : ℕ) → m < length named → IsMarked named m → 0 < slice_index classes m
all_classed named classes same only enough =
    let front = ap (count_by (nat_lt 0)) (take_all (length named) classes (omega (arith, same))) in
    let marks = ap (count_by (λ marked. marked)) (take_all (length named) named (omega arith)) in
    (counted named classes same only (length named) (omega arith)).1 (omega (arith, enough, front, marks))

-- if each named object has a class of its own, keys that are different objects are good
pub good_apart : (f : List ℕ) (F : Frame) (heights : List ℕ) → IsFrame f F → KeepBeforeKeysBelow f F heights F.objects → (named : List Bool) (classes : List ℕ) → length named ≡ F.objects
    → length classes ≡ F.objects → AreClasses f F named classes → AreOwn classes (count_by (λ marked. marked) named) → (n : ℕ) → n < F.objects → IsVouchedBy heights n → HasNamedKeys f F named n
    → HasKeysApart f F n → HasGoodKeys f F None n
good_apart f F heights framed seen named classes all_named all are (enough, own) n within vouched named_keys different head has dict =
    let classed = keys_classed f F named classes n are named_keys head has dict in
    let inside = keys_inside f F n (seen_own f F heights n (seen n within vouched)) head has dict in
    let some : HaveClasses (ref f F head) classes head.count = λ k low.
    all_classed named classes (omega (arith, all_named, all)) (λ m class. ((are.given m).0 class).0) enough (ref f F head k) (omega (arith, inside k low, all_named)) (named_keys head has dict k low) in
    let apart : HaveOwnClasses (ref f F head) classes head.count = λ i j less low same. elim (cases_lt (ref f F head i) (ref f F head j)) [
      | inl under ↦ own (ref f F head i) (ref f F head j) under (omega (arith, inside j low, all)) (some i (omega (arith, less, low))) same
      | inr over ↦
          let under : ref f F head j < ref f F head i = omega (arith, over, different head has dict i j less low) in
          own (ref f F head j) (ref f F head i) under (omega (arith, inside i (omega (arith, less, low)), all)) (some j low) (sym same)
    ] in (
      classed_texts f F head classes classed framed (sound_keys f F heights seen n within vouched head has dict) inside head.count (omega arith) some,
      apart_differ f F head classes classed head.count (omega arith) apart,
    )
