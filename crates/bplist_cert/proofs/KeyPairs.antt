-- Key lists by the markers and counts of the keys.
use Rattle.std.proofs.Common.{◌≡◌, ℕ, suc, ◌+◌, ◌*◌, ◌<◌, ◌≤◌, inl, inr, List, set, replicate, length, slice_index, Option, Some, None, sym, ap, ap₂, ◌∙◌, subst, arith}
use Rattle.std.proofs.lemmas.Bool.{cases_eq, cases_lt}
use Rattle.std.proofs.lemmas.List.{get_or-replicate, length-replicate, get_or_past, get_or-set_same, get_or-set_other}
use Rattle.std.specs.declared.cmp.Ordering.{Ordering}
use Rattle.std.specs.declared.cmp.Ordering.TheVariants.{Less}
use Rattle.bplist_objects.specs.declared.frame.Frame.{Frame}
use Rattle.bplist_objects.specs.declared.head.Head.{Head}
use Rattle.bplist_objects.specs.Frame.{IsFrame}
use Rattle.bplist_objects.specs.Heads.{HasShape}
use Rattle.bplist_objects.specs.Units.{IsTextKind, compare_units}
use Rattle.bplist_objects.proofs.HeadTies.{shape_announced}
use Rattle.bplist_objects.specs.Scan.{ref}
use Rattle.bplist_keys.specs.LongRanks.{IsRankedAs}
use Rattle.bplist_keys.specs.Texts.{HasTextShape, text_units}
use Rattle.bplist_keys.proofs.TextUnits.{text_units-head, units_there}
use Rattle.bplist_cert.specs.Lists.{Keyed, IsCompleteList}
use Rattle.bplist_cert.specs.Valid.{IsVouchedBy}
use Rattle.bplist_cert.specs.Looks.{KeepsBeforeKeys, KeepBeforeKeysBelow}
use Rattle.bplist_cert.specs.KeysLooks.{IsListed}
use Rattle.bplist_cert.specs.DictKeys.{KeysAreTexts, AreInOrder}
use Rattle.bplist_cert.specs.KeyRepeats.{KeysAreSound, HasGoodKeys}
use Rattle.bplist_cert.specs.declared.key_order.ReadKey.{ReadKey}
use Rattle.bplist_cert.specs.KeyPairs.{Ascends, ArePairs, Follows, HaveTextShapes}
use Rattle.bplist_cert.proofs.KeyRepeats.{seen_own, good_low, no_keys, keys_inside, sound_keys}
use Rattle.bplist_cert.proofs.AllNumbers.{onto}
use Rattle.bplist_cert.proofs.OrderedLists.{ascend_apart}
use Rattle.bplist_cert.proofs.TextObjects.{text_there}

module _ (f : List ℕ) (F : Frame) where
  -- the order of ranks is that of the computed units
  pub ranked_units : (a b : ℕ) (order : Ordering) → IsRankedAs f F a b order → order ≡ compare_units (text_units f F a) (text_units f F b)
  ranked_units a b order r = r.2 (text_units f F a) (text_units f F b) (units_there f F a r.0.0 r.0.1) (units_there f F b r.1.0 r.1.1)

  -- one more pair takes its slot
  pub pairs_more : (slots : List ℕ) (r a b : ℕ) → r < length slots → b < 4294967296 → ArePairs f F slots → Ascends f F a b → ArePairs f F (set slots r (a * 4294967296 + b))
  pairs_more slots r a b within low pairs asc i x y low' some is = elim (cases_eq i r) [
    | inl e ↦
        let here : slice_index (set slots r (a * 4294967296 + b)) i ≡ a * 4294967296 + b = ap (slice_index (set slots r (a * 4294967296 + b))) e ∙ get_or-set_same slots r (a * 4294967296 + b) 0 within in
        let first : a ≡ x = omega (arith, here, is, low, low') in
        let second : b ≡ y = omega (arith, here, is, low, low') in
        subst (λ z. Ascends f F x z) second (subst (λ z. Ascends f F z b) first asc)
    | inr d ↦
        let there = get_or-set_other slots r i (a * 4294967296 + b) 0 d in
        pairs i x y low' (rw there at some) (sym there ∙ is)
  ]

  module _ (head : Head) (list : List ℕ) where
    -- the units of the key at number k of the list
    abbrev units_at : ℕ → List ℕ
    units_at k = text_units f F (ref f F head (slice_index list k))

    -- the first j numbers of the list are positions, whose keys are texts by marker and count that ascend
    pub record AscendTo (j : ℕ) : Type 0 where
      pub low : (k : ℕ) → k < j → slice_index list k < head.count
      pub shapes : (k : ℕ) → k < j → HasTextShape f F (ref f F head (slice_index list k))
      pub up : (k : ℕ) → suc k < j → compare_units (units_at k) (units_at (suc k)) ≡ Less

    -- the object of the key before number j, if there is one
    abbrev pub IsLast : ℕ → Option ReadKey → Type 0
    IsLast j None = j ≡ 0
    IsLast j (Some last) = (i : ℕ) × (suc i ≡ j) × (last.object ≡ ref f F head (slice_index list i))

    text_shape : (before : Option ReadKey) (m : ℕ) → Follows f F before m → HasTextShape f F m
    text_shape None m h = h
    text_shape (Some last) m h = h.1

    step_up : (j : ℕ) (before : Option ReadKey) (m : ℕ) → m ≡ ref f F head (slice_index list j) → IsLast j before → Follows f F before m → (k : ℕ) → suc k ≡ j
        → compare_units (units_at k) (units_at j) ≡ Less
    step_up j None m is last h k e = absurd (omega (arith, last, e))
    step_up j (Some x) m is (i, next, at) h k e =
        let same : i ≡ k = omega (arith, next, e) in
        let left : text_units f F x.object ≡ units_at k = ap (text_units f F) (at ∙ ap (λ n. ref f F head (slice_index list n)) same) in
        ap₂ compare_units (sym left) (sym (ap (text_units f F) is)) ∙ h.2

    -- one more key
    pub ascend_more : (j : ℕ) (before : Option ReadKey) (m : ℕ) → AscendTo j → slice_index list j < head.count → m ≡ ref f F head (slice_index list j) → IsLast j before → Follows f F before m → AscendTo (j + 1)
    ascend_more j before m so low is last h = record {
      low = λ k l. elim (cases_eq k j) [ inl e ↦ subst (λ n. slice_index list n < head.count) (sym e) low | inr d ↦ so.low k (omega (arith, l, d)) ];
      shapes = λ k l. elim (cases_eq k j) [
        | inl e ↦ subst (λ n. HasTextShape f F (ref f F head (slice_index list n))) (sym e) (subst (HasTextShape f F) is (text_shape before m h))
        | inr d ↦ so.shapes k (omega (arith, l, d))
      ];
      up = λ k l. elim (cases_eq (suc k) j) [
        | inl e ↦ subst (λ n. compare_units (units_at k) (units_at n) ≡ Less) (sym e) (step_up j before m is last h k e)
        | inr d ↦ so.up k (omega (arith, l, d))
      ];
    }

    -- such numbers are in order
    pub in_order_to : (count : ℕ) → AscendTo count → AreInOrder f F head list count
    in_order_to count so j l = (
      so.low j l,
      λ i a b next x y.
          let less = subst (λ k. compare_units (units_at i) (units_at k) ≡ Less) next (so.up i (omega (arith, next, l))) in
          let first = text_units-head f F (ref f F head (slice_index list i)) a (x.is.0, x.kind) in
          let second = text_units-head f F (ref f F head (slice_index list j)) b (y.is.0, y.kind) in
          ap₂ compare_units (sym first) (sym second) ∙ less,
    )

    -- if the keys are texts and number j is in order too, its key comes after the one before
    pub follows_in_order : (j : ℕ) (before : Option ReadKey) (m : ℕ) → AscendTo j → KeysAreTexts f F head head.count → m ≡ ref f F head (slice_index list j) → IsLast j before → AreInOrder f F head list (suc j)
        → Follows f F before m
    follows_in_order j None m so texts is last more =
        let second = texts (slice_index list j) (more j (omega arith)).0 in
        subst (HasTextShape f F) (sym is) (second.0, (second.1.is.0, second.1.kind))
    follows_in_order j (Some x) m so texts is (i, next, at) more =
        let here = more j (omega arith) in
        let first = texts (slice_index list i) (so.low i (omega (arith, next))) in
        let second = texts (slice_index list j) here.0 in
        let left : HasShape f F (ref f F head (slice_index list i)) first.0 × IsTextKind first.0.kind = (first.1.is.0, first.1.kind) in
        let right : HasShape f F (ref f F head (slice_index list j)) second.0 × IsTextKind second.0.kind = (second.1.is.0, second.1.kind) in
        let units = ap₂ compare_units (ap (text_units f F) at ∙ text_units-head f F (ref f F head (slice_index list i)) first.0 left) (ap (text_units f F) is ∙ text_units-head f F (ref f F head (slice_index list j)) second.0 right) in
        (subst (HasTextShape f F) (sym at) (first.0, left), subst (HasTextShape f F) (sym is) (second.0, right), units ∙ here.1 i first.0 second.0 next first.1 second.1)

    module _ (so : AscendTo head.count) where
      apart : (i j : ℕ) → i < j → j < head.count → slice_index list i ≡ slice_index list j → ⊥
      apart i j l m e = ascend_apart units_at head.count so.up i j l m (ap (λ p. text_units f F (ref f F head p)) e)

      -- each key is at one of the positions, if there are as many different ones as keys
      pub shapes_all : HaveTextShapes f F head
      shapes_all k l =
          let at = onto head.count (slice_index list) so.low apart k l in
          subst (λ p. HasTextShape f F (ref f F head p)) at.2 (so.shapes at.0 at.1)

module _ (f : List ℕ) (F : Frame) where
  -- keys that are texts by marker and count, and keep rules 14 to 20, are texts
  pub shapes_texts : IsFrame f F → (head : Head) → ((k : ℕ) → k < head.count → ref f F head k < F.objects) → KeysAreSound f F head → HaveTextShapes f F head → KeysAreTexts f F head head.count
  shapes_texts framed head inside sound shapes k low =
      let t = shapes k low in
      (t.0, text_there f F (ref f F head k) framed (inside k low) t.0 (shape_announced f F (ref f F head k) t.0 t.1.0) (sound k low (inside k low)) t.1.1)

  -- if all vouched objects are seen, keys that are texts by marker and count, in order in a key list, are good
  pub listed_good : IsFrame f F → (heights : List ℕ) → KeepBeforeKeysBelow f F heights F.objects → (keyed : Keyed) (n : ℕ) → n < F.objects → IsVouchedBy heights n → IsListed f F keyed n → HasGoodKeys f F (Some keyed) n
  listed_good framed heights seen keyed n within vouched listed head has dict =
      let keys = listed head has dict in
      (shapes_texts framed head (keys_inside f F n (seen_own f F heights n (seen n within vouched)) head has dict) (sound_keys f F heights seen n within vouched head has dict) keys.0, keys.1)

  -- a list of an object without references that starts among the positions is good
  pub low_listed : (heights : List ℕ) (n : ℕ) → KeepsBeforeKeys f F heights n → (keyed : Keyed) → slice_index heights n ≤ 1 → IsCompleteList keyed n 0 → IsListed f F keyed n
  low_listed heights n seen keyed least start head has dict =
      (λ k low. absurd (none_there k low), (omega (arith, start, none_at), λ j l. absurd (none_there j l)))
    where
      none_there : (k : ℕ) → k < head.count → ⊥
      none_there = no_keys f F heights n seen head has dict least

      none_at : head.count ≡ 0
      none_at = elim (cases_lt 0 head.count) [ inl some ↦ absurd (none_there 0 some) | inr none ↦ omega (arith, none) ]

  pub low_list : (heights : List ℕ) (n : ℕ) → KeepsBeforeKeys f F heights n → (keyed : Keyed) → slice_index heights n ≤ 1 → IsCompleteList keyed n 0 → HasGoodKeys f F (Some keyed) n
  low_list heights n seen keyed least start head has dict =
      ((good_low f F heights n seen least head has dict).0, (low_listed heights n seen keyed least start head has dict).1)

-- no pair is kept yet
pub pairs_none : (f : List ℕ) (F : Frame) (slots : List ℕ) → slots ≡ replicate 2039 0 → ArePairs f F slots
pairs_none f F slots none i a b low some is = elim (cases_lt i 2039) [
  | inl within ↦ absurd (let z = ap (λ xs. slice_index xs i) none ∙ get_or-replicate 2039 i 0 0 within in omega (arith, z, some))
  | inr past ↦ absurd (let z = get_or_past slots i 0 (omega (arith, past, ap length none ∙ length-replicate {A = ℕ} 2039 0)) in omega (arith, z, some))
]
