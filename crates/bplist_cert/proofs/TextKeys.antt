-- The keys of a dictionary by the definitions and by index.
use Rattle.std.proofs.Common.{◌≡◌, ℕ, zero, suc, ◌+◌, ◌*◌, ◌<◌, List, [], ◌∷◌, length, slice_index, slice_index_or, Less, refl, sym, ap, ap₂, ◌∙◌, subst, arith}
use Rattle.std.specs.List.{AllZip}
use Rattle.std.proofs.lemmas.List.{get_or_default}
use Rattle.std.proofs.lemmas.Slice.Zip.{AllZip-long}
use Rattle.bplist_objects.specs.declared.frame.Frame.{Frame}
use Rattle.bplist_objects.specs.declared.head.Kind.{Kind}
use Rattle.bplist_objects.specs.declared.head.Kind.TheVariants as kinds
use Rattle.bplist_objects.specs.declared.head.Head.{Head}
use Rattle.bplist_objects.specs.Numbers.{num_at, nums_at}
use Rattle.bplist_objects.specs.Value.{text}
use Rattle.bplist_objects.specs.Heads.{leaf, content_of, Spells}
use Rattle.bplist_objects.specs.Holds.{AreDistinct}
use Rattle.bplist_objects.specs.Units.{IsTextKind, units_at, units_of, compare_units}
use Rattle.bplist_objects.proofs.References.{length-nums_at, nth-nums_at}
use Rattle.bplist_keys.specs.Texts.{text_units}
use Rattle.bplist_keys.proofs.TextUnits.{text_units-head}
use Rattle.bplist_objects.specs.Scan.{ref}
use Rattle.bplist_cert.specs.Valid.{SpellsText}
use Rattle.bplist_cert.specs.DictKeys.{IsText, KeysAreTexts, KeysDiffer, AreInOrder}
use Rattle.bplist_cert.proofs.OrderedLists.{ascend_apart, ascend_once, text_once}
use Rattle.bplist_cert.proofs.AllNumbers.{onto}

-- ---- two lists, item by item
pub zip_at : {A B : Type 0} (R : A → B → Type 0) (xs : List A) (ys : List B) (k : ℕ) (d : A) (e : B) → AllZip R xs ys → k < length xs → R (slice_index_or xs k d) (slice_index_or ys k e)
zip_at R (x ∷ xs) (y ∷ ys) zero d e z l = z.0
zip_at R (x ∷ xs) (y ∷ ys) (suc k) d e z l = zip_at R xs ys k d e z.1 (omega (arith, l))
zip_at R xs ys k d e z l = absurd (omega (arith, l, AllZip-long R xs ys z))

-- ---- texts
-- the content of a text's head is the text of its units
text_content : (f : List ℕ) (F : Frame) (kind : Kind) (count body : ℕ) → IsTextKind kind → content_of f F kind count body ≡ leaf (text (units_at f kind count body))
text_content f F kinds.Ascii count body t = refl
text_content f F kinds.Wide count body t = refl
text_content f F _ count body t = absurd t

-- a head whose content is a text is a text's
text_kind : (f : List ℕ) (F : Frame) (kind : Kind) (count body : ℕ) (u : List ℕ) → leaf (text u) ≡ content_of f F kind count body → IsTextKind kind × (u ≡ units_at f kind count body)
text_kind f F kinds.Ascii count body u e = (tt, cc e)
text_kind f F kinds.Wide count body u e = (tt, cc e)
text_kind f F _ count body u e = absurd (cc e)

module _ (f : List ℕ) (F : Frame) (m : ℕ) where
  -- what spells a text is one, with these units
  pub spelled_text : (u : List ℕ) → m < F.objects → SpellsText f F m u → (key : Head) × IsText f F m key × (u ≡ units_of f key)
  spelled_text u lt s =
      let is = text_kind f F s.shape.kind s.shape.count s.shape.body u s.means in
      (s.shape, record { within = lt; is = (s.has, subst (Spells f F m) s.means s); kind = is.0 }, is.1)

  -- a text spells its units
  pub text_spelled : (key : Head) → IsText f F m key → SpellsText f F m (units_of f key)
  text_spelled key is = subst (Spells f F m) (text_content f F key.kind key.count key.body is.kind) is.is.1

-- texts one by one
texts_list : (f : List ℕ) (F : Frame) (place width count : ℕ) → ((k : ℕ) → k < count → (u : List ℕ) × SpellsText f F (num_at f (place + k * width) width) u) → (us : List (List ℕ)) × AllZip (SpellsText f F) (nums_at f place width count) us
texts_list f F place width zero h = ([], tt)
texts_list f F place width (suc count) h =
    let first : place + 0 * width ≡ place = omega arith in
    let own = h 0 (omega arith) in
    let rest = texts_list f F (place + width) width count (λ k l.
    let e : place + suc k * width ≡ (place + width) + k * width = omega arith in
    subst (λ a. (u : List ℕ) × SpellsText f F (num_at f a width) u) e (h (suc k) (omega (arith, l)))) in
    (own.0 ∷ rest.0, (subst (λ a. SpellsText f F (num_at f a width) own.0) first own.1, rest.1))

module _ (f : List ℕ) (F : Frame) (head : Head) where
  -- the keys of a dictionary with this head
  abbrev pub key_refs : List ℕ
  key_refs = nums_at f head.body F.ref_size head.count

  -- texts by index are texts by the definitions
  pub texts_are : KeysAreTexts f F head head.count → (us : List (List ℕ)) × AllZip (SpellsText f F) key_refs us
  texts_are texts = texts_list f F head.body F.ref_size head.count (λ k l. let t = texts k l in (units_of f t.0, text_spelled f F (ref f F head k) t.0 t.1))

  module _ (us : List (List ℕ)) (zip : AllZip (SpellsText f F) key_refs us) where
    pub all_units : length us ≡ head.count
    all_units = AllZip-long (SpellsText f F) key_refs us zip ∙ length-nums_at f head.body F.ref_size head.count

    spells_at : (k : ℕ) → k < head.count → SpellsText f F (ref f F head k) (slice_index_or us k [])
    spells_at k l =
        let many = length-nums_at f head.body F.ref_size head.count in
        subst (λ m. SpellsText f F m (slice_index_or us k [])) (nth-nums_at f head.body F.ref_size head.count k l)
        (zip_at (SpellsText f F) key_refs us k 0 [] zip (omega (arith, l, many)))

    -- texts by the definitions are texts by index
    pub have_texts : ((k : ℕ) → k < head.count → ref f F head k < F.objects) → KeysAreTexts f F head head.count
    have_texts low k l = let t = spelled_text f F (ref f F head k) (slice_index_or us k []) (low k l) (spells_at k l) in (t.0, t.1)

    -- the units of a key
    pub units_at_key : (k : ℕ) (key : Head) → k < head.count → IsText f F (ref f F head k) key → slice_index_or us k [] ≡ units_of f key
    units_at_key k key l is =
        let t = spelled_text f F (ref f F head k) (slice_index_or us k []) is.within (spells_at k l) in
        t.2 ∙ ap (units_of f) (text_once f F (ref f F head k) t.0 key t.1 is)

    -- keys that differ by index differ by the definitions
    pub distinct : KeysAreTexts f F head head.count → KeysDiffer f F head head.count → AreDistinct us
    distinct texts differ i j d lt below e =
        let high : j < head.count = omega (arith, below, all_units) in
        let low : i < head.count = omega (arith, lt, high) in
        let a = texts i low in
        let b = texts j high in
        differ i j lt high a.0 b.0 a.1 b.1
        (sym (units_at_key i a.0 low a.1) ∙ get_or_default us i [] d (omega (arith, low, all_units)) ∙ e ∙ get_or_default us j d [] below ∙ units_at_key j b.0 high b.1)

    -- and keys that differ by the definitions differ by index
    pub differ : AreDistinct us → KeysDiffer f F head head.count
    differ apart i j lt high a b x y e =
        apart i j [] lt (omega (arith, high, all_units))
        (units_at_key i a (omega (arith, lt, high)) x ∙ e ∙ sym (units_at_key j b high y))

-- keys that a list has in order differ
module _ (f : List ℕ) (F : Frame) (head : Head) (list : List ℕ) (texts : KeysAreTexts f F head head.count) (order : AreInOrder f F head list head.count) where
  abbrev position : ℕ → ℕ
  position j = slice_index list j

  abbrev units : ℕ → List ℕ
  units j = text_units f F (ref f F head (position j))

  units_are : (j : ℕ) (key : Head) → IsText f F (ref f F head (position j)) key → units j ≡ units_of f key
  units_are j key is = text_units-head f F (ref f F head (position j)) key (is.is.0, is.kind)

  up : (k : ℕ) → suc k < head.count → compare_units (units k) (units (suc k)) ≡ Less
  up k l =
      let a = texts (position k) (order k (omega (arith, l))).0 in
      let b = texts (position (suc k)) (order (suc k) l).0 in
      ap₂ compare_units (units_are k a.0 a.1) (units_are (suc k) b.0 b.1) ∙ (order (suc k) l).1 k a.0 b.0 refl a.1 b.1

  apart : (i j : ℕ) → i < j → j < head.count → position i ≡ position j → ⊥
  apart i j lt l e = ascend_apart units head.count up i j lt l (ap (λ p. text_units f F (ref f F head p)) e)

  pub ordered_differ : KeysDiffer f F head head.count
  ordered_differ i j lt l a b x y e =
      let p = onto head.count position (λ k m. (order k m).0) apart i (omega (arith, lt, l)) in
      let q = onto head.count position (λ k m. (order k m).0) apart j l in
      let first = units_are p.0 a (subst (λ k. IsText f F (ref f F head k) a) (sym p.2) x) in
      let second = units_are q.0 b (subst (λ k. IsText f F (ref f F head k) b) (sym q.2) y) in
      let same = ascend_once units head.count up p.0 q.0 p.1 q.1 (first ∙ e ∙ sym second) in
      omega (arith, lt, sym p.2 ∙ ap position same ∙ q.2)
