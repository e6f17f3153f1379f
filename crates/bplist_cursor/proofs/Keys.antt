-- The references of a dictionary, and the search for a key.
use Rattle.std.proofs.Common.{arith, ◌≡◌, ◌<◌, ◌≤◌, ◌+◌, ◌-◌, inl, inr, ℕ, length, List, slice_index, refl, sym, ap, ◌∙◌, subst, Ordering, Less, Equal, Greater, Bool, IsTrue, ◌↔◌}
use Rattle.std.specs.Bool.{◌==◌}
use Rattle.std.specs.Ordering.{ordering_index}
use Rattle.std.proofs.lemmas.Bool.{cases_lt}
use Rattle.std.proofs.lemmas.List.{get_or_append_left, get_or-append_right}
use Rattle.bplist_objects.specs.declared.frame.Frame.{Frame}
use Rattle.bplist_objects.specs.declared.head.Head.{Head}
use Rattle.bplist_objects.specs.declared.head.Kind.{Kind}
use Rattle.bplist_objects.specs.declared.head.Kind.TheVariants as kinds
use Rattle.bplist_objects.specs.Value.{text}
use Rattle.bplist_objects.specs.Heads.{Spells, refs, leaf, dict, content_at}
use Rattle.bplist_objects.specs.Units.{IsTextKind, compare_units}
use Rattle.bplist_octets.specs.Octets.{part}
use Rattle.bplist_objects.proofs.Parts.{get_or-part}
use Rattle.bplist_objects.proofs.Fronts.{one_head}
use Rattle.bplist_objects.proofs.References.{as_many}
use Rattle.bplist_objects.proofs.UnitOrder.{compare_units-equal_iff, compare_units-self, compare_units-less, compare_units-not_less, compare_units-less_less, compare_units-greater_greater}
use Rattle.bplist_cursor.specs.Steps.{SpellTexts}
use Rattle.bplist_cursor.specs.KeySearch.{IsKeyList, IsCompared}
use Rattle.bplist_cert.proofs.AllNumbers.{onto}

-- a text is of one of the two kinds
pub text_kinds : (kind : Kind) → IsTextKind kind → (kind ≡ kinds.Ascii → ⊥) → (kind ≡ kinds.Wide → ⊥) → ⊥
text_kinds kinds.Ascii t a w = a refl
text_kinds kinds.Wide t a w = w refl
text_kinds _ t a w = t

-- `==` tells whether the units are equal
pub told_equal : (o : Ordering) (us vs : List ℕ) (b : Bool) → o ≡ compare_units us vs → b ≡ (ordering_index o == 1) → IsTrue b ↔ (us ≡ vs)
told_equal Less us vs b e is = (λ t. cc (t, is), λ same. let self = (compare_units-equal_iff us vs).1 same in cc (self, e))
told_equal Equal us vs b e is = (λ t. (compare_units-equal_iff us vs).0 (sym e), λ same. is)
told_equal Greater us vs b e is = (λ t. cc (t, is), λ same. let self = (compare_units-equal_iff us vs).1 same in cc (self, e))

-- reference i of a dictionary is key i
pub ref : (ks ms : List ℕ) (i : ℕ) → i < length ks → slice_index (refs (dict ks ms)) i ≡ slice_index ks i
ref ks ms i l = get_or_append_left ks ms 0 i l

-- after the keys, reference i is value i
pub value_ref : (ks ms : List ℕ) (c i : ℕ) → length ks ≡ c → slice_index (refs (dict ks ms)) (c + i) ≡ slice_index ms i
value_ref ks ms c i e = let at : (c + i) - c ≡ i = omega arith in get_or-append_right ks ms c (c + i) 0 e (omega arith) ∙ ap (slice_index ms) at

-- item j of a part of the positions
pub list_at : (positions : List ℕ) (start count j : ℕ) → j < count → slice_index (part positions start count) j ≡ slice_index positions (start + j)
list_at positions start count j l = get_or-part positions start count j 0 l

module _ (f : List ℕ) (F : Frame) where
  -- the head of a dictionary counts its keys, and as many values
  pub dict_counts : (head : Head) (ks ms : List ℕ) → dict ks ms ≡ content_at f F head → (length ks ≡ head.count) × (length ms ≡ head.count)
  dict_counts head ks ms e = as_many f F head.kind head.count head.body ks ms e

  module _ (ks list units : List ℕ) where
    -- the keys of the list before `low` are less than the units, and those from `high` on are greater
    pub record Searching (low high : ℕ) : Type 0 where
      pub below : (j : ℕ) → j < low → (us : List ℕ) → Spells f F (slice_index ks (slice_index list j)) (leaf (text us)) → compare_units us units ≡ Less
      pub above : (j : ℕ) → high ≤ j → j < length ks → (us : List ℕ) → Spells f F (slice_index ks (slice_index list j)) (leaf (text us)) → compare_units us units ≡ Greater

    pub begin_search : (high : ℕ) → length ks ≡ high → Searching 0 high
    begin_search high e = record { below = λ j l. absurd (omega (arith, l)); above = λ j h l. absurd (omega (arith, h, l, e)) }

    same_units : (n : ℕ) (us vs : List ℕ) → Spells f F n (leaf (text us)) → Spells f F n (leaf (text vs)) → us ≡ vs
    same_units n us vs s t = cc (one_head f F n _ _ s t)

    module _ (is : IsKeyList f F ks list) (low high middle : ℕ) (within : middle < length ks) (us : List ℕ)
        (spells : Spells f F (slice_index ks (slice_index list middle)) (leaf (text us))) (searching : Searching low high) where
      pub go_right : compare_units us units ≡ Less → Searching (middle + 1) high
      go_right less = record {
        below = λ j l vs s. elim (cases_lt j middle) [
          | inl before ↦ compare_units-less_less vs us units (is.ascend j middle before within vs us s spells) less
          | inr last ↦
              let same : j ≡ middle = omega (arith, l, last) in
              let t = subst (λ j. Spells f F (slice_index ks (slice_index list j)) (leaf (text vs))) same s in
              subst (λ ws. compare_units ws units ≡ Less) (same_units _ us vs spells t) less
        ];
        above = searching.above;
      }

      pub go_left : compare_units us units ≡ Greater → Searching low middle
      go_left greater = record {
        below = searching.below;
        above = λ j h l vs s. elim (cases_lt middle j) [
          | inl behind ↦ compare_units-greater_greater vs us units (compare_units-less us vs (is.ascend middle j behind l us vs spells s)) greater
          | inr first ↦
              let same : j ≡ middle = omega (arith, h, first) in
              let t = subst (λ j. Spells f F (slice_index ks (slice_index list j)) (leaf (text vs))) same s in
              subst (λ ws. compare_units ws units ≡ Greater) (same_units _ us vs spells t) greater
        ];
      }

    -- each key has a number in the list
    pub listed : IsKeyList f F ks list → SpellTexts f F ks → (i : ℕ) → i < length ks → (j : ℕ) × (j < length ks) × (slice_index list j ≡ i)
    listed is texts i l =
        onto (length ks) (λ j. slice_index list j) is.within
        (λ a b before within e.
        let ta = texts (slice_index list a) (is.within a (omega (arith, before, within))) in
        let tb = subst (λ p. Spells f F (slice_index ks p) (leaf (text ta.0))) e ta.1 in
        compare_units-not_less ta.0 ta.0 refl (is.ascend a b before within ta.0 ta.0 ta.1 tb))
        i l

    -- if no key is left to compare, no key has the units
    pub none_left : IsKeyList f F ks list → SpellTexts f F ks → (low high : ℕ) → Searching low high → high ≤ low
        → (i : ℕ) → i < length ks → Spells f F (slice_index ks i) (leaf (text units)) → ⊥
    none_left is texts low high searching done i l s =
        let p = listed is texts i l in
        let t = subst (λ i. Spells f F (slice_index ks i) (leaf (text units))) (sym p.2) s in
        let self = compare_units-self units in
        elim (cases_lt p.0 low) [
          | inl before ↦ compare_units-not_less units units refl (searching.below p.0 before units t)
          | inr behind ↦ let greater = searching.above p.0 (omega (arith, done, behind)) p.1 units t in cc (greater, self)
        ]

  module _ (ks positions : List ℕ) (start middle : ℕ) (list : IsKeyList f F ks (part positions start (length ks))) (within : middle < length ks) where
    -- the position in the middle is that of a key
    pub position_below : slice_index positions (start + middle) < length ks
    position_below = subst (λ i. i < length ks) (list_at positions start (length ks) middle within) (list.within middle within)

    -- what the comparison with the middle key shows
    pub compared_text : (units : List ℕ) (found : ℕ × Ordering) → SpellTexts f F ks
        → (slice_index positions (start + middle) < length ks → IsCompared f F ks (slice_index positions (start + middle)) units found)
        → (us : List ℕ) × Spells f F (slice_index ks (slice_index (part positions start (length ks)) middle)) (leaf (text us)) × (found.1 ≡ compare_units us units)
        × (slice_index (part positions start (length ks)) middle ≡ found.0)
    compared_text units found texts comparison =
        let told = comparison position_below in
        let x = texts (slice_index (part positions start (length ks)) middle) (list.within middle within) in
        let at = list_at positions start (length ks) middle within in
        (x.0, x.1, told.1 x.0 (subst (λ i. Spells f F (slice_index ks i) (leaf (text x.0))) at x.1), at ∙ sym told.0)
