-- The keys of a dictionary are texts, differ and are in order in a key list, or there is a first one that is not.
use Rattle.std.proofs.Common.{◌≡◌, ◌≢◌, ℕ, zero, suc, ◌<◌, ◌⊎◌, inl, inr, List, slice_index, Less, refl, sym, ap, ap₂, ◌∙◌, subst, arith}
use Rattle.std.proofs.lemmas.Bool.{cases_lt}
use Rattle.bplist_objects.specs.declared.frame.Frame.{Frame}
use Rattle.bplist_objects.specs.declared.head.Head.{Head}
use Rattle.bplist_objects.specs.declared.head.Kind.{Kind}
use Rattle.bplist_objects.specs.declared.head.Kind.TheVariants as kinds
use Rattle.bplist_objects.specs.Frame.{IsFrame}
use Rattle.bplist_objects.specs.ObjectRules.{object_rules}
use Rattle.bplist_objects.specs.Units.{IsTextKind, units_of, compare_units}
use Rattle.bplist_objects.proofs.Lists.{Either, all_or_first}
use Rattle.bplist_objects.proofs.KeptOrBroken.{object_kept_or_fault}
use Rattle.bplist_objects.proofs.HeadTies.{kept_announces}
use Rattle.bplist_objects.proofs.UnitOrder.{compare_units-cases, compare_units-less, compare_units-not_less}
use Rattle.bplist_cert.specs.DictKeys.{IsText, KeysAreTexts, IsFirstKeyless, KeysDiffer, IsFirstTwice}
use Rattle.bplist_cert.specs.DictKeys.{AreInOrder}
use Rattle.bplist_objects.specs.Claims.{FailsAt}
use Rattle.bplist_objects.specs.Scan.{ref}
use Rattle.bplist_cert.proofs.TextObjects.{text_there, no_text, other_kind}
use Rattle.bplist_cert.proofs.OrderedLists.{text_once, IsInOrder}

pub dict_decided : (kind : Kind) → Either (kind ≡ kinds.Dict)
dict_decided kinds.Dict = inl refl
dict_decided _ = inr (λ e. cc e)

text_decided : (kind : Kind) → Either (IsTextKind kind)
text_decided kinds.Ascii = inl tt
text_decided kinds.Wide = inl tt
text_decided _ = inr (λ h. h)

same_decided : (us vs : List ℕ) → Either (us ≡ vs)
same_decided us vs = elim (compare_units-cases us vs) [
  | inl less ↦ inr (λ e. compare_units-not_less us vs e less)
  | inr r ↦ elim r [
    | inl same ↦ inl same
    | inr less ↦ inr (λ e. compare_units-not_less vs us (sym e) less)
  ]
]

less_decided : (us vs : List ℕ) → Either (compare_units us vs ≡ Less)
less_decided us vs = elim (compare_units-cases us vs) [
  | inl less ↦ inl less
  | inr r ↦ elim r [
    | inl same ↦ inr (compare_units-not_less us vs same)
    | inr more ↦ inr (λ less. let greater = compare_units-less vs us more in cc)
  ]
]

module _ (f : List ℕ) (F : Frame) (frame : IsFrame f F) where
  is_text : (m : ℕ) → Either ((key : Head) × IsText f F m key)
  is_text m = elim (cases_lt m F.objects) [
    | inr high ↦ inr (λ k. let l = k.1.within in omega (arith, l, high))
    | inl lt ↦ elim (object_kept_or_fault f F m object_rules) [
      | inr (fault, h) ↦ inr (λ k. no_text f F m frame lt fault h k.0 k.1)
      | inl kept ↦
          let there = kept_announces f F m frame lt (kept.0, (kept.1.0, (kept.1.1.0, (kept.1.1.1.0, tt)))) in
          elim (text_decided there.0.kind) [
            | inl is ↦ inl (there.0, text_there f F m frame lt there.0 there.1 kept is)
            | inr never ↦ inr (λ k. other_kind f F m there.0 there.1 never k.0 k.1)
          ]
    ]
  ]

  module _ (head : Head) where
    -- ---- rule 21
    pub texts_or_first : KeysAreTexts f F head head.count ⊎ ((i : ℕ) × IsFirstKeyless f F head i)
    texts_or_first = elim (all_or_first Text (λ i. Text i → ⊥) (λ i. is_text (ref f F head i)) head.count) [
      | inl all ↦ inl all
      | inr (i, within, none, before) ↦ inr (i, (within, before, λ more. none (more i (omega arith))))
    ]
      where
        Text : ℕ → Type 0
        Text i = (key : Head) × IsText f F (ref f F head i) key

    -- ---- rule 22
    -- key i is a text with these units
    abbrev HasUnits : List ℕ → ℕ → Type 0
    HasUnits us i = (a : Head) × IsText f F (ref f F head i) a × (units_of f a ≡ us)

    -- key i has other units, or these
    units_decided : (us : List ℕ) (i : ℕ) → (HasUnits us i → ⊥) ⊎ HasUnits us i
    units_decided us i = elim (is_text (ref f F head i)) [
      | inr none ↦ inl (λ h. none (h.0, h.1))
      | inl (a, is) ↦ elim (same_decided (units_of f a) us) [
        | inl same ↦ inr (a, is, same)
        | inr apart ↦ inl (λ h. apart (ap (units_of f) (text_once f F (ref f F head i) a h.0 is h.1) ∙ h.2))
      ]
    ]

    -- key j has other units than each key before it
    abbrev IsOther : ℕ → Type 0
    IsOther j = (i : ℕ) → i < j → (a b : Head) → IsText f F (ref f F head i) a → IsText f F (ref f F head j) b → units_of f a ≢ units_of f b

    -- key j has the units of an earlier key, the first such
    abbrev IsAgain : ℕ → Type 0
    IsAgain j =
        (b : Head) × IsText f F (ref f F head j) b
        × ((i : ℕ) × (i < j) × HasUnits (units_of f b) i × ((k : ℕ) → k < i → HasUnits (units_of f b) k → ⊥))

    other_or_again : (j : ℕ) → IsOther j ⊎ IsAgain j
    other_or_again j = elim (is_text (ref f F head j)) [
      | inr none ↦ inl (λ i l a b x y. absurd (none (b, y)))
      | inl (key, is) ↦
          let us = units_of f key in
          elim (all_or_first (λ i. HasUnits us i → ⊥) (HasUnits us) (units_decided us) j) [
            | inr first ↦ inr (key, is, first)
            | inl none ↦ inl (λ i l a b x y e. none i l (a, x, e ∙ ap (units_of f) (text_once f F (ref f F head j) b key y is)))
          ]
    ]

    pub differ_or_first : KeysDiffer f F head head.count ⊎ ((j : ℕ) × IsFirstTwice f F head j)
    differ_or_first = elim (all_or_first IsOther IsAgain other_or_again head.count) [
      | inl all ↦ inl (λ i j l within. all j within i l)
      | inr (j, within, (second, is_second, (i, order, (first, is_first, same), _)), before) ↦ inr (
        j,
        (within, λ a b l low. before b low a l, λ more. more i j order (omega arith) first second is_first is_second same),
      )
    ]

    -- ---- rule 32
    module _ (list : List ℕ) where
      abbrev InOrder : ℕ → Type 0
      InOrder j = IsInOrder f F head list j

      key_at : (i k : ℕ) (a : Head) → suc k ≡ suc i → IsText f F (ref f F head (slice_index list k)) a → IsText f F (ref f F head (slice_index list i)) a
      key_at i k a next is = let e : k ≡ i = omega (arith, next) in subst (λ n. IsText f F (ref f F head (slice_index list n)) a) e is

      -- number j of the list is a position; its key comes after the one before, or it does not
      after_decided : (j : ℕ) → slice_index list j < head.count → Either (InOrder j)
      after_decided zero low = inl (low, λ i a b next x y. absurd (omega (arith, next)))
      after_decided (suc i) low = elim (is_text (ref f F head (slice_index list i))) [
        | inr none ↦ inl (low, λ k a b next x y. absurd (none (a, key_at i k a next x)))
        | inl (last, is_last) ↦ elim (is_text (ref f F head (slice_index list (suc i)))) [
          | inr none ↦ inl (low, λ k a b next x y. absurd (none (b, y)))
          | inl (key, is) ↦ elim (less_decided (units_of f last) (units_of f key)) [
            | inr never ↦ inr (λ o. never (o.1 i last key refl is_last is))
            | inl less ↦ inl (
              low,
              λ k a b next x y.
                  let first = text_once f F _ a last (key_at i k a next x) is_last in
                  let second = text_once f F _ b key y is in
                  ap₂ (λ (u v : Head). compare_units (units_of f u) (units_of f v)) first second ∙ less,
            )
          ]
        ]
      ]

      order_decided : (j : ℕ) → Either (InOrder j)
      order_decided j = elim (cases_lt (slice_index list j) head.count) [
        | inr high ↦ inr (λ o. omega (arith, high, o.0))
        | inl low ↦ after_decided j low
      ]

      pub order_or_first : AreInOrder f F head list head.count ⊎ ((j : ℕ) × FailsAt (AreInOrder f F head list) head.count j)
      order_or_first = elim (all_or_first InOrder (λ j. InOrder j → ⊥) order_decided head.count) [
        | inl all ↦ inl all
        | inr (j, within, wrong, before) ↦ inr (j, (within, before, λ more. wrong (more j (omega arith))))
      ]
