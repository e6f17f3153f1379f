-- A dictionary with a repeated key has no sorted key list.
use Rattle.std.proofs.Common.{◌≡◌, ℕ, suc, ◌<◌, List, [], length, slice_index, slice_index_or, sym, ap, ◌∙◌, arith}
use Rattle.std.proofs.lemmas.List.Elements.{All-get_or, All-from_recursion}
use Rattle.std.specs.declared.cmp.Ordering.TheVariants.{Less}
use Rattle.bplist_objects.specs.declared.frame.Frame.{Frame}
use Rattle.bplist_objects.specs.Heads.{leaf}
use Rattle.bplist_objects.specs.Value.{text}
use Rattle.bplist_objects.specs.Units.{compare_units}
use Rattle.bplist_objects.proofs.Fronts.{one_head}
use Rattle.bplist_cert.specs.Valid.{SpellsText}
use Rattle.bplist_cert.specs.Sorted.{IsSorted}
use Rattle.bplist_cert.proofs.OrderedLists.{ascend_apart, ascend_once}
use Rattle.bplist_cert.proofs.AllNumbers.{onto}
use Rattle.bplist_cert.proofs.TextKeys.{zip_at}

module _ (f : List ℕ) (F : Frame) (ks positions : List ℕ) (s : IsSorted f F ks positions) where
  -- the units of the key at number k of the list
  abbrev pub units_at : ℕ → List ℕ
  units_at k = slice_index_or s.units (slice_index positions k) []

  pub low : (k : ℕ) → k < length ks → slice_index positions k < length ks
  low k l = All-get_or (λ p. p < length ks) positions k 0 (omega (arith, l, s.count)) (All-from_recursion (λ p. p < length ks) positions s.within)

  -- the keys ascend one by one
  pub up : (k : ℕ) → suc k < length ks → compare_units (units_at k) (units_at (suc k)) ≡ Less
  up k within = s.ascend k (omega (arith, within, s.count))

  apart : (i j : ℕ) → i < j → j < length ks → slice_index positions i ≡ slice_index positions j → ⊥
  apart i j l m e = ascend_apart units_at (length ks) up i j l m (ap (λ p. slice_index_or s.units p []) e)

  pub units_of_key : (k : ℕ) (us : List ℕ) → k < length ks → SpellsText f F (slice_index ks k) us → slice_index_or s.units k [] ≡ us
  units_of_key k us l spells =
      let same = one_head f F (slice_index ks k) (leaf (text (slice_index_or s.units k []))) (leaf (text us)) (zip_at (SpellsText f F) ks s.units k 0 [] s.texts l) spells in
      cc same

  no_list : (i j : ℕ) (us : List ℕ) → i < j → j < length ks → SpellsText f F (slice_index ks i) us → SpellsText f F (slice_index ks j) us → ⊥
  no_list i j us l m x y =
      let within : i < length ks = omega (arith, l, m) in
      let a = onto (length ks) (slice_index positions) low apart i within in
      let b = onto (length ks) (slice_index positions) low apart j m in
      let first : units_at a.0 ≡ us = ap (λ p. slice_index_or s.units p []) a.2 ∙ units_of_key i us within x in
      let second : units_at b.0 ≡ us = ap (λ p. slice_index_or s.units p []) b.2 ∙ units_of_key j us m y in
      let same = ascend_once units_at (length ks) up a.0 b.0 a.1 b.1 (first ∙ sym second) in
      omega (arith, ap (slice_index positions) same, a.2, b.2, l)

-- a key list does not have two keys with the same units
pub repeated_unlisted : (f : List ℕ) (F : Frame) (ks positions : List ℕ) (i j : ℕ) (us : List ℕ) → i < j → j < length ks → SpellsText f F (slice_index ks i) us → SpellsText f F (slice_index ks j) us
    → IsSorted f F ks positions → ⊥
repeated_unlisted f F ks positions i j us l m x y s = no_list f F ks positions s i j us l m x y
