-- Key lists whose keys ascend.
use Rattle.std.proofs.Common.{◌≡◌, ℕ, zero, suc, ◌+◌, ◌-◌, ◌<◌, inl, inr, List, slice_index, Less, sym, subst, arith}
use Rattle.std.proofs.lemmas.Bool.{cases_order}
use Rattle.bplist_objects.specs.declared.frame.Frame.{Frame}
use Rattle.bplist_objects.specs.declared.head.Head.{Head}
use Rattle.bplist_objects.specs.Units.{units_of, compare_units}
use Rattle.bplist_objects.specs.Scan.{ref}
use Rattle.bplist_objects.proofs.Fronts.{one_shape}
use Rattle.bplist_objects.proofs.UnitOrder.{compare_units-less_less, compare_units-not_less}
use Rattle.bplist_cert.specs.DictKeys.{IsText}

-- texts that ascend one by one
module _ (u : ℕ → List ℕ) (count : ℕ) (up : (k : ℕ) → suc k < count → compare_units (u k) (u (suc k)) ≡ Less) where
  far : (d i : ℕ) → suc (i + d) < count → compare_units (u i) (u (suc (i + d))) ≡ Less
  far zero i l =
      let e : i ≡ i + 0 = omega arith in
      subst (λ k. compare_units (u i) (u (suc k)) ≡ Less) e (up i (omega (arith, l)))
  far (suc d) i l =
      let e : suc (i + d) ≡ i + suc d = omega arith in
      subst (λ k. compare_units (u i) (u (suc k)) ≡ Less) e
      (compare_units-less_less (u i) (u (suc (i + d))) (u (suc (suc (i + d)))) (far d i (omega (arith, l))) (up (suc (i + d)) (omega (arith, l))))

  -- they ascend over any distance
  pub ascend_far : (i j : ℕ) → i < j → j < count → compare_units (u i) (u j) ≡ Less
  ascend_far i j l m =
      let there : suc (i + (j - suc i)) ≡ j = omega (arith, l) in
      subst (λ k. compare_units (u i) (u k) ≡ Less) there (far (j - suc i) i (omega (arith, there, m)))

  -- so texts at two places differ
  pub ascend_apart : (i j : ℕ) → i < j → j < count → u i ≡ u j → ⊥
  ascend_apart i j l m same = compare_units-not_less (u i) (u j) same (ascend_far i j l m)

  -- a text stands at one place
  pub ascend_once : (i j : ℕ) → i < count → j < count → u i ≡ u j → i ≡ j
  ascend_once i j l m same = elim (cases_order i j) [
    | inl one ↦ one
    | inr other ↦ absurd (elim other [ inl before ↦ ascend_apart i j before m same | inr after ↦ ascend_apart j i after l (sym same) ])
  ]

-- a text has one head
pub text_once : (f : List ℕ) (F : Frame) (m : ℕ) (a b : Head) → IsText f F m a → IsText f F m b → a ≡ b
text_once f F m a b x y = one_shape f F m a b x.is.0 y.is.0

module _ (f : List ℕ) (F : Frame) (head : Head) (list : List ℕ) where
  -- number j of the list is a position, whose key comes after the one before
  abbrev pub IsInOrder : ℕ → Type 0
  IsInOrder j =
      (slice_index list j < head.count)
      × ((i : ℕ) (a b : Head) → suc i ≡ j → IsText f F (ref f F head (slice_index list i)) a → IsText f F (ref f F head (slice_index list j)) b
      → compare_units (units_of f a) (units_of f b) ≡ Less)
