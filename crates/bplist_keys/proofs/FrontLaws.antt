-- The fronts of two texts decide their order, if they differ.
use Rattle.std.proofs.Common.{◌≡◌, ℕ, zero, suc, ◌+◌, ◌<◌, ◌≤◌, List, [], ◌∷◌, IsTrue, drop, slice_index, refl, sym, ap, ◌∙◌, inl, inr, arith, Less, Equal}
use Rattle.std.proofs.lemmas.Bool.{cases_order, cases_eq, cases_Bool}
use Rattle.std.proofs.lemmas.List.{get_or-drop, drop-drop}
use Rattle.std.specs.Cmp.{nat_cmp_is}
use Rattle.std.specs.Ordering.{ordering_then}
use Rattle.bplist_objects.specs.Units.{compare_units}
use Rattle.bplist_keys.specs.declared.fronts.Fronts.{Fronts}
use Rattle.bplist_keys.specs.Fronts.{AreNarrow, FitsFronts, IsFront, IsWideFront, narrow_half}

-- the first unit is smaller
first_less : (us vs : List ℕ) → slice_index us 0 < slice_index vs 0 → compare_units us vs ≡ Less
first_less [] (v ∷ vs) l = refl
first_less (u ∷ us) (v ∷ vs) l = sym (ap (λ o. ordering_then o (compare_units us vs)) (nat_cmp_is u v Less l))
first_less _ _ l = absurd (omega (arith, l))

-- no text comes before the empty one
none_before : (us : List ℕ) → compare_units us [] ≡ Less → ⊥
none_before [] l = cc l
none_before (u ∷ us) l = cc l

-- the first unit is the same, and the rest decides
rest_less : (us vs : List ℕ) → slice_index us 0 ≡ slice_index vs 0 → compare_units (drop 1 us) (drop 1 vs) ≡ Less → compare_units us vs ≡ Less
rest_less [] [] e l = l
rest_less [] (v ∷ vs) e l = refl
rest_less (u ∷ us) [] e l = absurd (none_before us l)
rest_less (u ∷ us) (v ∷ vs) e l = sym (ap (λ o. ordering_then o (compare_units us vs)) (nat_cmp_is u v Equal e)) ∙ l

-- unit k decides, if it is not the greater one
step : (us vs : List ℕ) (k : ℕ) → (slice_index us k ≡ slice_index vs k → compare_units (drop 1 (drop k us)) (drop 1 (drop k vs)) ≡ Less) → (slice_index vs k < slice_index us k → ⊥)
    → compare_units (drop k us) (drop k vs) ≡ Less
step us vs k rest not_more =
    let zero : k + 0 ≡ k = omega arith in
    let a : slice_index (drop k us) 0 ≡ slice_index us k = rw zero at (get_or-drop k us 0 0) in
    let b : slice_index (drop k vs) 0 ≡ slice_index vs k = rw zero at (get_or-drop k vs 0 0) in
    elim (cases_order (slice_index us k) (slice_index vs k)) [
      | inl e ↦ rest_less (drop k us) (drop k vs) (a ∙ e ∙ sym b) (rest e)
      | inr x ↦ elim x [
        | inl low ↦ first_less (drop k us) (drop k vs) (omega (arith, low, a, b))
        | inr high ↦ absurd (not_more high)
      ]
    ]

down : (us vs : List ℕ) (k : ℕ) → compare_units (drop (k + 1) us) (drop (k + 1) vs) ≡ Less → compare_units (drop 1 (drop k us)) (drop 1 (drop k vs)) ≡ Less
down us vs k l = rw (drop-drop 1 k us, drop-drop 1 k vs) l

-- texts that begin alike are in the order of their rests
rests_less : (us vs : List ℕ) (k : ℕ) → ((i : ℕ) → i < k → slice_index us i ≡ slice_index vs i) → compare_units (drop k us) (drop k vs) ≡ Less → compare_units us vs ≡ Less
rests_less us vs zero same l = l
rests_less us vs (suc k) same l =
    let one : suc k ≡ k + 1 = omega arith in
    rests_less us vs k (λ i low. same i (omega (arith, low)))
    (step us vs k (λ e. down us vs k (rw one at l)) (λ high. absurd (omega (arith, high, same k (omega arith)))))

-- a smaller number of four wide units is that of an earlier text
wide_less : (us vs : List ℕ) (m n : ℕ) → IsWideFront us m → IsWideFront vs n → m < n → compare_units us vs ≡ Less
wide_less us vs m n a b l =
    step us vs 0
    (λ e0. down us vs 0 (step us vs 1
    (λ e1. down us vs 1 (step us vs 2
    (λ e2. down us vs 2 (step us vs 3
    (λ e3. absurd (omega (arith, l, a.is, b.is, e0, e1, e2, e3)))
    (λ high. omega (arith, l, a.is, b.is, e0, e1, e2, high))))
    (λ high. omega (arith, l, a.is, b.is, e0, e1, high, a.fourth, b.fourth))))
    (λ high. omega (arith, l, a.is, b.is, e0, high, a.third, b.third, a.fourth, b.fourth))))
    (λ high. omega (arith, l, a.is, b.is, high, a.second, b.second, a.third, b.third, a.fourth, b.fourth))

-- four narrow units decide, if their numbers differ, and otherwise are the same
module _ (us vs : List ℕ) (small : AreNarrow us) (small_2 : AreNarrow vs) where
  narrow_less : (k : ℕ) → narrow_half us k < narrow_half vs k → compare_units (drop k us) (drop k vs) ≡ Less
  narrow_less k l =
      let a1 = small (k + 1) in
      let a2 = small (k + 2) in
      let a3 = small (k + 3) in
      let b1 = small_2 (k + 1) in
      let b2 = small_2 (k + 2) in
      let b3 = small_2 (k + 3) in
      let two : k + 1 + 1 ≡ k + 2 = omega arith in
      let three : k + 2 + 1 ≡ k + 3 = omega arith in
      step us vs k
      (λ e0. down us vs k (step us vs (k + 1)
      (λ e1. down us vs (k + 1) (rw two (step us vs (k + 2)
      (λ e2. down us vs (k + 2) (rw three (step us vs (k + 3)
      (λ e3. absurd (omega (arith, l, e0, e1, e2, e3)))
      (λ high. omega (arith, l, e0, e1, e2, high)))))
      (λ high. omega (arith, l, e0, e1, high, a3, b3)))))
      (λ high. omega (arith, l, e0, high, a2, b2, a3, b3))))
      (λ high. omega (arith, l, high, a1, b1, a2, b2, a3, b3))

  narrow_same : narrow_half us 0 ≡ narrow_half vs 0 → (i : ℕ) → i < 4 → slice_index us i ≡ slice_index vs i
  narrow_same e i low =
      let a1 = small 1 in
      let a2 = small 2 in
      let a3 = small 3 in
      let b1 = small_2 1 in
      let b2 = small_2 2 in
      let b3 = small_2 3 in
      let is_0 : slice_index us 0 ≡ slice_index vs 0 = omega (arith, e, a1, b1, a2, b2, a3, b3) in
      let is_1 : slice_index us 1 ≡ slice_index vs 1 = omega (arith, e, is_0, a2, b2, a3, b3) in
      let is_2 : slice_index us 2 ≡ slice_index vs 2 = omega (arith, e, is_0, is_1, a3, b3) in
      let is_3 : slice_index us 3 ≡ slice_index vs 3 = omega (arith, e, is_0, is_1, is_2) in
      elim (cases_eq i 0) [
        | inl k ↦ rw k is_0
        | inr d0 ↦ elim (cases_eq i 1) [
          | inl k ↦ rw k is_1
          | inr d1 ↦ elim (cases_eq i 2) [
            | inl k ↦ rw k is_2
            | inr d2 ↦ let k : i ≡ 3 = omega (arith, low, d0, d1, d2) in rw k is_3
          ]
        ]
      ]

-- four narrow units are together below this number
low_half : (us : List ℕ) → AreNarrow us → narrow_half us 4 < 4294967296
low_half us small =
    omega (arith, small 4, small 5, small 6, small 7)

-- the rest of a narrow text is narrow
pub small_rest : (n : ℕ) (us : List ℕ) → AreNarrow us → AreNarrow (drop n us)
small_rest n us small i = rw (get_or-drop n us i 0) (small (n + i))

module _ (first : List ℕ) (fronts : Fronts) (us vs : List ℕ) (m n : ℕ) (a : IsFront first fronts us m) (b : IsFront first fronts vs n) (l : m < n) where
  -- a smaller front is that of an earlier text
  pub front_less : compare_units us vs ≡ Less
  front_less =
      let us_2 = drop fronts.shared us in
      let vs_2 = drop fronts.shared vs in
      rests_less us vs fronts.shared (λ i low. a.fits.shared i low ∙ sym (b.fits.shared i low)) (elim (cases_Bool fronts.narrow) [
        | inl small_all ↦
            let small = small_rest fronts.shared us (a.fits.narrow small_all) in
            let small_2 = small_rest fronts.shared vs (b.fits.narrow small_all) in
            let m_is = a.narrow small_all in
            let n_is = b.narrow small_all in
            elim (cases_order (narrow_half us_2 0) (narrow_half vs_2 0)) [
              | inl same ↦ rests_less us_2 vs_2 4 (narrow_same us_2 vs_2 small small_2 same) (narrow_less us_2 vs_2 small small_2 4 (omega (arith, l, m_is, n_is, same)))
              | inr x ↦ elim x [
                | inl low ↦ narrow_less us_2 vs_2 small small_2 0 low
                | inr high ↦ absurd (omega (arith, l, m_is, n_is, high, low_half us_2 small, low_half vs_2 small_2))
              ]
            ]
        | inr wide_all ↦ wide_less us_2 vs_2 m n (a.wide wide_all) (b.wide wide_all) l
      ])

-- fewer shared units, or texts that need not be narrow
pub fits_fewer : (first : List ℕ) (old new : Fronts) (us : List ℕ) → new.shared ≤ old.shared → (IsTrue new.narrow → IsTrue old.narrow) → FitsFronts first old us → FitsFronts first new us
fits_fewer first old new us shared narrow fits = record {
  shared = λ i low. fits.shared i (omega (arith, low, shared));
  narrow = λ all. fits.narrow (narrow all);
}
