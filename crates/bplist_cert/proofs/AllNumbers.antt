-- A list of different numbers below a bound, as long as the bound, has all of them.
use Rattle.std.proofs.Common.{arith, ◌≡◌, ◌<◌, ◌≤◌, ◌⊎◌, inl, inr, ℕ, zero, suc, refl, sym, ap, ◌∙◌, subst}
use Rattle.std.proofs.lemmas.Bool.{cases_lt, cases_eq}

-- y if x is m, else x
by_place : (m y x : ℕ) → (x ≡ m) ⊎ (x ≡ m → ⊥) → ℕ
by_place m y x (inl e) = y
by_place m y x (inr d) = x

by_cases : (m y x : ℕ) (d : (x ≡ m) ⊎ (x ≡ m → ⊥)) → ((x ≡ m) × (by_place m y x d ≡ y)) ⊎ ((x ≡ m → ⊥) × (by_place m y x d ≡ x))
unfolding by_place
by_cases m y x (inl e) = inl (e, refl)
by_cases m y x (inr d) = inr (d, refl)

abbrev other : ℕ → ℕ → ℕ → ℕ
other m y x = by_place m y x (cases_eq x m)

other_cases : (m y x : ℕ) → ((x ≡ m) × (other m y x ≡ y)) ⊎ ((x ≡ m → ⊥) × (other m y x ≡ x))
other_cases m y x = by_cases m y x (cases_eq x m)

-- there are at most `bound` different numbers below a bound
pigeonhole : (n m : ℕ) (g : ℕ → ℕ) → ((j : ℕ) → j < n → g j < m) → ((i j : ℕ) → i < j → j < n → g i ≡ g j → ⊥) → n ≤ m
pigeonhole zero m g into apart = omega arith
pigeonhole (suc n) zero g into apart = let l = into 0 (omega arith) in absurd (omega (arith, l))
pigeonhole (suc n) (suc m) g into apart =
    let below : (j : ℕ) → j < n → other m (g n) (g j) < m = λ j l.
    let own = into j (omega (arith, l)) in
    let last = into n (omega arith) in
    elim (other_cases m (g n) (g j)) [
      | inl s ↦ let ne : g n ≡ m → ⊥ = λ e. apart j n l (omega arith) (s.0 ∙ sym e) in omega (arith, s.1, last, ne)
      | inr s ↦ omega (arith, s.0, s.1, own)
    ] in
    let differ : (i j : ℕ) → i < j → j < n → other m (g n) (g i) ≡ other m (g n) (g j) → ⊥ = λ i j l k e.
    elim (other_cases m (g n) (g i)) [
      | inl s ↦ elim (other_cases m (g n) (g j)) [
        | inl t ↦ apart i j l (omega (arith, k)) (s.0 ∙ sym t.0)
        | inr t ↦ apart j n k (omega arith) (sym t.1 ∙ sym e ∙ s.1)
      ]
      | inr s ↦ elim (other_cases m (g n) (g j)) [
        | inl t ↦ apart i n (omega (arith, l, k)) (omega arith) (sym s.1 ∙ e ∙ t.1)
        | inr t ↦ apart i j l (omega (arith, k)) (sym s.1 ∙ e ∙ t.1)
      ]
    ] in
    let rest = pigeonhole n m (λ j. other m (g n) (g j)) below differ in
    omega (arith, rest)

-- a number is among the first ones, or it is not
among : (n : ℕ) (g : ℕ → ℕ) (i : ℕ) → ((j : ℕ) × (j < n) × (g j ≡ i)) ⊎ ((j : ℕ) → j < n → g j ≡ i → ⊥)
among zero g i = inr (λ j l e. omega (arith, l))
among (suc n) g i = elim (among n g i) [
  | inl there ↦ inl (there.0, omega (arith, there.1), there.2)
  | inr none ↦ elim (cases_eq (g n) i) [
    | inl e ↦ inl (n, omega arith, e)
    | inr differ ↦ inr (λ j l e. elim (cases_lt j n) [
      | inl before ↦ none j before e
      | inr last ↦ let same : j ≡ n = omega (arith, l, last) in differ (ap g (sym same) ∙ e)
    ])
  ]
]

-- item i after the first ones
longer : (n : ℕ) (g : ℕ → ℕ) (i j : ℕ) → (j < n) ⊎ (n ≤ j) → ℕ
longer n g i j (inl before) = g j
longer n g i j (inr behind) = i

front : (n : ℕ) (g : ℕ → ℕ) (i j : ℕ) (d : (j < n) ⊎ (n ≤ j)) → j < n → longer n g i j d ≡ g j
unfolding longer
front n g i j (inl before) l = refl
front n g i j (inr behind) l = absurd (omega (arith, l, behind))

last : (n : ℕ) (g : ℕ → ℕ) (i j : ℕ) (d : (j < n) ⊎ (n ≤ j)) → n ≤ j → longer n g i j d ≡ i
unfolding longer
last n g i j (inl before) l = absurd (omega (arith, l, before))
last n g i j (inr behind) l = refl

-- each number below the bound is in the list
pub onto : (n : ℕ) (g : ℕ → ℕ) → ((j : ℕ) → j < n → g j < n) → ((i j : ℕ) → i < j → j < n → g i ≡ g j → ⊥) → (i : ℕ) → i < n → (j : ℕ) × (j < n) × (g j ≡ i)
onto n g into apart i l = go (among n g i)
  where
    h : ℕ → ℕ
    h j = longer n g i j (cases_lt j n)

    below : (j : ℕ) → j < suc n → h j < n
    below j k = elim (cases_lt j n) [
      | inl before ↦ let e = front n g i j (cases_lt j n) before in let b = into j before in subst (λ x. x < n) (sym e) b
      | inr behind ↦ let e = last n g i j (cases_lt j n) behind in subst (λ x. x < n) (sym e) l
    ]

    go : ((j : ℕ) × (j < n) × (g j ≡ i)) ⊎ ((j : ℕ) → j < n → g j ≡ i → ⊥) → (j : ℕ) × (j < n) × (g j ≡ i)
    go (inl there) = there
    go (inr none) =
        let differ : (a b : ℕ) → a < b → b < suc n → h a ≡ h b → ⊥ = λ a b k m e.
        let before_a : a < n = omega (arith, k, m) in
        let ea = front n g i a (cases_lt a n) before_a in
        elim (cases_lt b n) [
          | inl before ↦ apart a b k before (sym ea ∙ e ∙ front n g i b (cases_lt b n) before)
          | inr behind ↦ none a before_a (sym ea ∙ e ∙ last n g i b (cases_lt b n) behind)
        ] in
        absurd (omega (arith, pigeonhole (suc n) n h below differ))
