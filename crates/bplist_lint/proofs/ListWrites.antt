-- What a write or a push changes of a list.
use Rattle.std.proofs.Common.{◌≡◌, ◌≢◌, ℕ, zero, suc, ◌+◌, ◌<◌, ◌⊎◌, inl, inr, Bool, true, false, cond, List, [], ◌∷◌, ◌++◌, length, get_or, set, replicate, count_by, refl, sym, ◌∙◌, arith}
use Rattle.std.proofs.lemmas.Bool.{cases_eq}
use Rattle.std.proofs.lemmas.List.{get_or-set_same, get_or-set_other, get_or_append_left, get_or_push, length_push}
use Rattle.std.proofs.lemmas.List.Sums.{sum_by-set}
use Rattle.bplist_keys.specs.Marks.{IsMarked}

-- how a count changes at a write
pub count-set : {X : Type 0} (p : X → Bool) (xs : List X) (i : ℕ) (y d : X) → i < length xs → count_by p (set xs i y) + cond (p (get_or xs i d)) 1 0 ≡ count_by p xs + cond (p y) 1 0
count-set p xs i y d in' = sum_by-set (λ x. cond (p x) 1 0) xs i y d in'

-- the place of item k after a push
pub push_cases : {X : Type 0} (xs : List X) (x d : X) (k : ℕ) → k < length (xs ++ x ∷ []) → ((k < length xs) × (get_or (xs ++ x ∷ []) k d ≡ get_or xs k d)) ⊎ ((k ≡ length xs) × (get_or (xs ++ x ∷ []) k d ≡ x))
push_cases xs x d k h =
    let long = length_push xs x in
    elim (cases_eq k (length xs)) [
      | inl e ↦ inr (e, get_or_push xs x d k (sym e))
      | inr ne ↦ let below : k < length xs = omega arith in inl (below, get_or_append_left xs (x ∷ []) d k below)
    ]

-- the item at a place after a write
pub at_set : {X : Type 0} (xs : List X) (x : ℕ) (v d : X) (n : ℕ) → x < length xs → ((n ≡ x) × (get_or (set xs x v) n d ≡ v)) ⊎ ((n ≢ x) × (get_or (set xs x v) n d ≡ get_or xs n d))
at_set xs x v d n in' = elim (cases_eq n x) [
  | inl e ↦ inl (e, rw e (get_or-set_same xs x v d in'))
  | inr ne ↦ inr (ne, get_or-set_other xs x n v d ne)
]

-- what is seen stays so
pub seen-set : (seen : List Bool) (x n : ℕ) → x < length seen → IsMarked seen n → IsMarked (set seen x true) n
seen-set seen x n within h = elim (at_set seen x true false n within) [
  | inl c ↦ c.1
  | inr c ↦ c.1 ∙ h
]

-- the items of a list of one value, and outside it
pub unwritten : {X : Type 0} → (size n : ℕ) (x : X) → get_or (replicate size x) n x ≡ x
unwritten zero n x = refl
unwritten (suc size) zero x = refl
unwritten (suc size) (suc n) x = unwritten size n x

abbrev pub nothing : ℕ
nothing = 0

-- ---- lists whose items have different numbers
module _ {X : Type 0} (number : X → ℕ) (d : X) where
  abbrev pub Differ : List X → Type 0
  Differ xs = (j k : ℕ) → j < k → k < length xs → number (get_or xs j d) ≢ number (get_or xs k d)

  pub differ_push : (xs : List X) (x : X) → Differ xs → ((j : ℕ) → j < length xs → number (get_or xs j d) ≢ number x) → Differ (xs ++ x ∷ [])
  differ_push xs x differ last j k less h = elim (push_cases xs x d k h) [
    | inl c ↦ let low : j < length xs = let l = c.0 in omega arith in rw (c.1, get_or_append_left xs (x ∷ []) d j low) (differ j k less c.0)
    | inr c ↦ let low : j < length xs = let l = c.0 in omega arith in rw (c.1, get_or_append_left xs (x ∷ []) d j low) (last j low)
  ]

  pub differ_front : (xs : List X) (x : X) → Differ (xs ++ x ∷ []) → Differ xs
  differ_front xs x differ j k less h =
      let long = length_push xs x in
      let low : j < length xs = omega arith in
      rw (get_or_append_left xs (x ∷ []) d j low, get_or_append_left xs (x ∷ []) d k h) at (differ j k less (omega arith))

  pub differ_last : (xs : List X) (x : X) → Differ (xs ++ x ∷ []) → (j : ℕ) → j < length xs → number (get_or xs j d) ≢ number x
  differ_last xs x differ j h =
      let long = length_push xs x in
      rw (get_or_append_left xs (x ∷ []) d j h, get_or_push xs x d (length xs) refl) at (differ j (length xs) h (omega arith))
