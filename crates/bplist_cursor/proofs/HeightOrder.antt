-- The objects that are higher than some height, in the order of their heights.
use Rattle.std.proofs.Common.{◌≡◌, ℕ, ◌+◌, ◌<◌, ◌≤◌, List, ◌∷◌, [], ◌++◌, length, slice_index, inl, inr, sym, ap, ◌∙◌, subst, arith, Contains}
use Rattle.std.specs.List.Sorted.{IsNonDecreasingBy, IsPermutation}
use Rattle.std.proofs.lemmas.Bool.{cases_lt, cases_eq}
use Rattle.std.proofs.lemmas.Grind.{get_or_default_zero}
use Rattle.std.proofs.lemmas.List.{get_or_past}
use Rattle.std.proofs.lemmas.List.Elements.{Contains-get_or, Contains-append_left, Contains-push, Contains-push_cases}
use Rattle.std.proofs.lemmas.List.Sorted.{Contains-permutation, IsPermutation-sym}
use Rattle.bplist_cursor.specs.ObjectSizes.{AreHigher, IsOrder}

-- a place of a member
pub place_in : (xs : List ℕ) (x : ℕ) → Contains xs x → (j : ℕ) × (j < length xs) × (slice_index xs j ≡ x)
place_in xs x c = (c.0, c.1, sym (get_or_default_zero xs c.0 x c.1) ∙ c.2)

-- one more object is higher
pub higher_more : (heights order : List ℕ) (height n : ℕ) → AreHigher heights height n order → height < slice_index heights n → AreHigher heights height (n + 1) (order ++ n ∷ [])
higher_more heights order height n so_far above = record {
  all = λ m l v. elim (cases_eq m n) [
    | inl same ↦ subst (Contains (order ++ n ∷ [])) (sym same) (Contains-push order n)
    | inr other ↦ Contains-append_left order (n ∷ []) m (so_far.all m (omega (arith, l, other)) v)
  ];
  only = λ m c. elim (Contains-push_cases order n m c) [
    | inl before ↦ so_far.only m before
    | inr same ↦ subst (λ k. height < slice_index heights k) same above
  ];
}

-- one more object is not
pub higher_same : (heights order : List ℕ) (height n : ℕ) → AreHigher heights height n order → slice_index heights n ≤ height → AreHigher heights height (n + 1) order
higher_same heights order height n so_far low = record {
  all = λ m l v. elim (cases_eq m n) [
    | inl same ↦ absurd (omega (arith, v, low, ap (slice_index heights) same))
    | inr other ↦ so_far.all m (omega (arith, l, other)) v
  ];
  only = so_far.only;
}

pub inside_of : (heights : List ℕ) (height n : ℕ) → height < slice_index heights n → n < length heights
inside_of heights height n v = elim (cases_lt n (length heights)) [
  | inl l ↦ l
  | inr past ↦ absurd (omega (arith, v, get_or_past heights n 0 past))
]

-- these objects in the order of their heights
pub order_of : (heights before order : List ℕ) (height : ℕ) → AreHigher heights height (length heights) before → IsPermutation before order
    → IsNonDecreasingBy (slice_index heights) order → IsOrder heights height order
order_of heights before order height higher same ascends = record {
  all = λ n v. Contains-permutation before order n same (higher.all n (inside_of heights height n v) v);
  only = λ n c. higher.only n (Contains-permutation order before n (IsPermutation-sym before order same) c);
  ascends = ascends;
}

-- they are numbers of objects
pub order_inside : (heights order : List ℕ) (height objects : ℕ) → IsOrder heights height order → length heights ≡ objects → (j : ℕ) → j < length order → slice_index order j < objects
order_inside heights order height objects is count j l =
    omega (arith, inside_of heights height (slice_index order j) (is.only (slice_index order j) (Contains-get_or order j 0 l)), count)

-- a lower object that is among them comes before
pub lower_before : (heights order : List ℕ) (height k m : ℕ) → IsOrder heights height order → height < slice_index heights m
    → slice_index heights m < slice_index heights (slice_index order k) → (j : ℕ) × (j < k) × (slice_index order j ≡ m)
lower_before heights order height k m is above lower =
    let place = place_in order m (is.all m above) in
    elim (cases_lt place.0 k) [
      | inl before ↦ (place.0, before, place.2)
      | inr behind ↦
          absurd (omega (arith, is.ascends k place.0 0 behind place.1, ap (slice_index heights) place.2, lower))
    ]

-- an object before the last place whose number is not the one there comes before it
pub not_last : (order : List ℕ) (k j : ℕ) → j < k + 1 → (slice_index order j ≡ slice_index order k → ⊥) → j < k
not_last order k j below other = elim (cases_eq j k) [
  | inl same ↦ absurd (other (ap (slice_index order) same))
  | inr less ↦ omega (arith, below, less)
]
