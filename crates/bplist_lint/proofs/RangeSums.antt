-- Sums over the numbers below a bound, and those over the objects below it.
use Rattle.std.proofs.Common.{◌≡◌, ◌≢◌, ℕ, zero, suc, ◌+◌, ◌-◌, ◌<◌, ◌≤◌, Bool, true, false, cond, List, [], ◌∷◌, ◌++◌, length, Option, Some, None, unwrap_or, sum, sum_by, filter, filter_map, refl, sym, ap, ◌∙◌, subst, inl, inr, arith}
use Rattle.std.specs.List.{range_with_len, cons_option}
use Rattle.std.proofs.lemmas.Bool.{cases_lt}
use Rattle.std.specs.Option.{option_map_or}
use Rattle.std.proofs.lemmas.List.Sums.{sum_by-cons, sum_by_push}
use Rattle.bplist_objects.specs.declared.frame.Frame.{Frame}
use Rattle.bplist_objects.specs.declared.head.Head.{Head}
use Rattle.bplist_objects.specs.Announced.{HasHead}
use Rattle.bplist_objects.specs.Frame.{off}
use Rattle.bplist_objects.specs.Markers.{head_found}
use Rattle.bplist_objects.specs.Heads.{Content, refs, Spells}
use Rattle.bplist_objects.specs.Safe.{ref_count}
use Rattle.bplist_objects.proofs.References.{length-refs}
use Rattle.bplist_objects.proofs.HeadLaws.{head_is_found}
use Rattle.bplist_lint.specs.ReachRules.{references_below}
use Rattle.bplist_lint.specs.Linted.{HaveReferences}
use Rattle.bplist_lint.specs.ReachWalk.{extent, extent_by, extents_below}

-- the sum of g below n
abbrev pub sum_below : (ℕ → ℕ) → ℕ → ℕ
sum_below g n = sum_by g (range_with_len 0 n)

range_more : (a n : ℕ) → range_with_len a (suc n) ≡ range_with_len a n ++ (a + n) ∷ []
range_more a zero = let e : a ≡ a + 0 = omega arith in ap (λ k. k ∷ []) e
range_more a (suc n) = let e : a + 1 + n ≡ a + suc n = omega arith in ap (λ l. a ∷ l) (range_more (a + 1) n ∙ ap (λ k. range_with_len (a + 1) n ++ k ∷ []) e)

-- one more number
pub sum_next : (g : ℕ → ℕ) (n : ℕ) → sum_below g (suc n) ≡ sum_below g n + g n
sum_next g n = let e : 0 + n ≡ n = omega arith in ap (sum_by g) (range_more 0 n) ∙ sum_by_push g (range_with_len 0 n) (0 + n) ∙ ap (λ k. sum_below g n + g k) e

-- more numbers
pub sum_on : (g : ℕ → ℕ) (n m : ℕ) → n ≤ m → sum_below g n ≤ sum_below g m
sum_on g n zero h = let e : n ≡ 0 = omega (arith, h) in rw e (omega arith)
sum_on g n (suc m) h = elim (cases_lt m n) [
  | inl up ↦ let e : n ≡ suc m = omega (arith, h, up) in rw e (omega arith)
  | inr on ↦ omega (arith, sum_on g n m on, sum_next g m)
]

-- a sum of nothing
pub sum_none : (g : ℕ → ℕ) (n : ℕ) → ((m : ℕ) → g m ≡ 0) → sum_below g n ≡ 0
sum_none g zero none = refl
sum_none g (suc n) none = let before = sum_none g n none in let here = none n in omega (arith, sum_next g n)

-- a term of a sum
pub sum_term : (g : ℕ → ℕ) (i n : ℕ) → i < n → g i ≤ sum_below g n
sum_term g i n low = let part = sum_on g (suc i) n (omega (arith, low)) in omega (arith, part, sum_next g i)

-- a sum of smaller terms
pub sum_most : (g h : ℕ → ℕ) (n : ℕ) → ((k : ℕ) → k < n → h k ≤ g k) → sum_below h n ≤ sum_below g n
sum_most g h zero less = omega arith
sum_most g h (suc n) less = omega (arith, sum_most g h n (λ k low. less k (omega (arith, low))), sum_next g n, sum_next h n, less n (omega arith))

-- a sum of which one term is less by this much
pub sum_less : (g h : ℕ → ℕ) (i d n : ℕ) → i < n → h i + d ≤ g i → ((k : ℕ) → k ≢ i → h k ≤ g k) → sum_below h n + d ≤ sum_below g n
sum_less g h i d zero low less same = absurd (omega (arith, low))
sum_less g h i d (suc n) low less same = elim (cases_lt i n) [
  | inl before ↦ omega (arith, sum_less g h i d n before less same, sum_next g n, sum_next h n, same n (λ e. omega (arith, e, before)))
  | inr last ↦
      let e : i ≡ n = omega (arith, low, last) in
      let here = rw e at less in
      omega (arith, sum_most g h n (λ k l. same k (λ q. omega (arith, q, l, last))), sum_next g n, sum_next h n, here)
]

-- the sum over those of which p holds
sum_chosen : (g : ℕ → ℕ) (p : ℕ → Bool) (xs : List ℕ) → sum_by g (filter p xs) ≡ sum_by (λ m. cond (p m) (g m) 0) xs
sum_chosen g p [] = refl
sum_chosen g p (x ∷ xs) = one (p x) ∙ ap (λ k. cond (p x) (g x) 0 + k) (sum_chosen g p xs) ∙ sym (sum_by-cons (λ m. cond (p m) (g m) 0) x xs)
  where
    one : (b : Bool) → sum_by g (cond b (x ∷ filter p xs) (filter p xs)) ≡ cond b (g x) 0 + sum_by g (filter p xs)
    one true = sum_by-cons g x (filter p xs)
    one false = omega arith

-- the sum over what h finds
pub sum_found : {X : Type 0} (g : X → ℕ) (h : ℕ → Option X) (xs : List ℕ) → sum_by g (filter_map h xs) ≡ sum_by (λ m. option_map_or g (h m) 0) xs
sum_found g h [] = refl
sum_found g h (x ∷ xs) = one (h x) ∙ ap (λ k. option_map_or g (h x) 0 + k) (sum_found g h xs) ∙ sym (sum_by-cons (λ m. option_map_or g (h m) 0) x xs)
  where
    one : (o : Option _) → sum_by g (cons_option o (filter_map h xs)) ≡ option_map_or g o 0 + sum_by g (filter_map h xs)
    one None = omega arith
    one (Some y) = sum_by-cons g y (filter_map h xs)

-- one more number, for which h may find one
pub found_next : (h : ℕ → Option ℕ) (n : ℕ) → sum (filter_map h (range_with_len 0 (suc n))) ≡ sum (filter_map h (range_with_len 0 n)) + unwrap_or (h n) 0
found_next h n =
    let whole = sum_found (λ k. k) h (range_with_len 0 (suc n)) in
    let before = sum_found (λ k. k) h (range_with_len 0 n) in
    let one = sum_next (λ m. option_map_or (λ k. k) (h m) 0) n in
    omega (arith, whole, before, one, same (h n))
  where
    same : (o : Option ℕ) → option_map_or (λ k. k) o 0 ≡ unwrap_or o 0
    same None = refl
    same (Some k) = refl

module _ (f : List ℕ) (F : Frame) where
  pub extent_is : (n : ℕ) (head : Head) → HasHead f F n head → extent f F n ≡ head.«end» - off f F n
  extent_is n head has = ap (extent_by (off f F n)) (head_is_found f F n head has)

  -- how many references the head of object n has
  abbrev pub references_of : ℕ → ℕ
  references_of n = option_map_or (λ head. ref_count head.kind head.count) (head_found f F n) 0

  pub references_are : (n : ℕ) (head : Head) → HasHead f F n head → references_of n ≡ ref_count head.kind head.count
  references_are n head has = ap (λ found. option_map_or (λ head. ref_count head.kind head.count) found 0) (head_is_found f F n head has)

  module _ (p : ℕ → Bool) (n : ℕ) where
    pub extents_sum : extents_below f F p n ≡ sum_below (λ m. cond (p m) (extent f F m) 0) n
    extents_sum = sum_chosen (extent f F) p (range_with_len 0 n)

    pub references_sum : references_below f F p n ≡ sum_below (λ m. cond (p m) (references_of m) 0) n
    references_sum = sum_found (λ head. ref_count head.kind head.count) (head_found f F) (filter p (range_with_len 0 n)) ∙ sum_chosen references_of p (range_with_len 0 n)

  module _ (p : ℕ → Bool) (n : ℕ) where
    pub extents_next : extents_below f F p (suc n) ≡ extents_below f F p n + cond (p n) (extent f F n) 0
    extents_next =
        let one = sum_next (λ m. cond (p m) (extent f F m) 0) n in
        omega (arith, one, extents_sum p n, extents_sum p (suc n))

    pub extents_more : extents_below f F p (n + 1) ≡ extents_below f F p n + cond (p n) (extent f F n) 0
    extents_more =
        let next : suc n ≡ n + 1 = omega arith in
        subst (λ k. extents_below f F p k ≡ extents_below f F p n + cond (p n) (extent f F n) 0) next extents_next

    pub references_next : references_below f F p (suc n) ≡ references_below f F p n + cond (p n) (references_of n) 0
    references_next =
        let one = sum_next (λ m. cond (p m) (references_of m) 0) n in
        omega (arith, one, references_sum p n, references_sum p (suc n))

  -- what more objects take
  pub extents_on : (p : ℕ → Bool) (n m : ℕ) → n ≤ m → extents_below f F p n ≤ extents_below f F p m
  extents_on p n m low = omega (arith, extents_sum p n, extents_sum p m, sum_on (λ k. cond (p k) (extent f F k) 0) n m low)

  -- ---- the references of objects that spell something
  module _ (p : ℕ → Bool) (spell : (n : ℕ) → p n ≡ true → (c : Content) × Spells f F n c) where
    -- how many references the heads of these announce
    abbrev announced : List ℕ → ℕ
    announced xs = sum_by (λ head. ref_count head.kind head.count) (filter_map (head_found f F) xs)

    pub have_references : (xs : List ℕ) → HaveReferences f F (filter p xs) (announced (filter p xs))
    have_references [] = refl
    have_references (x ∷ xs) = one (p x) refl (have_references xs)
      where
        one : (b : Bool) → p x ≡ b → HaveReferences f F (filter p xs) (announced (filter p xs))
            → HaveReferences f F (cond b (x ∷ filter p xs) (filter p xs)) (announced (cond b (x ∷ filter p xs) (filter p xs)))
        one false e rest = rest
        one true e rest =
            let (c, s) = spell x e in
            let later = filter_map (head_found f F) (filter p xs) in
            let count : length (refs c) ≡ ref_count s.shape.kind s.shape.count = ap (λ d. length (refs d)) s.means ∙ length-refs f F s.shape.kind s.shape.count s.shape.body in (
              c,
              announced (filter p xs),
              s,
              rest,
              ap (λ o. sum_by (λ (head : Head). ref_count head.kind head.count) (cons_option o later)) (head_is_found f F x s.shape s.has.has)
                  ∙ sum_by-cons (λ (head : Head). ref_count head.kind head.count) s.shape later
                  ∙ ap (λ k. k + announced (filter p xs)) (sym count),
            )
