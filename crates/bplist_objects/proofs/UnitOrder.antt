-- The order of lists of units: how a comparison by blocks decides it, and that it is a total order.
use Rattle.std.proofs.Common.{◌≡◌, ℕ, zero, suc, ◌+◌, ◌<◌, ◌≤◌, ◌≢◌, ◌⊎◌, inl, inr, List, [], ◌∷◌, ◌++◌, length, take, drop, refl, sym, ap, ap₂, ◌∙◌, subst, arith, Ordering, Less, Equal, Greater, nat_cmp, ◌↔◌, true, false}
use Rattle.std.specs.Cmp.{nat_cmp_is}
use Rattle.std.specs.Ordering.{ordering_then, ordering_reverse, MatchOrdering, is_ne}
use Rattle.std.proofs.Math.Seq.{take-add}
use Rattle.std.proofs.lemmas.List.{length-drop}
use Rattle.std.proofs.lemmas.Cmp.{ranked, tied_itself, nat_cmp_total, nat_list_cmp_total}
use Rattle.bplist_octets.specs.Octets.{part}
use Rattle.bplist_objects.specs.Units.{compare_units}

-- only equal lists compare as equal
pub compare_units-equal : (us vs : List ℕ) → compare_units us vs ≡ Equal → us ≡ vs
compare_units-equal [] [] e = refl
compare_units-equal [] (v ∷ vs) e = cc e
compare_units-equal (u ∷ us) [] e = cc e
compare_units-equal (u ∷ us) (v ∷ vs) e = go (compare_units-equal us vs) (nat_cmp u v) (ranked u v (nat_cmp u v) refl) e
  where
    go : (compare_units us vs ≡ Equal → us ≡ vs) → (o : Ordering) → MatchOrdering o (u < v) (u ≡ v) (v < u) → ordering_then o (compare_units us vs) ≡ Equal → (u ∷ us) ≡ (v ∷ vs)
    go h Less m e = cc e
    go h Equal m e = ap₂ (λ a b. a ∷ b) m (h e)
    go h Greater m e = cc e

-- a list compares as equal with itself
pub compare_units-self : (us : List ℕ) → compare_units us us ≡ Equal
compare_units-self us = tied_itself nat_list_cmp_total us

-- lists are equal if and only if they compare as equal
pub compare_units-equal_iff : (us vs : List ℕ) → (compare_units us vs ≡ Equal) ↔ (us ≡ vs)
compare_units-equal_iff us vs = (compare_units-equal us vs, λ e. subst (λ ws. compare_units us ws ≡ Equal) e (compare_units-self us))

-- swapping the two lists reverses a comparison
pub compare_units-reverse : (us vs : List ℕ) → compare_units vs us ≡ ordering_reverse (compare_units us vs)
compare_units-reverse us vs = nat_list_cmp_total.antisymm vs us

pub compare_units-greater : (us vs : List ℕ) → compare_units us vs ≡ Greater → compare_units vs us ≡ Less
compare_units-greater us vs e = compare_units-reverse us vs ∙ ap ordering_reverse e

pub compare_units-less : (us vs : List ℕ) → compare_units us vs ≡ Less → compare_units vs us ≡ Greater
compare_units-less us vs e = compare_units-reverse us vs ∙ ap ordering_reverse e

-- if a list is less than a second and that less than a third, the first is less than the third
pub compare_units-less_less : (us vs ws : List ℕ) → compare_units us vs ≡ Less → compare_units vs ws ≡ Less → compare_units us ws ≡ Less
compare_units-less_less us vs ws a b = nat_list_cmp_total.trans us vs ws a b

pub compare_units-greater_greater : (us vs ws : List ℕ) → compare_units us vs ≡ Greater → compare_units vs ws ≡ Greater → compare_units us ws ≡ Greater
compare_units-greater_greater us vs ws a b =
    compare_units-less ws us (compare_units-less_less ws vs us (compare_units-greater vs ws b) (compare_units-greater us vs a))

-- no list is less than itself
pub compare_units-not_less : (us vs : List ℕ) → us ≡ vs → compare_units us vs ≡ Less → ⊥
compare_units-not_less us vs e l = let same = (compare_units-equal_iff us vs).1 e in cc (same, l)

-- of two lists one is less than the other, or they are equal
pub compare_units-cases : (us vs : List ℕ) → (compare_units us vs ≡ Less) ⊎ ((us ≡ vs) ⊎ (compare_units vs us ≡ Less))
compare_units-cases us vs = go (compare_units us vs) refl
  where
    go : (o : Ordering) → compare_units us vs ≡ o → (compare_units us vs ≡ Less) ⊎ ((us ≡ vs) ⊎ (compare_units vs us ≡ Less))
    go Less e = inl e
    go Equal e = inr (inl (compare_units-equal us vs e))
    go Greater e = inr (inr (compare_units-greater us vs e))

-- if the fronts are the same, the rest decides
same_front : (n : ℕ) (us vs : List ℕ) → n ≤ length us → n ≤ length vs → take n us ≡ take n vs → compare_units us vs ≡ compare_units (drop n us) (drop n vs)
same_front zero us vs a b e = refl
same_front (suc n) [] vs a b e = absurd (omega arith)
same_front (suc n) (u ∷ us) [] a b e = absurd (omega arith)
same_front (suc n) (u ∷ us) (v ∷ vs) a b e =
    let first : u ≡ v = cc e in
    let rest : take n us ≡ take n vs = cc e in
    let tied : nat_cmp u v ≡ Equal = subst (λ w. nat_cmp u w ≡ Equal) first (tied_itself nat_cmp_total u) in
    ap (λ o. ordering_then o (compare_units us vs)) tied ∙ same_front n us vs (omega arith) (omega arith) rest

-- fronts that differ decide
front_decides : (n : ℕ) (us vs : List ℕ) → n ≤ length us → n ≤ length vs → compare_units (take n us) (take n vs) ≢ Equal → compare_units us vs ≡ compare_units (take n us) (take n vs)
front_decides zero us vs a b d = absurd (d refl)
front_decides (suc n) [] vs a b d = absurd (omega arith)
front_decides (suc n) (u ∷ us) [] a b d = absurd (omega arith)
front_decides (suc n) (u ∷ us) (v ∷ vs) a b d = go (nat_cmp u v) (front_decides n us vs (omega arith) (omega arith)) d
  where
    go : (o : Ordering) → (compare_units (take n us) (take n vs) ≢ Equal → compare_units us vs ≡ compare_units (take n us) (take n vs))
        → ordering_then o (compare_units (take n us) (take n vs)) ≢ Equal
        → ordering_then o (compare_units us vs) ≡ ordering_then o (compare_units (take n us) (take n vs))
    go Less h d = refl
    go Equal h d = h d
    go Greater h d = refl

-- after the same front, a block that differs decides
pub block_decides : (done now : ℕ) (us vs : List ℕ) → done + now ≤ length us → done + now ≤ length vs → take done us ≡ take done vs
    → compare_units (part us done now) (part vs done now) ≢ Equal → compare_units us vs ≡ compare_units (part us done now) (part vs done now)
block_decides done now us vs a b e d =
    let left = length-drop done us in
    let right = length-drop done vs in
    same_front done us vs (omega arith) (omega arith) e ∙ front_decides now (drop done us) (drop done vs) (omega (arith, left)) (omega (arith, right)) d

-- after the same front, a block that is the same makes the front longer
pub block_same : (done now : ℕ) (us vs : List ℕ) → take done us ≡ take done vs → compare_units (part us done now) (part vs done now) ≡ Equal → take (done + now) us ≡ take (done + now) vs
block_same done now us vs e d =
    take-add done now us
    ∙ ap₂ (λ xs ys. xs ++ ys) e (compare_units-equal (part us done now) (part vs done now) d)
    ∙ sym (take-add done now vs)

ended : (n a b : ℕ) (xs ys : List ℕ) → (length xs ≡ 0) ⊎ (length ys ≡ 0) → a ≡ n + length xs → b ≡ n + length ys → compare_units xs ys ≡ nat_cmp a b
ended n a b [] [] h ea eb = nat_cmp_is a b Equal (omega arith)
ended n a b [] (y ∷ ys) h ea eb = nat_cmp_is a b Less (omega arith)
ended n a b (x ∷ xs) [] h ea eb = nat_cmp_is a b Greater (omega arith)
ended n a b (x ∷ xs) (y ∷ ys) h ea eb = elim h [ inl e ↦ absurd (omega arith) | inr e ↦ absurd (omega arith) ]

-- if one of them ends with the same front, the lengths decide
pub lengths_decide : (n : ℕ) (us vs : List ℕ) → n ≤ length us → n ≤ length vs → (length us ≤ n) ⊎ (length vs ≤ n) → take n us ≡ take n vs
    → compare_units us vs ≡ nat_cmp (length us) (length vs)
lengths_decide n us vs a b short e =
    let left = length-drop n us in
    let right = length-drop n vs in
    same_front n us vs a b e
    ∙ ended n (length us) (length vs) (drop n us) (drop n vs) (elim short [ inl s ↦ inl (omega (arith, left)) | inr s ↦ inr (omega (arith, right)) ]) (omega (arith, left)) (omega (arith, right))

-- `is_ne` is true of each comparison but Equal
pub ne_not_equal : (o : Ordering) → is_ne o ≡ true → o ≢ Equal
ne_not_equal Less t e = cc e
ne_not_equal Equal t e = cc t
ne_not_equal Greater t e = cc e

pub eq_is_equal : (o : Ordering) → is_ne o ≡ false → o ≡ Equal
eq_is_equal Less t = cc t
eq_is_equal Equal t = refl
eq_is_equal Greater t = cc t
