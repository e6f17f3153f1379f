-- What holds of each member of a list, and of each number below a bound; when two numbers are equal.
use Rattle.std.proofs.Common.{◌≡◌, ◌≢◌, ℕ, zero, suc, ◌<◌, ◌⊎◌, inl, inr, List, [], ◌∷◌, ◌++◌, refl, sym, subst, arith, Contains}
use Rattle.std.specs.List.{AllByRecursion, AllPairs}
use Rattle.std.proofs.lemmas.Bool.{cases_lt, cases_order}
use Rattle.std.proofs.lemmas.List.Elements.{All-from_recursion, All-contains}
use Rattle.std.proofs.lemmas.List.Kept.{AllPairs-cons}
use Rattle.bplist_objects.specs.Holds.{AreDistinct}

pub all_weaker : {X : Type 0} (P Q : X → Type 0) → ((x : X) → P x → Q x) → (xs : List X) → AllByRecursion P xs → AllByRecursion Q xs
all_weaker P Q h [] a = tt
all_weaker P Q h (x ∷ xs) a = (h x a.0, all_weaker P Q h xs a.1)

pub all_append : {X : Type 0} (P : X → Type 0) (xs ys : List X) → AllByRecursion P xs → AllByRecursion P ys → AllByRecursion P (xs ++ ys)
all_append P [] ys a b = b
all_append P (x ∷ xs) ys a b = (a.0, all_append P xs ys a.1 b)

pub all_front : {X : Type 0} (P : X → Type 0) → (xs ys : List X) → AllByRecursion P (xs ++ ys) → AllByRecursion P xs
all_front P [] ys a = tt
all_front P (x ∷ xs) ys a = (a.0, all_front P xs ys a.1)

pub all_behind : {X : Type 0} (P : X → Type 0) → (xs ys : List X) → AllByRecursion P (xs ++ ys) → AllByRecursion P ys
all_behind P [] ys a = a
all_behind P (x ∷ xs) ys a = all_behind P xs ys a.1

pub all_at : {X : Type 0} (P : X → Type 0) → (xs : List X) (x : X) → AllByRecursion P xs → Contains xs x → P x
all_at P xs x a c = All-contains P xs x (All-from_recursion P xs a) c

-- each member, by the members with their index
pub all_from : (P : ℕ → Type 0) (xs : List ℕ) → ((x : ℕ) → Contains xs x → P x) → AllByRecursion P xs
all_from P [] h = tt
all_from P (x ∷ xs) h = (h x (0, omega arith, refl), all_from P xs (λ y c. h y (suc c.0, omega (arith, c.1), c.2)))

-- ---- distinct members
pub distinct_none : AllPairs (λ (x y : ℕ). x ≢ y) []
distinct_none i j d a b = absurd (omega (arith, b))

pub distinct_head : (x : ℕ) (xs : List ℕ) → AreDistinct (x ∷ xs) → Contains xs x → ⊥
distinct_head x xs h c = h 0 (suc c.0) x (omega arith) (omega (arith, c.1)) (sym c.2)

pub distinct_rest : {X : Type 0} (x : X) (xs : List X) → AreDistinct (x ∷ xs) → AreDistinct xs
distinct_rest x xs h i j d a b = h (suc i) (suc j) d (omega (arith, a)) (omega (arith, b))

pub distinct_more : (x : ℕ) (xs : List ℕ) → (Contains xs x → ⊥) → AreDistinct xs → AreDistinct (x ∷ xs)
distinct_more x xs no1 h =
    AllPairs-cons (λ x y. x ≢ y) x xs (All-from_recursion _ xs (all_from (λ y. x ≢ y) xs (λ y c e. no1 (subst (Contains xs) (sym e) c)))) h

-- the empty list contains nothing
pub none_in : {X : Type 0} (x : X) → Contains [] x → ⊥
none_in x c = omega (arith, c.1)

-- it is, or it is not
abbrev pub Either : Type 0 → Type 0
Either P = P ⊎ (P → ⊥)

-- P holds of each number below a bound, or there is a first one of which B holds
abbrev pub AllOrFirst : (ℕ → Type 0) → (ℕ → Type 0) → ℕ → Type 0
AllOrFirst P B bound = ((k : ℕ) → k < bound → P k) ⊎ ((i : ℕ) × (i < bound) × B i × ((k : ℕ) → k < i → P k))

-- what holds of each number below a bound and of the bound holds of each number up to it
pub last_too : (P : ℕ → Type 0) (bound : ℕ) → ((k : ℕ) → k < bound → P k) → P bound → (k : ℕ) → k < suc bound → P k
last_too P bound all p k l = elim (cases_lt k bound) [
  | inl b ↦ all k b
  | inr b ↦ let e : bound ≡ k = omega (arith, l, b) in subst P e p
]

-- if it is decided for each number which of the two holds, it is decided for all
pub all_or_first : (P B : ℕ → Type 0) → ((k : ℕ) → P k ⊎ B k) → (bound : ℕ) → AllOrFirst P B bound
all_or_first P B each zero = inl (λ k l. absurd (omega (arith, l)))
all_or_first P B each (suc bound) = go (all_or_first P B each bound) (each bound)
  where
    go : AllOrFirst P B bound → P bound ⊎ B bound → AllOrFirst P B (suc bound)
    go (inr (i, l, b, before)) e = inr (i, omega (arith, l), b, before)
    go (inl all) (inl p) = inl (last_too P bound all p)
    go (inl all) (inr b) = inr (bound, omega arith, b, all)

-- two numbers are equal if neither is less than the other
pub one_number : (i j : ℕ) → (i < j → ⊥) → (j < i → ⊥) → i ≡ j
one_number i j a b = elim (cases_order i j) [
  | inl e ↦ e
  | inr r ↦ elim r [
    | inl l ↦ absurd (a l)
    | inr l ↦ absurd (b l)
  ]
]
