-- The number at which a claim fails.
use Rattle.std.proofs.Common.{◌≡◌, ℕ, suc, ◌<◌, ◌≤◌, ◌⊎◌, inl, inr, arith}
use Rattle.bplist_objects.specs.Claims.{FailsAt}
use Rattle.bplist_objects.proofs.Lists.{Either, one_number, last_too, all_or_first}

-- if a claim that holds of a number also holds of smaller ones, it fails at only one number
pub one_failure : (Claim : ℕ → Type 0) → ((m n : ℕ) → m ≤ n → Claim n → Claim m) → (count i j : ℕ) → FailsAt Claim count i → FailsAt Claim count j → i ≡ j
one_failure Claim fewer count i j a b =
    one_number i j (λ l. a.2 (fewer (suc i) j (omega (arith, l)) b.1)) (λ l. b.2 (fewer (suc j) i (omega (arith, l)) a.1))

-- the same claim in other words fails at the same number
pub fails_too : (P Q : ℕ → Type 0) (count : ℕ) → ((n : ℕ) → n ≤ count → P n → Q n) → ((n : ℕ) → n ≤ count → Q n → P n)
    → (i : ℕ) → FailsAt P count i → FailsAt Q count i
fails_too P Q count to back i a = (a.0, to i (omega (arith, a.0)) a.1, λ q. a.2 (back (suc i) (omega (arith, a.0)) q))

-- ---- of a property of each number
module _ (P : ℕ → Type 0) where
  -- all numbers below this one have it
  abbrev pub Below : ℕ → Type 0
  Below many = (k : ℕ) → k < many → P k

  -- a number that does not have it is the first if all below it have it
  pub first_failure : (count i : ℕ) → i < count → (P i → ⊥) → Below i → FailsAt Below count i
  first_failure count i within no1 before = (within, before, λ all. no1 (all i (omega arith)))

  -- the first such number does not have it
  pub fails_there : (count i : ℕ) → FailsAt Below count i → P i → ⊥
  fails_there count i h p = h.2 (last_too P i h.1 p)

  -- there is only one first number
  pub one_first : (count i j : ℕ) → FailsAt Below count i → FailsAt Below count j → i ≡ j
  one_first count i j a b = one_failure Below (λ m n l h k less. h k (omega (arith, l, less))) count i j a b

  -- if it is decided for each number, all below a bound have it or there is a first one that does not
  pub all_or_failure : ((k : ℕ) → Either (P k)) → (count : ℕ) → Below count ⊎ ((i : ℕ) × FailsAt Below count i)
  all_or_failure each count = elim (all_or_first P (λ k. P k → ⊥) each count) [
    | inl all ↦ inl all
    | inr first ↦ inr (first.0, first_failure count first.0 first.1 first.2 first.3)
  ]
