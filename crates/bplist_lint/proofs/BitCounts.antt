-- How many numbers are in a set.
use Rattle.std.proofs.Common.{◌≡◌, ℕ, zero, suc, ◌+◌, ◌<◌, ◌≤◌, ◌/◌, ◌%◌, List, slice_index, inl, inr, arith}
use Rattle.std.specs.Int.{bit_at}
use Rattle.std.proofs.lemmas.Bool.{cases_eq}
use Rattle.std.proofs.lemmas.Nat.Bits.{bit_at-lt}
use Rattle.bplist_lint.proofs.RangeSums.{sum_less, sum_next}
use Rattle.bplist_lint.specs.BitSets.{IsIn, count_in}

-- the bit of a number
abbrev bit : List ℕ → ℕ → ℕ
bit words k = bit_at (slice_index words (k / 64)) (k % 64)

bit_small : (words : List ℕ) (k : ℕ) → bit words k < 2
bit_small words k = bit_at-lt (slice_index words (k / 64)) (k % 64)

-- there are no more numbers in the set than there are
pub count_few : (words : List ℕ) (n : ℕ) → count_in words n ≤ n
count_few words zero = omega arith
count_few words (suc n) =
    let next : count_in words (suc n) ≡ count_in words n + bit words n = sum_next (bit words) n in
    omega (arith, count_few words n, next, bit_small words n)

-- one more number is in the set
pub count_more : (old new : List ℕ) (i n : ℕ) → i < n → (IsIn old i → ⊥) → IsIn new i → ((k : ℕ) → IsIn old k → IsIn new k) → count_in old n + 1 ≤ count_in new n
count_more old new i n low outside here keeps =
    let none : bit old i ≡ 0 = elim (cases_eq (bit old i) 1) [ inl is ↦ absurd (outside is) | inr ne ↦ omega (arith, ne, bit_small old i) ] in
    sum_less (bit new) (bit old) i 1 n low (omega (arith, none, here)) (λ k other. elim (cases_eq (bit old k) 1) [
      | inl is ↦ omega (arith, is, keeps k is)
      | inr ne ↦ omega (arith, ne, bit_small old k)
    ])
