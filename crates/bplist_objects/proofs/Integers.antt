-- Integers in two's complement, as bytes spell them and as the machine reads them.
use Rattle.std.proofs.Common.{◌≡◌, ℕ, zero, suc, ◌*◌, ◌^◌, ◌<◌, ◌≤◌, ◌⊎◌, inl, inr, List, [], ◌∷◌, length, get_or, slice_index, nat_lt, if◌then◌else◌, refl, ap, subst, arith, ℤ, pos, ◌-ℤ◌}
use Rattle.std.proofs.Math.Nat.{mul-le-mul_right, pow-succ'}
use Rattle.std.proofs.lemmas.Bool.{cases_lt, lt-ltb, le-ltb, lt-leb}
use Rattle.std.proofs.lemmas.Int.{ints}
use Rattle.std.specs.Int.{cast_signed, w64, w128}
use Rattle.bplist_octets.specs.Octets.{num}
use Rattle.bplist_objects.specs.declared.head.Kind.{Kind}
use Rattle.bplist_objects.specs.declared.head.Kind.TheVariants.{Int}
use Rattle.bplist_objects.specs.Announced.{MayCount}
use Rattle.bplist_octets.proofs.Spelled.{num-lt}
use Rattle.bplist_objects.specs.Numbers.{integer}

-- the number of bytes is small, 8 or 16
pub widths : (n w : ℕ) → w ≤ 4 → n ≡ 2 ^ w → (1 ≤ n) × ((n ≤ 4) ⊎ ((n ≡ 8) ⊎ (n ≡ 16)))
widths n zero h e = (omega (arith, e), inl (omega (arith, e)))
widths n (suc zero) h e = (omega (arith, e), inl (omega (arith, e)))
widths n (suc (suc zero)) h e = (omega (arith, e), inl (omega (arith, e)))
widths n (suc (suc (suc zero))) h e = (omega (arith, e), inr (inl e))
widths n (suc (suc (suc (suc zero)))) h e = (omega (arith, e), inr (inr e))
widths n (suc (suc (suc (suc (suc w))))) h e = absurd (omega arith)

-- the counts of an Int
pub int_count : (k : Kind) (n : ℕ) → k ≡ Int → MayCount k n → (1 ≤ n) × (n ≤ 16) × ((n ≤ 4) ⊎ ((n ≡ 8) ⊎ (n ≡ 16)))
int_count k n e may =
    let m = subst (λ k. MayCount k n) e may in
    let w = widths n m.1.0 m.1.1 m.1.2 in
    (w.0, elim w.1 [ inl l ↦ omega arith | inr r ↦ elim r [ inl e ↦ omega (arith, e) | inr e ↦ omega (arith, e) ] ], w.1)

-- the first byte is below 128 if and only if the number is in the lower half
first_low : (x : ℕ) (xs : List ℕ) (half : ℕ) → 256 ^ suc (length xs) ≡ 2 * half → ((k : ℕ) → get_or (x ∷ xs) k 0 < 256) → x < 128 → num (x ∷ xs) < half
unfolding num
first_low x xs half e h l =
    let rest = num-lt xs (λ k. h (suc k)) in
    let most : x * 256 ^ length xs ≤ 127 * 256 ^ length xs = mul-le-mul_right (256 ^ length xs) (omega arith) in
    omega (arith, rest, most, pow-succ' 256 (length xs), e)

first_high : (x : ℕ) (xs : List ℕ) (half : ℕ) → 256 ^ suc (length xs) ≡ 2 * half → 128 ≤ x → half ≤ num (x ∷ xs)
unfolding num
first_high x xs half e l =
    let least : 128 * 256 ^ length xs ≤ x * 256 ^ length xs = mul-le-mul_right (256 ^ length xs) l in
    omega (arith, least, pow-succ' 256 (length xs), e)

-- the two's complement number of these bytes
abbrev pub signed : List ℕ → ℤ
signed l = if nat_lt (slice_index l 0) 128 then pos (num l) else pos (num l) -ℤ pos (256 ^ length l)

-- what the bytes mean in two's complement, by the half in which their number is
pub signed_low : (l : List ℕ) (half : ℕ) → 1 ≤ length l → 256 ^ length l ≡ 2 * half → ((k : ℕ) → get_or l k 0 < 256)
    → ((num l < half) × (signed l ≡ pos (num l))) ⊎ ((half ≤ num l) × (signed l ≡ pos (num l) -ℤ pos (2 * half)))
signed_low [] half some e h = absurd (omega arith)
signed_low (x ∷ xs) half some e h =
    elim (cases_lt x 128) [
      | inl l ↦ inl (first_low x xs half e h l, rw (lt-ltb x 128 l) refl)
      | inr l ↦ inr (first_high x xs half e l, rw (le-ltb x 128 l) (ap (λ p. pos (num (x ∷ xs)) -ℤ pos p) e))
    ]

pub signed_8 : (l : List ℕ) → length l ≡ 8 → ((k : ℕ) → get_or l k 0 < 256) → cast_signed w64 (num l) ≡ signed l
signed_8 l e h =
    let full : 256 ^ length l ≡ 2 * 2 ^ 63 = ap (λ n. 256 ^ n) e in
    let most = num-lt l h in
    elim (signed_low l (2 ^ 63) (omega arith) full h) [
      | inl c ↦ rw (c.1) (omega (arith, ints, c.0))
      | inr c ↦ rw (c.1, le-ltb (num l) (2 ^ 63) c.0) (omega (arith, ints, c.0, most, full))
    ]

pub signed_16 : (l : List ℕ) → length l ≡ 16 → ((k : ℕ) → get_or l k 0 < 256) → cast_signed w128 (num l) ≡ signed l
signed_16 l e h =
    let full : 256 ^ length l ≡ 2 * 2 ^ 127 = ap (λ n. 256 ^ n) e in
    let most = num-lt l h in
    elim (signed_low l (2 ^ 127) (omega arith) full h) [
      | inl c ↦ rw (c.1) (omega (arith, ints, c.0))
      | inr c ↦ rw (c.1, le-ltb (num l) (2 ^ 127) c.0) (omega (arith, ints, c.0, most, full))
    ]

pub integer_long : (l : List ℕ) → 4 < length l → integer l ≡ signed l
integer_long l h = rw (lt-leb (length l) 4 h) refl
