-- Laws of the numbers that bytes spell.
use Rattle.std.proofs.Common.{◌≡◌, ℕ, suc, ◌+◌, ◌*◌, ◌^◌, ◌<◌, ◌≤◌, List, [], ◌∷◌, length, get_or, refl, sym, ap, ◌∙◌, arith}
use Rattle.std.proofs.Math.Nat.{mul-le-mul_right, pow-succ'}
use Rattle.byteorder.specs.Endian.{big_number}
use Rattle.byteorder.specs.Numbers.{big_from-cons}
use Rattle.bplist_octets.specs.Octets.{num}

-- the number that the crate byteorder reads
pub num-big_number : (xs : List ℕ) → num xs ≡ big_number (length xs) xs
unfolding num
num-big_number [] = refl
num-big_number (x ∷ xs) =
    ap (λ r. x * 256 ^ length xs + r) (num-big_number xs ∙ sym (big_from-cons 0 (length xs) x xs))

-- n bytes spell no number of 256 ^ n or more
pub num-lt : (xs : List ℕ) → ((k : ℕ) → get_or xs k 0 < 256) → num xs < 256 ^ length xs
unfolding num
num-lt [] h = omega arith
num-lt (x ∷ xs) h =
    let first = h 0 in
    let rest = num-lt xs (λ k. h (suc k)) in
    let top : x * 256 ^ length xs ≤ 255 * 256 ^ length xs = mul-le-mul_right (256 ^ length xs) (omega arith) in
    rw (pow-succ' 256 (length xs)) (omega arith)

-- one byte is its own number
pub num-one : (x : ℕ) → num (x ∷ []) ≡ x
unfolding num
num-one x = omega arith

-- the number that the crate byteorder reads from n bytes
pub num-big : (n : ℕ) (xs : List ℕ) → length xs ≡ n → num xs ≡ big_number n xs
num-big n xs e = num-big_number xs ∙ ap (λ k. big_number k xs) e
