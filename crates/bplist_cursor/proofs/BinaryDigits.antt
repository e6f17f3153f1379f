-- The number of binary digits.
use Rattle.std.proofs.Common.{arith, ◌≡◌, ◌≤◌, ◌*◌, ◌/◌, ◌<◌, ◌^◌, ℕ, zero, suc, length, sym, subst}
use Rattle.std.proofs.lemmas.Int.Digits.{length-digits_of_step, length-digits_of-le}
use Rattle.std.specs.Int.Digits.{digits_of}

-- the number of binary digits
abbrev pub digits_2 : ℕ → ℕ
digits_2 n = length (digits_of 2 n)

-- a number is below 2 to the number of its digits
below_digits : (turns n : ℕ) → n ≤ turns → n < 2 ^ digits_2 n
below_digits zero n few = let none : n ≡ 0 = omega (arith, few) in rw none (omega arith)
below_digits (suc turns) zero few = omega arith
below_digits (suc turns) (suc n) few =
    let below = below_digits turns (suc n / 2) (omega (arith, few)) in
    let more : digits_2 (suc n) ≡ suc (digits_2 (suc n / 2)) = omega (arith, length-digits_of_step 2 (suc n) (omega arith) (omega arith)) in
    subst (λ d. suc n < 2 ^ d) (sym more) (omega (arith, below))

-- a number above 0 has at least one digit
pub some_digits : (n : ℕ) → 0 < n → 1 ≤ digits_2 n
some_digits n some = omega (arith, length-digits_of_step 2 n (omega arith) some)

-- half of a number has one digit less
pub halved_digits : (m n : ℕ) → 2 * m ≤ n → 1 ≤ n → suc (digits_2 m) ≤ digits_2 n
halved_digits m n half some =
    let below = below_digits (n / 2) (n / 2) (omega arith) in
    let fewer = length-digits_of-le 2 (digits_2 (n / 2)) m (omega arith) (omega (arith, below, half)) in
    omega (arith, fewer, length-digits_of_step 2 n (omega arith) some)

-- a smaller number has no more digits
pub fewer_digits : (m n : ℕ) → m ≤ n → digits_2 m ≤ digits_2 n
fewer_digits m n less = length-digits_of-le 2 (digits_2 n) m (omega arith) (omega (arith, less, below_digits n n (omega arith)))
