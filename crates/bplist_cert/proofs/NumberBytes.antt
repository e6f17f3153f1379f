-- Laws of numbers and their bytes.
use Rattle.std.proofs.Common.{◌≡◌, ℕ, zero, suc, ◌+◌, ◌*◌, ◌^◌, ◌/◌, ◌%◌, ◌<◌, ◌≤◌, List, [], ◌∷◌, ◌++◌, length, get_or, take, drop, refl, sym, ap, ◌∙◌, inl, inr, arith}
use Rattle.std.specs.Int.{byte_at, bytes_high_first}
use Rattle.std.proofs.lemmas.Nat.{div-mul-add, mod-mul-add}
use Rattle.std.proofs.lemmas.Bool.{cases_lt}
use Rattle.std.proofs.lemmas.List.{length-append, length-take, get_or-take, get_or-drop, get_or_past, flat_map_more, take_all, take_more}
use Rattle.std.proofs.Math.Nat.{add-mul, add_assoc, div-add-mod', div-one, mod-eq_of_lt, mod-lt, mul-add-mod_self_right, mul-le-mul_right, mul_assoc, one-le-pow, pow-succ'}
use Rattle.std.proofs.Math.Seq.{take-add}
use Rattle.bplist_octets.specs.Octets.{part, num}
use Rattle.bplist_octets.proofs.Spelled.{num-lt}
use Rattle.bplist_objects.proofs.Units.{length-part}
use Rattle.bplist_cert.specs.Encoding.{words}

-- all octets are bytes
abbrev pub AreBytes : List ℕ → Type 0
AreBytes xs = (k : ℕ) → get_or xs k 0 < 256

-- the two low digits of n, to the bases c and then m
mod-split : (n : ℕ) {m c : ℕ} → zero < m → zero < c → n % (m * c) ≡ (n / c % m) * c + n % c
mod-split n {m} {c} hm hc =
    let a = mod-lt (n / c) hm in
    let b = mod-lt n hc in
    let top : (n / c % m + 1) * c ≤ m * c = mul-le-mul_right c (omega arith) in
    let expand : (n / c % m + 1) * c ≡ n / c % m * c + 1 * c = add-mul (n / c % m) 1 c in
    let split : n ≡ n / c / m * (m * c) + (n / c % m * c + n % c) =
    sym (div-add-mod' n c)
    ∙ ap (λ (x : ℕ). x * c + n % c) (sym (div-add-mod' (n / c) m))
    ∙ ap (λ (x : ℕ). x + n % c) (add-mul (n / c / m * m) (n / c % m) c ∙ ap (λ (x : ℕ). x + n / c % m * c) (mul_assoc (n / c / m) m c))
    ∙ add_assoc (n / c / m * (m * c)) (n / c % m * c) (n % c) in
    ap (λ (x : ℕ). x % (m * c)) split ∙ mul-add-mod_self_right (n / c / m) (m * c) (n / c % m * c + n % c) ∙ mod-eq_of_lt (omega arith)

-- there are n bytes
pub length-bytes : (n x : ℕ) → length (bytes_high_first n x) ≡ n
length-bytes zero x = refl
length-bytes (suc n) x = let e = length-bytes n x in omega (arith, e)

-- a byte of a number, by its place
byte_at-pow : (k x : ℕ) → byte_at k x ≡ x / 256 ^ k % 256
byte_at-pow zero x = ap (λ (y : ℕ). y % 256) (sym (div-one x))
byte_at-pow (suc k) x = refl

-- the number in the lowest bytes of a number
num-low_bytes : (n x : ℕ) → num (bytes_high_first n x) ≡ x % 256 ^ n
unfolding num
num-low_bytes zero x = omega arith
num-low_bytes (suc n) x =
    let len = length-bytes n x in
    let rest = num-low_bytes n x in
    let low = one-le-pow n 256 (omega arith) in
    let split = mod-split x {m = 256} {c = 256 ^ n} (omega arith) (omega arith) in
    rw (len, rest, byte_at-pow n x, pow-succ' 256 n, split) refl

-- the number in the bytes of a number
pub num-bytes : (n x : ℕ) → x < 256 ^ n → num (bytes_high_first n x) ≡ x
num-bytes n x h = num-low_bytes n x ∙ mod-eq_of_lt h

-- equally many bytes with the same number are the same
pub num-same : (xs ys : List ℕ) → length xs ≡ length ys → AreBytes xs → AreBytes ys → num xs ≡ num ys → xs ≡ ys
unfolding num
num-same [] [] l p q e = refl
num-same (x ∷ xs) (y ∷ ys) l p q e =
    let m : length xs ≡ length ys = omega arith in
    let a = num-lt xs (λ k. p (suc k)) in
    let b = num-lt ys (λ k. q (suc k)) in
    let b' = rw (sym m) at b in
    let e' : x * 256 ^ length xs + num xs ≡ y * 256 ^ length xs + num ys = e ∙ ap (λ n. y * 256 ^ n + num ys) (sym m) in
    let x/ = div-mul-add x (256 ^ length xs) (num xs) a in
    let y/ = div-mul-add y (256 ^ length xs) (num ys) b' in
    let x% = mod-mul-add x (256 ^ length xs) (num xs) a in
    let y% = mod-mul-add y (256 ^ length xs) (num ys) b' in
    let first : x ≡ y = sym x/ ∙ ap (λ n. n / 256 ^ length xs) e' ∙ y/ in
    let rest : num xs ≡ num ys = sym x% ∙ ap (λ n. n % 256 ^ length xs) e' ∙ y% in
    let tail = num-same xs ys m (λ k. p (suc k)) (λ k. q (suc k)) rest in
    cc
num-same xs ys l p q e = absurd (omega arith)

byte_at-lt : (k n : ℕ) → byte_at k n < 256
byte_at-lt zero n = mod-lt n (omega arith)
byte_at-lt (suc k) n = mod-lt (n / 256 ^ suc k) (omega arith)

pub bytes-low : (n x : ℕ) → AreBytes (bytes_high_first n x)
bytes-low zero x k = omega arith
bytes-low (suc n) x zero = byte_at-lt n x
bytes-low (suc n) x (suc k) = bytes-low n x k

-- the bytes of the number in bytes
pub bytes-num : (n : ℕ) (xs : List ℕ) → length xs ≡ n → AreBytes xs → bytes_high_first n (num xs) ≡ xs
bytes-num n xs l p =
    let lt = num-lt xs p in
    let lt' = rw l at lt in
    num-same (bytes_high_first n (num xs)) xs (length-bytes n (num xs) ∙ sym l) (bytes-low n (num xs)) p (num-bytes n (num xs) lt')

-- as many numbers are as four times the bytes
pub length-words : (xs : List ℕ) → length (words xs) ≡ 4 * length xs
length-words [] = refl
length-words (x ∷ xs) = omega (arith, length-words xs, length-append (bytes_high_first 4 x) (words xs), length-bytes 4 x)

-- a part of bytes is of bytes
pub part-low : (xs : List ℕ) (place n : ℕ) → AreBytes xs → AreBytes (part xs place n)
part-low xs place n low k = elim (cases_lt k n) [
  | inl lt ↦ rw (get_or-take n (drop place xs) k 0 lt, get_or-drop place xs k 0) (low (place + k))
  | inr ge ↦
      let short : length (part xs place n) ≤ k = omega (arith, length-take n (drop place xs)) in
      omega (arith, get_or_past (part xs place n) k 0 short)
]

-- one more number of 4 bytes
pub words_more : (octets numbers : List ℕ) (i x : ℕ) → AreBytes octets → 4 * (i + 1) ≤ length octets → x ≡ num (part octets (4 * i) 4)
    → take (4 * i) octets ≡ words numbers → take (4 * (i + 1)) octets ≡ words (numbers ++ x ∷ [])
words_more octets numbers i x low fits e h =
    let four : 4 * (i + 1) ≡ 4 * i + 4 = omega arith in
    let whole = length-part octets (4 * i) 4 (omega arith) in
    let bytes = bytes-num 4 (part octets (4 * i) 4) whole (part-low octets (4 * i) 4 low) in
    let more = flat_map_more (bytes_high_first 4) [] numbers x in
    rw (four, take-add (4 * i) 4 octets, h) (ap (λ ys. words numbers ++ ys) (sym bytes ∙ ap (bytes_high_first 4) (sym e)) ∙ more)

-- a number of 4 bytes
pub word-lt : (octets : List ℕ) (place : ℕ) → AreBytes octets → place + 4 ≤ length octets → num (part octets place 4) < 2 ^ 32
word-lt octets place low fits =
    let lt = num-lt (part octets place 4) (part-low octets place 4 low) in
    rw (length-part octets place 4 fits) at lt

-- all numbers of 4 bytes
module _ (octets numbers : List ℕ) (low : AreBytes octets) (all : length octets ≡ 4 * length numbers)
    (each : (k : ℕ) → k < length numbers → get_or numbers k 0 ≡ num (part octets (4 * k) 4)) where
  words_front : (n : ℕ) → n ≤ length numbers → take (4 * n) octets ≡ words (take n numbers)
  words_front zero h = refl
  words_front (suc n) h =
      let next : suc n ≡ n + 1 = omega arith in
      rw (next, take_more numbers n 0 (omega arith))
      (words_more octets (take n numbers) n (get_or numbers n 0) low (omega arith) (each n (omega arith)) (words_front n (omega arith)))

  pub words_all : octets ≡ words numbers
  words_all =
      sym (take_all (4 * length numbers) octets (omega arith))
      ∙ words_front (length numbers) (omega arith)
      ∙ ap words (take_all (length numbers) numbers (omega arith))
