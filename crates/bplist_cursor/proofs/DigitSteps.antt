-- Units that spell a number in decimal.
use Rattle.std.proofs.Common.{rules, arith, ◌≡◌, ◌<◌, ◌≤◌, ◌⊎◌, inl, inr, ℕ, zero, suc, length, ◌+◌, ◌-◌, ◌*◌, ◌^◌, List, [], ◌∷◌, get_or, drop, refl, sym, ap, ◌∙◌, subst}
use Rattle.std.specs.Fmt.{decimal}
use Rattle.std.specs.Int.{IsInRange}
use Rattle.std.proofs.lemmas.Bool.{cases_lt}
use Rattle.std.proofs.lemmas.Str.Parse.{IsNumeralModel, numerals_by_fold, tells_by_index}
use Rattle.std.proofs.lemmas.Fmt.{digits_decimal, digits_value-decimal, decimal-digits_value, decimal_nonempty, first_decimal, decimal_digit}

abbrev pub read_on : ℕ → List ℕ → ℕ
read_on n [] = n
read_on n (c ∷ cs) = read_on (n * 10 + (c - 48)) cs

abbrev pub AreDigits : List ℕ → Type 0
AreDigits ds = (i : ℕ) → i < length ds → IsInRange 48 57 (get_or ds i 0)

own : IsNumeralModel AreDigits (read_on 0)
own = numerals_by_fold _ tells_by_index read_on (search rules)

read_more : (n : ℕ) (cs : List ℕ) → n ≤ read_on n cs
read_more n [] = omega arith
read_more n (c ∷ cs) = let h = read_more (n * 10 + (c - 48)) cs in omega (arith, h)

read_at : (n i : ℕ) (cs : List ℕ) → i < length cs → read_on n (drop i cs) ≡ read_on (n * 10 + (get_or cs i 0 - 48)) (drop (suc i) cs)
read_at n i [] l = absurd (omega arith)
read_at n zero (c ∷ cs) l = refl
read_at n (suc i) (c ∷ cs) l = read_at n i cs (omega arith)

-- the first i units spell x
pub record IsReading (units : List ℕ) (count i x : ℕ) : Type 0 where
  pub whole : read_on x (drop i units) ≡ read_on 0 units
  pub digits : (j : ℕ) → j < i → IsInRange 48 57 (get_or units j 0)
  pub below : 0 < i → x < count

pub reading_more : (units : List ℕ) (count i x y : ℕ) → IsReading units count i x → i < length units → IsInRange 48 57 (get_or units i 0) → y ≡ x * 10 + (get_or units i 0 - 48) → y < count → IsReading units count (i + 1) y
reading_more units count i x y r l d e b = record {
  whole = let z : i + 1 ≡ suc i = omega arith in rw z (ap (λ z. read_on z (drop (suc i) units)) e ∙ sym (read_at x i units l) ∙ r.whole);
  digits = λ j h. elim (cases_lt j i) [ inl p ↦ r.digits j p | inr p ↦ let q : i ≡ j = omega (arith, p, h) in subst (λ k. IsInRange 48 57 (get_or units k 0)) q d ];
  below = λ _. b;
}

pub not_empty : (n : ℕ) (units : List ℕ) → n < 2 ^ 64 → decimal n ≡ units → length units ≡ 0 → ⊥
not_empty n units h e z = let p = decimal_nonempty n h in let q = ap length e in omega (arith, p, q, z)

pub no_leading_zero : (n : ℕ) (units : List ℕ) → n < 2 ^ 64 → decimal n ≡ units → get_or units 0 0 ≡ 48 → 1 < length units → ⊥
no_leading_zero zero units h e z l = let q = ap length (sym (decimal_digit 0 (omega arith)) ∙ e) in omega (arith, q, l)
no_leading_zero (suc n) units h e z l = let p = first_decimal (suc n) (omega arith) h in let q = ap (λ us. get_or us 0 0) e in omega (arith, p, q, z)

pub no_other : (n i : ℕ) (units : List ℕ) → n < 2 ^ 64 → decimal n ≡ units → i < length units → (get_or units i 0 < 48) ⊎ (57 < get_or units i 0) → ⊥
no_other n i units h e l o =
    let d = subst AreDigits e (digits_decimal own n h) i l in
    elim o [ inl p ↦ omega (arith, d.0, p) | inr p ↦ omega (arith, d.1, p) ]

pub not_so_large : (n i count x y : ℕ) (units : List ℕ) → n < 2 ^ 64 → decimal n ≡ units → IsReading units count i x → i < length units → y ≡ x * 10 + (get_or units i 0 - 48) → count ≤ y → n < count → ⊥
not_so_large n i count x y units h e r l ey b c =
    let v : read_on 0 units ≡ n = subst (λ us. read_on 0 us ≡ n) e (digits_value-decimal own n h) in
    let m = read_more (x * 10 + (get_or units i 0 - 48)) (drop (suc i) units) in
    omega (arith, sym (read_at x i units l) ∙ r.whole ∙ v, m, ey, b, c)

pub read_whole : (units : List ℕ) (count x : ℕ) → count < 2 ^ 64 → IsReading units count (length units) x → 0 < length units → (get_or units 0 0 ≡ 48 → length units ≡ 1) → (x < count) × (decimal x ≡ units)
read_whole units count x small r l z =
    let is : x ≡ read_on 0 units = whole_is units x r.whole in
    let b = r.below l in
    let d = decimal-digits_value own units r.digits l z (omega (arith, is, b, small)) in
    (b, ap decimal is ∙ d)
  where
    whole_is : (us : List ℕ) (x : ℕ) {v : ℕ} → read_on x (drop (length us) us) ≡ v → x ≡ v
    whole_is [] x e = e
    whole_is (u ∷ us) x e = whole_is us x e
