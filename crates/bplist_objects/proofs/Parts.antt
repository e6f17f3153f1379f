-- Laws of parts of lists of bytes and of powers of 256.
use Rattle.std.proofs.Common.{◌≡◌, ℕ, zero, suc, ◌+◌, ◌*◌, ◌^◌, ◌<◌, ◌≤◌, inl, inr, List, length, get_or, take, drop, refl, sym, ap, ◌∙◌, arith, drop-cons}
use Rattle.std.proofs.Common.{get_or-take, get_or-drop}
use Rattle.std.proofs.Common.{◌-◌}
use Rattle.std.proofs.lemmas.Bool.{cases_lt}
use Rattle.std.proofs.lemmas.List.{drop-take, drop-drop, take-take, drop_all, get_or_past}
use Rattle.std.proofs.Math.Nat.{pow-suc}
use Rattle.std.proofs.lemmas.Nat.{pow-add}
use Rattle.bplist_octets.specs.Octets.{part, num}
use Rattle.bplist_octets.proofs.Spelled.{num-one}

-- the number of one byte
pub num-part_one : (xs : List ℕ) (i : ℕ) → i < length xs → num (part xs i 1) ≡ get_or xs i 0
num-part_one xs i h = rw (drop-cons xs i 0) (num-one (get_or xs i 0))

-- the same, 0 past the end
pub num-byte : (xs : List ℕ) (i : ℕ) → num (part xs i 1) ≡ get_or xs i 0
unfolding num
num-byte xs i = elim (cases_lt i (length xs)) [
  | inl l ↦ num-part_one xs i l
  | inr past ↦ ap (λ l. num (take 1 l)) (drop_all i xs past) ∙ sym (get_or_past xs i 0 past)
]

-- a power of 256 as a power of 2
pub pow-256 : (k : ℕ) → 2 ^ (8 * k) ≡ 256 ^ k
pow-256 zero = refl
pow-256 (suc k) =
    let e : 8 * suc k ≡ 8 * k + 8 = omega arith in
    ap (λ x. 2 ^ x) e ∙ pow-add 2 (8 * k) 8 ∙ ap (λ x. x * 256) (pow-256 k) ∙ sym (pow-suc 256 k)

-- a byte of a part
pub get_or-part : (xs : List ℕ) (place n i d : ℕ) → i < n → get_or (part xs place n) i d ≡ get_or xs (place + i) d
get_or-part xs place n i d h = get_or-take n (drop place xs) i d h ∙ get_or-drop place xs i d

-- a part of a part
pub part-part : (xs : List ℕ) (a n b m j : ℕ) → b + m ≤ n → j ≡ a + b → part (part xs a n) b m ≡ part xs j m
part-part xs a n b m j h e =
    let split : n ≡ b + (n - b) = omega arith in
    ap (λ k. take m (drop b (take k (drop a xs)))) split
    ∙ ap (take m) (drop-take b (n - b) (drop a xs) ∙ ap (take (n - b)) (drop-drop b a xs))
    ∙ take-take m (n - b) (drop (a + b) xs) (omega arith)
    ∙ ap (λ k. take m (drop k xs)) (sym e)
