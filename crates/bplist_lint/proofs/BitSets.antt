-- Sets of numbers as bits.
use Rattle.std.proofs.Common.{◌≡◌, ◌≢◌, ◌⊎◌, ℕ, ◌*◌, ◌/◌, ◌%◌, ◌^◌, ◌≤◌, ◌<◌, false, inl, inr, Option, Some, None, MatchOption, is_some, List, length, get_or, set, replicate, bit_or, sym, ap, ◌∙◌, arith}
use Rattle.std.specs.Int.{bit_at, w64}
use Rattle.std.proofs.lemmas.Bool.{cases_eq, cases_lt, false≢true}
use Rattle.std.proofs.lemmas.List.{get_or-set_same, get_or-set_other, length-set}
use Rattle.std.proofs.lemmas.Nat.Bits.{bit_at-zero, bit_at_ones, bit_at_set_same, bit_at_set_other}
use Rattle.bplist_lint.specs.BitSets.{IsIn, AreFull, AreSkips}
use Rattle.bplist_lint.proofs.ListWrites.{unwritten}

-- all numbers of a full word are in the set
pub full_word : (words : List ℕ) (w : ℕ) → get_or words w 0 ≡ 18446744073709551615 → (k : ℕ) → k / 64 ≡ w → IsIn words k
full_word words w full k at = ap (λ x. bit_at x (k % 64)) (ap (λ i. get_or words i 0) at ∙ full) ∙ bit_at_ones 64 (k % 64) (omega arith)

-- a number is put into the set
module _ (words : List ℕ) (i w : ℕ) (within : i / 64 < length words) (is : w ≡ get_or words (i / 64) 0) where
  pub insert_here : IsIn (set words (i / 64) (bit_or w (1 * 2 ^ (i % 64) % 2 ^ 64))) i
  insert_here = rw (get_or-set_same words (i / 64) (bit_or w (1 * 2 ^ (i % 64) % 2 ^ 64)) 0 within) (bit_at_set_same w64 w (i % 64) (omega arith))

  -- other numbers are in it as before
  other : (k : ℕ) → k ≢ i → bit_at (get_or (set words (i / 64) (bit_or w (1 * 2 ^ (i % 64) % 2 ^ 64))) (k / 64) 0) (k % 64) ≡ bit_at (get_or words (k / 64) 0) (k % 64)
  other k ne = elim (cases_eq (k / 64) (i / 64)) [
    | inl e ↦
        let differ : k % 64 ≢ i % 64 = λ q. ne (omega (arith, e, q)) in
        ap (λ a. bit_at (get_or (set words (i / 64) (bit_or w (1 * 2 ^ (i % 64) % 2 ^ 64))) a 0) (k % 64)) e
        ∙ ap (λ x. bit_at x (k % 64)) (get_or-set_same words (i / 64) (bit_or w (1 * 2 ^ (i % 64) % 2 ^ 64)) 0 within)
        ∙ bit_at_set_other w64 w (i % 64) (omega arith) (k % 64) differ
        ∙ ap (λ x. bit_at x (k % 64)) is
        ∙ ap (λ a. bit_at (get_or words a 0) (k % 64)) (sym e)
    | inr d ↦ ap (λ x. bit_at x (k % 64)) (get_or-set_other words (i / 64) (k / 64) (bit_or w (1 * 2 ^ (i % 64) % 2 ^ 64)) 0 d)
  ]

  pub insert_keeps : (k : ℕ) → IsIn words k → IsIn (set words (i / 64) (bit_or w (1 * 2 ^ (i % 64) % 2 ^ 64))) k
  insert_keeps k h = elim (cases_eq k i) [
    | inl e ↦ rw e insert_here
    | inr ne ↦ other k ne ∙ h
  ]

  pub insert_only : (k : ℕ) → IsIn (set words (i / 64) (bit_or w (1 * 2 ^ (i % 64) % 2 ^ 64))) k → IsIn words k ⊎ (k ≡ i)
  insert_only k h = elim (cases_eq k i) [
    | inl e ↦ inr e
    | inr ne ↦ inl (sym (other k ne) ∙ h)
  ]

  pub insert_skips : (skips : List ℕ) → AreSkips words skips → AreSkips (set words (i / 64) (bit_or w (1 * 2 ^ (i % 64) % 2 ^ 64))) skips
  insert_skips skips s b low = let old = s b low in (old.0, old.1, λ k from to. insert_keeps k (old.2 k from to))

-- the blocks from b up to, and without, d are full if both parts are
pub full_both : (words : List ℕ) (b c d : ℕ) → AreFull words b c → AreFull words c d → AreFull words b d
full_both words b c d first then k from to = elim (cases_lt k (512 * c)) [ inl low ↦ first k from low | inr high ↦ then k high to ]

-- the skip of block at is set to v
pub set_skip : (words skips : List ℕ) (at v : ℕ) → AreSkips words skips → at < length skips → at ≤ v → v ≤ length skips → AreFull words at v → AreSkips words (set skips at v)
set_skip words skips at v are within later fits full b low = elim (cases_eq b at) [
  | inl e ↦ rw (e, get_or-set_same skips at v 0 within, length-set skips at v) (later, fits, full)
  | inr d ↦ rw (get_or-set_other skips at b v 0 d, length-set skips at v) (are b (rw (length-set skips at v) at low))
]

-- block at, which leads to next, takes over the skip v of next
pub shorter_skips : (words skips : List ℕ) (at next v : ℕ) → AreSkips words skips → at < length skips → next ≡ get_or skips at 0 → next < length skips → v ≡ get_or skips next 0
    → AreSkips words (set skips at v)
shorter_skips words skips at next v are within to low skip =
    let one = rw (← to) at (are at within) in
    let two = rw (← skip) at (are next low) in
    set_skip words skips at v are within (omega (arith, one.0, two.0)) two.1 (full_both words at next v one.2 two.2)

-- each block leads to itself
pub own_skips : (words skips : List ℕ) → ((b : ℕ) → b < length skips → get_or skips b 0 ≡ b) → AreSkips words skips
own_skips words skips own b low = rw (own b low) (omega arith, omega (arith, low), λ k from to. absurd (omega (arith, from, to)))

-- a search finds no number outside
pub none_outside : (P : Type 0) (Q : ℕ → Type 0) (found : Option ℕ) → is_some found ≡ false → MatchOption found P Q → P
none_outside P Q None none all = all
none_outside P Q (Some i) none all = absurd (false≢true (sym none))

-- no number is in the set if no bit is 1
pub none_in : (n k : ℕ) → IsIn (replicate n 0) k → ⊥
none_in n k h = let is = rw (unwritten {X = ℕ} n (k / 64) 0) at h in omega (arith, is, bit_at-zero (k % 64))
