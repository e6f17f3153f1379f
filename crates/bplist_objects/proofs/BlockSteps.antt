-- References and units, block by block.
use Rattle.std.proofs.Common.{◌≡◌, ℕ, ◌+◌, ◌*◌, ◌-◌, ◌<◌, ◌≤◌, List, inl, inr, length, ◌∙◌, subst, arith}
use Rattle.std.proofs.Math.Nat.{add-mul, mul-le-mul_right}
use Rattle.std.proofs.lemmas.Bool.{cases_lt}
use Rattle.bplist_octets.specs.Meaning.{Meaning}
use Rattle.bplist_objects.specs.declared.head.Head.{Head}
use Rattle.bplist_objects.specs.RefBlocks.{RefReading, AreOf, IsBlock}
use Rattle.bplist_objects.specs.UnitBlocks.{IsUnitBlock}

-- a block asks for no more than what is left
pub block_of_rest : (start after next count bound each : ℕ) → after ≤ start + count * each → next + count ≤ bound
    → after + next * each ≤ start + bound * each
block_of_rest start after next count bound each a few =
    let all : (next + count) * each ≤ bound * each = mul-le-mul_right each few in
    omega (arith, a, all, add-mul next count each)

-- the next block is one of the same references
pub still_of : {head : Head} {bound : ℕ} {old new : RefReading} → AreOf head bound old → AreOf old.head old.bound new → AreOf head bound new
still_of a b = record { same_head = b.same_head ∙ a.same_head; same_bound = b.same_bound ∙ a.same_bound }

-- the block as it is lent is one of that object, over the source as it was
pub block_is : {m n : Meaning} {head : Head} {bound to : ℕ} {old : RefReading} {read lent : List ℕ} → m ≡ n → AreOf head bound old → lent ≡ read
    → IsBlock m old.head old.bound old.next to read → IsBlock n head bound old.next to lent
block_is same of lent block = rw (← same, ← of.same_head, ← of.same_bound, lent) block

-- what holds up to a block and in the block holds up to its end
pub each_more : (P : ℕ → Type 0) {m : Meaning} {head : Head} {bound from to : ℕ} {block : List ℕ} → IsBlock m head bound from to block
    → ((k : ℕ) → k < from → P k) → ((j : ℕ) → j < length block → P (from + j)) → (k : ℕ) → k < to → P k
each_more P {from = from} is before here k low = elim (cases_lt k from) [
  | inl first ↦ before k first
  | inr later ↦
      let there : from + (k - from) ≡ k = omega (arith, later) in
      subst P there (here (k - from) (omega (arith, low, later, is.long)))
]

-- the units as they are lent are those of that text, over the source as it was
pub units_are : {m n : Meaning} {was head : Head} {from to : ℕ} {read lent : List ℕ} → m ≡ n → was ≡ head → lent ≡ read
    → IsUnitBlock m was from to read → IsUnitBlock n head from to lent
units_are same of lent block = rw (← same, ← of, lent) block
