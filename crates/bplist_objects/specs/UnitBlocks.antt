-- The units of a text, block by block. Source: profile.
use Rattle.std.specs.Prelude.{◌≡◌, ℕ, ◌+◌, ◌≤◌, ◌<◌, List, length}
use Rattle.bplist_octets.specs.Meaning.{Meaning, Honestly}
use Rattle.bplist_octets.specs.Octets.{part}
use Rattle.bplist_objects.specs.declared.head.Head.{Head}
use Rattle.bplist_objects.specs.Units.{units_of}

-- how far a text is read: its head, the number of the unit after the block, and the block that was read last
pub record UnitReading : Type 0 where
  pub head : Head
  pub next : ℕ
  pub block : List ℕ

-- the block has some of the units of a text with this head: from one number up to another, which it does not have. Over
-- an honest source they are those of the text
pub record IsUnitBlock (m : Meaning) (head : Head) (from to : ℕ) (block : List ℕ) : Type 0 where
  pub more : from < to
  pub within : to ≤ head.count
  pub long : from + length block ≡ to
  pub units : Honestly m (λ f. block ≡ part (units_of f head) from (length block))
