-- The references of an object, block by block. Source: profile.
use Rattle.std.specs.Prelude.{◌≡◌, ℕ, ◌+◌, ◌≤◌, ◌<◌, List, length, slice_index}
use Rattle.bplist_octets.specs.Meaning.{Meaning}
use Rattle.bplist_objects.specs.declared.head.Head.{Head}
use Rattle.bplist_objects.specs.Framed.{HonestlyIn}
use Rattle.bplist_objects.specs.Scan.{ref}

-- how far references are read: the head of their object, how many are to be read, the number of the first of the block,
-- the number of the one after it, and the block that was read last
pub record RefReading : Type 0 where
  pub head : Head
  pub bound : ℕ
  pub first : ℕ
  pub next : ℕ
  pub block : List ℕ

-- these are the first `bound` references of an object with this head
pub record AreOf (head : Head) (bound : ℕ) (refs : RefReading) : Type 0 where
  pub same_head : refs.head ≡ head
  pub same_bound : refs.bound ≡ bound

-- the block has some of the first `bound` references: from one number up to another, which it does not have. Over an
-- honest source they are those of an object with this head
pub record IsBlock (m : Meaning) (head : Head) (bound from to : ℕ) (block : List ℕ) : Type 0 where
  pub more : from < to
  pub within : to ≤ bound
  pub long : from + length block ≡ to
  pub numbers : HonestlyIn m (λ f F. (k : ℕ) → k < length block → slice_index block k ≡ ref f F head (from + k))
