-- Tables of counts of nodes, by the number of the object. Source: profile.
use Rattle.std.specs.Prelude.{◌≡◌, ℕ, ◌<◌, List, slice_index}
use Rattle.bplist_objects.specs.declared.frame.Frame.{Frame}
use Rattle.bplist_objects.specs.Value.{Value}
use Rattle.bplist_objects.specs.Holds.{Holds}
use Rattle.bplist_cursor.specs.Nodes.{cap, nodes}

module _ (f : List ℕ) (F : Frame) where
  -- the table has how many nodes the value has that object n holds
  abbrev pub IsCounted : List ℕ → ℕ → Type 0
  IsCounted counts n = (v : Value) → Holds f F n v → slice_index counts n ≡ cap (nodes v)

  -- the objects of height 1 and the first k objects of the order have their counts
  pub record AreCounted (heights order : List ℕ) (k : ℕ) (counts : List ℕ) : Type 0 where
    pub lowest : (n : ℕ) → slice_index heights n ≡ 1 → IsCounted counts n
    pub done : (j : ℕ) → j < k → IsCounted counts (slice_index order j)
