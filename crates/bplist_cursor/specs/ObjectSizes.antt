-- The pass over the objects of a checked file that finds their sizes. Source: profile.
use Rattle.std.specs.Prelude.{◌≡◌, ℕ, ◌+◌, ◌*◌, ◌<◌, ◌≤◌, List, length, slice_index, max, None, Contains}
use Rattle.std.specs.List.Sorted.{IsNonDecreasingBy}
use Rattle.bplist_objects.specs.declared.frame.Frame.{Frame}
use Rattle.bplist_objects.specs.declared.head.Kind.{Kind}
use Rattle.bplist_objects.specs.declared.head.Kind.TheVariants as kinds
use Rattle.bplist_objects.specs.Holds.{AreDistinct}
use Rattle.bplist_cert.specs.Valid.{IsVouchedBy}
use Rattle.bplist_cursor.specs.Nodes.{cap}
use Rattle.bplist_cursor.specs.declared.sizes.Form.{Form}
use Rattle.bplist_cursor.specs.declared.sizes.Form.TheVariants.{NoForm, Length}
use Rattle.bplist_cursor.specs.Sizes.{Table, size_in, IsSized}

-- the length of a container's brackets and separators, for this kind and count
abbrev pub punctuation_of : Kind → ℕ → Form
punctuation_of kinds.Array count = Length (cap (max count 1 + 1))
punctuation_of kinds.Dict count = Length (cap (2 * count + 2))
punctuation_of _ count = NoForm

-- all of these are numbers of objects
abbrev pub AreInside : List ℕ → ℕ → Type 0
AreInside order objects = (j : ℕ) → j < length order → slice_index order j < objects

-- these are exactly the objects below this number that are higher than this height
pub record AreHigher (heights : List ℕ) (height below : ℕ) (order : List ℕ) : Type 0 where
  pub all : (n : ℕ) → n < below → height < slice_index heights n → Contains order n
  pub only : (n : ℕ) → Contains order n → height < slice_index heights n

-- no object stands there twice, and there are no more than this many
pub record AreOnce (objects : ℕ) (order : List ℕ) : Type 0 where
  pub differ : AreDistinct order
  pub few : length order ≤ objects

-- the table is empty
abbrev pub IsEmpty : Table → Type 0
IsEmpty sizes = (n : ℕ) → size_in sizes n ≡ None

-- the objects that are higher than this height, in the order of their heights
pub record IsOrder (heights : List ℕ) (height : ℕ) (order : List ℕ) : Type 0 where
  pub all : (n : ℕ) → height < slice_index heights n → Contains order n
  pub only : (n : ℕ) → Contains order n → height < slice_index heights n
  pub ascends : IsNonDecreasingBy (slice_index heights) order

-- the first k objects of the order have their sizes, and no object without a height has one
pub record AreSet (f : List ℕ) (F : Frame) (heights order : List ℕ) (k : ℕ) (sizes : Table) : Type 0 where
  pub done : (j : ℕ) → j < k → IsSized f F sizes (slice_index order j)
  pub none : (n : ℕ) → (IsVouchedBy heights n → ⊥) → size_in sizes n ≡ None
