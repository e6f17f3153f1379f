-- Values: finite trees. Source: the format comment of CFBinaryPList.c for the kinds; that a text forgets its encoding
-- and an integer its width is this project's choice (profile).
use Rattle.std.specs.Prelude.{ℕ, ℤ, List, [], ◌∷◌, Bool}

-- a value without parts; a text is its UTF-16 units
pub data Leaf : Type 0 where
  null : Leaf
  boolean : Bool → Leaf
  int : ℤ → Leaf
  real : List ℕ → Leaf
  date : List ℕ → Leaf
  bytes : List ℕ → Leaf
  text : List ℕ → Leaf
  uid : ℕ → Leaf

mutual
  -- a leaf, or a container with its members in the file's order
  pub data Value : Type 0 where
    leaf : Leaf → Value
    array : Values → Value
    set : Values → Value
    dict : Pairs → Value

  -- values in order
  pub data Values : Type 0 where
    no_values : Values
    value : Value → Values → Values

  -- keys, by their units, with their values, in order
  pub data Pairs : Type 0 where
    no_pairs : Pairs
    pair : List ℕ → Value → Pairs → Pairs

-- the units of each key
abbrev pub keys : Pairs → List (List ℕ)
keys no_pairs = []
keys (pair k v ps) = k ∷ keys ps
