-- The number of nodes of a value's tree. Source: profile.
use Rattle.std.specs.Prelude.{ℕ, ◌+◌, min}
use Rattle.bplist_objects.specs.Value.{Value, leaf, array, set, dict, Values, no_values, value, Pairs, no_pairs, pair}

-- the number, or the greatest of 64 bits if it is greater
abbrev pub cap : ℕ → ℕ
cap n = min n 18446744073709551615

abbrev mutual
  -- the number of nodes: one, plus those of the members; each key is a member
  pub nodes : Value → ℕ
  nodes (leaf l) = 1
  nodes (array vs) = 1 + nodes_of vs
  nodes (set vs) = 1 + nodes_of vs
  nodes (dict ps) = 1 + nodes_of_pairs ps

  -- the number of nodes of these values together
  pub nodes_of : Values → ℕ
  nodes_of no_values = 0
  nodes_of (value v vs) = nodes v + nodes_of vs

  -- the number of nodes of these keys and values together
  pub nodes_of_pairs : Pairs → ℕ
  nodes_of_pairs no_pairs = 0
  nodes_of_pairs (pair u v ps) = 1 + nodes v + nodes_of_pairs ps
