-- The sizes of values' trees and texts, and tables of them by the number of the object. Source: profile.
use Rattle.std.specs.Prelude.{◌≡◌, ℕ, ◌+◌, List, [], ◌∷◌, slice_index_or, Option, Some, None, option_map, option_and_then}
use Rattle.bplist_objects.specs.declared.frame.Frame.{Frame}
use Rattle.bplist_objects.specs.Value.{text, Value, leaf, Values, no_values, value, Pairs, no_pairs, pair}
use Rattle.bplist_objects.specs.Holds.{Holds}
use Rattle.bplist_cert.specs.Valid.{IsVouchedBy}
use Rattle.bplist_cursor.specs.Nodes.{cap, nodes}
use Rattle.bplist_cursor.specs.Forms.{form_of, joined}
use Rattle.bplist_cursor.specs.declared.sizes.Form.{Form}
use Rattle.bplist_cursor.specs.declared.sizes.Form.TheVariants.{Length}
use Rattle.bplist_cursor.specs.declared.sizes.Size.{Size}

-- the size of a value: its nodes and its form
abbrev pub size_of : Value → Size
size_of v = record { nodes = cap (nodes v); form = form_of v }

-- the size of two values together
abbrev pub both : Size → Size → Size
both a b = record { nodes = cap (a.nodes + b.nodes); form = joined a.form b.form }

-- a size for each vouched object
abbrev pub Table : Type 0
Table = List (Option Size)

-- the size of object n
abbrev pub size_in : Table → ℕ → Option Size
size_in sizes n = slice_index_or sizes n None

-- the nodes of object n
abbrev pub nodes_in : Table → ℕ → Option ℕ
nodes_in sizes n = option_map (λ s. s.nodes) (slice_index_or sizes n None)

-- the form of object n
abbrev pub form_in : Table → ℕ → Option Form
form_in sizes n = option_map (λ s. s.form) (slice_index_or sizes n None)

-- the total plus the sizes of these objects, if the table has them all
abbrev pub added : Table → Size → List ℕ → Option Size
added sizes total [] = Some total
added sizes total (m ∷ ms) = option_and_then (λ s. added sizes (both total s) ms) (size_in sizes m)

-- the size of nothing: no nodes, and the empty text
abbrev pub no_size : Size
no_size = record { nodes = 0; form = Length 0 }

-- the sizes of these values together
abbrev pub size_of_members : Values → Size
size_of_members no_values = no_size
size_of_members (value v vs) = both (size_of v) (size_of_members vs)

-- the sizes of the keys together
abbrev pub size_of_keys : Pairs → Size
size_of_keys no_pairs = no_size
size_of_keys (pair u v ps) = both (size_of (leaf (text u))) (size_of_keys ps)

-- the sizes of the pairs' values together
abbrev pub size_of_values : Pairs → Size
size_of_values no_pairs = no_size
size_of_values (pair u v ps) = both (size_of v) (size_of_values ps)

module _ (f : List ℕ) (F : Frame) where
  -- the table has the size of the value that object n holds
  abbrev pub IsSized : Table → ℕ → Type 0
  IsSized sizes n = (v : Value) → Holds f F n v → size_in sizes n ≡ Some (size_of v)

  -- the table has nodes and form of each vouched object's value, and nothing else
  pub record AreMeasures (heights : List ℕ) (sizes : Table) : Type 0 where
    pub nodes : (n : ℕ) (v : Value) → IsVouchedBy heights n → Holds f F n v → nodes_in sizes n ≡ Some (cap (nodes v))
    pub form : (n : ℕ) (v : Value) → IsVouchedBy heights n → Holds f F n v → form_in sizes n ≡ Some (form_of v)
    pub none : (n : ℕ) → (IsVouchedBy heights n → ⊥) → (nodes_in sizes n ≡ None) × (form_in sizes n ≡ None)
