-- The members of a value in their order: in a dictionary, each key before its value. Source: profile.
use Rattle.std.specs.Prelude.{◌≡◌, ℕ, ◌+◌, ◌*◌, List, [], ◌∷◌, zip, flat_map, slice_get, option_map, Option, None, MatchOption, IsSomeAnd}
use Rattle.bplist_objects.specs.declared.frame.Frame.{Frame}
use Rattle.bplist_objects.specs.declared.head.Kind.{Kind}
use Rattle.bplist_objects.specs.declared.head.Kind.TheVariants.{Dict}
use Rattle.bplist_objects.specs.Value.{Value, leaf, array, set, dict, Values, no_values, value, Pairs, no_pairs, pair, text}
use Rattle.bplist_objects.specs.Heads.{Content, refs}
use Rattle.bplist_objects.specs.Holds.{Holds}
use Rattle.bplist_cursor.specs.declared.node.Node.{Node}

-- values as a list
abbrev pub members : Values → List Value
members no_values = []
members (value v vs) = v ∷ members vs

-- pairs as a list: the units of each key, and its value
abbrev pub entries : Pairs → List (List ℕ × Value)
entries no_pairs = []
entries (pair u v ps) = (u, v) ∷ entries ps

-- member i of a value; in a dictionary, number 2j is key j and 2j + 1 is value j; a leaf has no members
abbrev pub member_of : Value → ℕ → Option Value
member_of (leaf l) i = None
member_of (array vs) i = slice_get (members vs) i
member_of (set vs) i = slice_get (members vs) i
member_of (dict ps) i = slice_get (flat_map (λ entry. leaf (text entry.0) ∷ entry.1 ∷ []) (entries ps)) i

-- the object that the reference for member i names; in a dictionary, each key comes before its value
abbrev pub member_reference : Content → ℕ → Option ℕ
member_reference (Content.dict ks ms) i = slice_get (flat_map (λ pair. pair.0 ∷ pair.1 ∷ []) (zip ks ms)) i
member_reference content i = slice_get (refs content) i

-- the node of an object
abbrev pub node_of : ℕ → Node
node_of n = record { object = record { 0 = n } }

-- the node of that object, if there is one
abbrev pub named : Option ℕ → Option Node
named o = option_map node_of o

-- among the references of an object of this kind and count, number k is the one for member i
abbrev pub IsNumberOf : Kind → ℕ → ℕ → ℕ → Type 0
IsNumberOf Dict count i k = ((j : ℕ) → i ≡ 2 * j → k ≡ j) × ((j : ℕ) → i ≡ 2 * j + 1 → k ≡ count + j)
IsNumberOf _ count i k = k ≡ i

module _ (f : List ℕ) (F : Frame) where
  -- the node's object holds the member, or neither exists
  abbrev pub HoldsMember : Option Value → Option Node → Type 0
  HoldsMember member node = MatchOption member (node ≡ None) (λ w. IsSomeAnd node (λ n. Holds f F n.object.0 w))
