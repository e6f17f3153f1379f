-- The old-style text of a value.
-- Source: Apple's old-style form for the braces, brackets, `=`, `;` and commas; the single line and what has no form
-- are profile.
use Rattle.std.specs.Prelude.{ℕ, List, [], ◌∷◌, ◌++◌, Option, Some, None, option_map, option_and_then, ⊤}
use Rattle.bplist_objects.specs.Value.{Leaf, bytes, text, Value, leaf, array, set, dict, Values, no_values, value, Pairs, no_pairs, pair}
use Rattle.bplist_cursor.specs.Texts.{text_of_units, text_of_bytes}

-- `,` if more members follow
abbrev pub comma : Values → List ℕ
comma values = elim values [ no_values ↦ [] | value v vs ↦ 0x2C ∷ [] ]

abbrev mutual
  -- the text of a value, if all its parts have one
  pub value_text : Value → Option (List ℕ)
  value_text (leaf (text u)) = Some (text_of_units u)
  value_text (leaf (bytes l)) = Some (text_of_bytes l)
  value_text (array vs) = option_map (λ t. 0x28 ∷ (t ++ 0x29 ∷ [])) (members_text vs)
  value_text (dict ps) = option_map (λ t. 0x7B ∷ (t ++ 0x7D ∷ [])) (pairs_text ps)
  value_text _ = None

  -- the texts of the members, with `,` between them
  pub members_text : Values → Option (List ℕ)
  members_text no_values = Some []
  members_text (value v vs) = option_and_then (λ t. option_map (λ r. t ++ (comma vs ++ r)) (members_text vs)) (value_text v)

  -- for each pair: key, `=`, value, `;`
  pub pairs_text : Pairs → Option (List ℕ)
  pairs_text no_pairs = Some []
  pairs_text (pair u v ps) = option_and_then (λ t. option_map (λ r. text_of_units u ++ (0x3D ∷ (t ++ (0x3B ∷ r)))) (pairs_text ps)) (value_text v)

-- the text of a leaf, if it has one
abbrev pub leaf_text : Leaf → Option (List ℕ)
leaf_text l = value_text (leaf l)

-- the leaf has a text; from here on the same once more, in two parts: whether there is a text, and which it is
abbrev pub IsFormedLeaf : Leaf → Type 0
IsFormedLeaf (text u) = ⊤
IsFormedLeaf (bytes l) = ⊤
IsFormedLeaf _ = ⊥

abbrev mutual
  -- the value has a text
  pub IsFormed : Value → Type 0
  IsFormed (leaf l) = IsFormedLeaf l
  IsFormed (array vs) = AreFormed vs
  IsFormed (set vs) = ⊥
  IsFormed (dict ps) = ArePairsFormed ps

  -- each of the values has a text
  pub AreFormed : Values → Type 0
  AreFormed no_values = ⊤
  AreFormed (value v vs) = IsFormed v × AreFormed vs

  -- the value of each pair has a text
  pub ArePairsFormed : Pairs → Type 0
  ArePairsFormed no_pairs = ⊤
  ArePairsFormed (pair u v ps) = IsFormed v × ArePairsFormed ps

-- the text of a leaf that has one
abbrev pub plain_leaf : Leaf → List ℕ
plain_leaf (text u) = text_of_units u
plain_leaf (bytes l) = text_of_bytes l
plain_leaf _ = []

abbrev mutual
  -- the text of a value that has one
  pub plain : Value → List ℕ
  plain (leaf l) = plain_leaf l
  plain (array vs) = 0x28 ∷ (plain_members vs ++ 0x29 ∷ [])
  plain (set vs) = []
  plain (dict ps) = 0x7B ∷ (plain_pairs ps ++ 0x7D ∷ [])

  -- the texts of the members, with `,` between them
  pub plain_members : Values → List ℕ
  plain_members no_values = []
  plain_members (value v vs) = plain v ++ (comma vs ++ plain_members vs)

  -- for each pair: key, `=`, value, `;`
  pub plain_pairs : Pairs → List ℕ
  plain_pairs no_pairs = []
  plain_pairs (pair u v ps) = text_of_units u ++ (0x3D ∷ (plain v ++ (0x3B ∷ plain_pairs ps)))
