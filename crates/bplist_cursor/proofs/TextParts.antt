-- The text of a value in two parts: whether there is one, and the text.
use Rattle.std.proofs.Common.{◌≡◌, ℕ, List, [], ◌∷◌, ◌++◌, Option, Some, None, refl, ap, ◌∙◌}
use Rattle.std.specs.Prelude.{option_map, option_and_then}
use Rattle.bplist_objects.specs.Value.{Leaf, bytes, text, Value, leaf, array, set, dict, Values, no_values, value, Pairs, no_pairs, pair}
use Rattle.bplist_cursor.specs.Texts.{text_of_units}
use Rattle.bplist_cursor.specs.OldStyle.{leaf_text, comma, value_text, members_text, pairs_text, IsFormedLeaf, IsFormed, AreFormed, ArePairsFormed, plain_leaf, plain, plain_members, plain_pairs}

pub map_some : {X Y : Type 0} (g : X → Y) (o : Option X) (y : Y) → option_map g o ≡ Some y → (x : X) × (o ≡ Some x) × (g x ≡ y)
map_some g None y e = cc
map_some g (Some x) y e = (x, refl, cc)

pub then_some : {X Y : Type 0} (g : X → Option Y) (o : Option X) (y : Y) → option_and_then g o ≡ Some y → (x : X) × (o ≡ Some x) × (g x ≡ Some y)
then_some g None y e = cc
then_some g (Some x) y e = (x, refl, e)

-- a leaf that has a form
formed_leaf : (l : Leaf) → IsFormedLeaf l → leaf_text l ≡ Some (plain_leaf l)
formed_leaf (bytes l) h = refl
formed_leaf (text u) h = refl
formed_leaf _ h = absurd h

leaf_formed : (l : Leaf) (t : List ℕ) → leaf_text l ≡ Some t → IsFormedLeaf l × (plain_leaf l ≡ t)
leaf_formed (bytes l) t e = (tt, cc)
leaf_formed (text u) t e = (tt, cc)
leaf_formed _ t e = cc

mutual
  -- a value that is formed has its plain text
  pub formed_text : (v : Value) → IsFormed v → value_text v ≡ Some (plain v)
  formed_text (leaf l) h = formed_leaf l h
  formed_text (array vs) h = ap (option_map (λ t. 0x28 ∷ (t ++ 0x29 ∷ []))) (formed_members vs h)
  formed_text (set vs) h = absurd h
  formed_text (dict ps) h = ap (option_map (λ t. 0x7B ∷ (t ++ 0x7D ∷ []))) (formed_pairs ps h)

  formed_members : (vs : Values) → AreFormed vs → members_text vs ≡ Some (plain_members vs)
  formed_members no_values h = refl
  formed_members (value v vs) h =
      ap (option_and_then (λ t. option_map (λ r. t ++ (comma vs ++ r)) (members_text vs))) (formed_text v h.0)
      ∙ ap (option_map (λ r. plain v ++ (comma vs ++ r))) (formed_members vs h.1)

  formed_pairs : (ps : Pairs) → ArePairsFormed ps → pairs_text ps ≡ Some (plain_pairs ps)
  formed_pairs no_pairs h = refl
  formed_pairs (pair u v ps) h =
      ap (option_and_then (λ t. option_map (λ r. text_of_units u ++ (0x3D ∷ (t ++ (0x3B ∷ r)))) (pairs_text ps))) (formed_text v h.0)
      ∙ ap (option_map (λ r. text_of_units u ++ (0x3D ∷ (plain v ++ (0x3B ∷ r))))) (formed_pairs ps h.1)

mutual
  -- a value that has a text is formed, and this is its plain text
  pub text_formed : (v : Value) (t : List ℕ) → value_text v ≡ Some t → IsFormed v × (plain v ≡ t)
  text_formed (leaf l) t e = leaf_formed l t e
  text_formed (array vs) t e =
      let r = map_some (λ t. 0x28 ∷ (t ++ 0x29 ∷ [])) (members_text vs) t e in
      let m = members_formed vs r.0 r.1 in
      (m.0, ap (λ t. 0x28 ∷ (t ++ 0x29 ∷ [])) m.1 ∙ r.2)
  text_formed (set vs) t e = cc
  text_formed (dict ps) t e =
      let r = map_some (λ t. 0x7B ∷ (t ++ 0x7D ∷ [])) (pairs_text ps) t e in
      let m = pairs_formed ps r.0 r.1 in
      (m.0, ap (λ t. 0x7B ∷ (t ++ 0x7D ∷ [])) m.1 ∙ r.2)

  members_formed : (vs : Values) (t : List ℕ) → members_text vs ≡ Some t → AreFormed vs × (plain_members vs ≡ t)
  members_formed no_values t e = (tt, cc)
  members_formed (value v vs) t e =
      let a = then_some (λ t. option_map (λ r. t ++ (comma vs ++ r)) (members_text vs)) (value_text v) t e in
      let b = map_some (λ r. a.0 ++ (comma vs ++ r)) (members_text vs) t a.2 in
      let x = text_formed v a.0 a.1 in
      let y = members_formed vs b.0 b.1 in
      ((x.0, y.0), ap (λ s. s ++ (comma vs ++ plain_members vs)) x.1 ∙ ap (λ r. a.0 ++ (comma vs ++ r)) y.1 ∙ b.2)

  pairs_formed : (ps : Pairs) (t : List ℕ) → pairs_text ps ≡ Some t → ArePairsFormed ps × (plain_pairs ps ≡ t)
  pairs_formed no_pairs t e = (tt, cc)
  pairs_formed (pair u v ps) t e =
      let a = then_some (λ t. option_map (λ r. text_of_units u ++ (0x3D ∷ (t ++ (0x3B ∷ r)))) (pairs_text ps)) (value_text v) t e in
      let b = map_some (λ r. text_of_units u ++ (0x3D ∷ (a.0 ++ (0x3B ∷ r)))) (pairs_text ps) t a.2 in
      let x = text_formed v a.0 a.1 in
      let y = pairs_formed ps b.0 b.1 in
      ((x.0, y.0), ap (λ s. text_of_units u ++ (0x3D ∷ (s ++ (0x3B ∷ plain_pairs ps)))) x.1 ∙ ap (λ r. text_of_units u ++ (0x3D ∷ (a.0 ++ (0x3B ∷ r)))) y.1 ∙ b.2)
