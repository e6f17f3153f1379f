-- The lines of a value and everything inside it, by its members.
use Rattle.std.proofs.Common.{◌≡◌, ◌<◌, ◌≤◌, ◌+◌, ◌*◌, ◌++◌, ◌∷◌, [], ◌∙◌, ℕ, zero, suc, List, drop, length, map, Some, Ok, ap, append-nil, arith, refl, sym}
use Rattle.std.specs.Prelude.{option_map, slice_get}
use Rattle.std.specs.List.{enumerate_from, flat_map}
use Rattle.std.proofs.lemmas.List.{length-append, length-map}
use Rattle.std.proofs.lemmas.List.FromFn.{length-enumerate_from}
use Rattle.std.proofs.lemmas.List.Folds.{flat_map-map}
use Rattle.std.proofs.lemmas.Option.{slice_get-map}
use Rattle.bplist_objects.specs.Value.{Value, leaf, array, set, dict, text, Values, no_values, value, Pairs, no_pairs, pair, keys}
use Rattle.bplist_cursor.specs.Members.{entries, member_of, members}
use Rattle.bplist_cursor.specs.Nodes.{nodes, nodes_of, nodes_of_pairs}
use Rattle.bplist_cursor.proofs.Membership.{in_turn}
use Rattle.bplint_lines.specs.MemberNames.{bracketed, index_name, key_name}
use Rattle.bplint_lines.specs.declared.texts.Style.{Style}
use Rattle.bplint_engine.specs.declared.members.Members.{Members}
use Rattle.bplint_engine.specs.declared.members.Members.TheVariants.{Array, Set, Dict}
use Rattle.bplint_engine.specs.Ls.{HasCount, HasMembers, IsLeaf, listed, named_line}
use Rattle.bplint_engine.specs.Tree.{array_lines, dict_lines, joined_lines, named_members, set_lines, tree_lines}
use Rattle.bplint_engine.proofs.HeldMembers.{item_there, key_there, value_there}

module _ (style : Style) where
  -- the lines of members with their names, and of everything inside them
  abbrev pub lines_of_all : List (List ℕ × Value) → List (List ℕ)
  lines_of_all ms = flat_map (λ m. tree_lines style m.0 m.1) ms

  array_tree : (name : List ℕ) (i : ℕ) (vs : Values) → array_lines style name i vs ≡ lines_of_all (map (λ e. (index_name name e.0, e.1)) (enumerate_from i (members vs)))
  array_tree name i no_values = refl
  array_tree name i (value v vs) = ap (λ l. tree_lines style (index_name name i) v ++ l) (array_tree name (i + 1) vs)

  set_tree : (i : ℕ) (vs : Values) → set_lines style i vs ≡ lines_of_all (map (λ e. (bracketed e.0, e.1)) (enumerate_from i (members vs)))
  set_tree i no_values = refl
  set_tree i (value v vs) = ap (λ l. tree_lines style (bracketed i) v ++ l) (set_tree (i + 1) vs)

  dict_tree : (name : List ℕ) (i : ℕ) (ps : Pairs) → dict_lines style name i ps ≡ lines_of_all (map (λ e. (key_name style name e.0 e.1.0, e.1.1)) (enumerate_from i (entries ps)))
  dict_tree name i no_pairs = refl
  dict_tree name i (pair u v ps) = ap (λ l. tree_lines style (key_name style name i u) v ++ l) (dict_tree name (i + 1) ps)

  -- a value's own line, and then the lines of each member
  pub tree_by_members : (name : List ℕ) (w : Value) → tree_lines style name w ≡ named_line style name w ∷ lines_of_all (named_members style name w)
  tree_by_members name (leaf l) = refl
  tree_by_members name (array vs) = ap (λ l. named_line style name (array vs) ∷ l) (array_tree name 0 vs)
  tree_by_members name (set vs) = ap (λ l. named_line style name (set vs) ∷ l) (set_tree 0 vs)
  tree_by_members name (dict ps) = ap (λ l. named_line style name (dict ps) ∷ l) (dict_tree name 0 ps)

  -- what `ls` writes for a container is one line for each member
  pub listed_by_members : (name : List ℕ) (w : Value) → (IsLeaf w → ⊥) → listed style name (Ok w) ≡ flat_map (λ m. named_line style m.0 m.1) (named_members style name w)
  listed_by_members name (leaf l) h = absurd (h tt)
  listed_by_members name (array vs) h = sym (flat_map-map (λ m. named_line style m.0 m.1) (λ e. (index_name name e.0, e.1)) (enumerate_from 0 (members vs)))
  listed_by_members name (set vs) h = sym (flat_map-map (λ m. named_line style m.0 m.1) (λ e. (bracketed e.0, e.1)) (enumerate_from 0 (members vs)))
  listed_by_members name (dict ps) h = sym (flat_map-map (λ m. named_line style m.0 m.1) (λ e. (key_name style name e.0 e.1.0, e.1.1)) (enumerate_from 0 (entries ps)))

  -- a leaf has only its own line
  pub listed_leaf : (name : List ℕ) (w : Value) → IsLeaf w → listed style name (Ok w) ≡ joined_lines (tree_lines style name w)
  listed_leaf name (leaf l) is = sym (append-nil (named_line style name (leaf l)))
  listed_leaf name _ is = absurd is

  -- ---- how many lines there are
  mutual
    -- there are no more lines than nodes
    pub tree_few : (name : List ℕ) (w : Value) → length (tree_lines style name w) ≤ nodes w
    tree_few name (leaf l) = omega arith
    tree_few name (array vs) = let few = array_few name 0 vs in omega (arith, few)
    tree_few name (set vs) = let few = set_few 0 vs in omega (arith, few)
    tree_few name (dict ps) = let few = dict_few name 0 ps in omega (arith, few)

    array_few : (name : List ℕ) (i : ℕ) (vs : Values) → length (array_lines style name i vs) ≤ nodes_of vs
    array_few name i no_values = omega arith
    array_few name i (value v vs) =
        let first = tree_few (index_name name i) v in
        let rest = array_few name (i + 1) vs in
        omega (arith, first, rest, length-append (tree_lines style (index_name name i) v) (array_lines style name (i + 1) vs))

    set_few : (i : ℕ) (vs : Values) → length (set_lines style i vs) ≤ nodes_of vs
    set_few i no_values = omega arith
    set_few i (value v vs) =
        let first = tree_few (bracketed i) v in
        let rest = set_few (i + 1) vs in
        omega (arith, first, rest, length-append (tree_lines style (bracketed i) v) (set_lines style (i + 1) vs))

    dict_few : (name : List ℕ) (i : ℕ) (ps : Pairs) → length (dict_lines style name i ps) ≤ nodes_of_pairs ps
    dict_few name i no_pairs = omega arith
    dict_few name i (pair u v ps) =
        let first = tree_few (key_name style name i u) v in
        let rest = dict_few name (i + 1) ps in
        omega (arith, first, rest, length-append (tree_lines style (key_name style name i u) v) (dict_lines style name (i + 1) ps))

  length-entries : (ps : Pairs) → length (entries ps) ≡ length (keys ps)
  length-entries no_pairs = refl
  length-entries (pair u v ps) = ap suc (length-entries ps)

  -- there are as many named members as the container has members
  pub length-named : (kind : Members) (n : ℕ) (name : List ℕ) (w : Value) → HasMembers kind n w → length (named_members style name w) ≡ n
  length-named Array n name (array vs) is = length-map (enumerate_from 0 (members vs)) (λ e. (index_name name e.0, e.1)) ∙ length-enumerate_from 0 (members vs) ∙ is
  length-named Set n name (set vs) is = length-map (enumerate_from 0 (members vs)) (λ e. (bracketed e.0, e.1)) ∙ length-enumerate_from 0 (members vs) ∙ is
  length-named Dict n name (dict ps) is =
      length-map (enumerate_from 0 (entries ps)) (λ e. (key_name style name e.0 e.1.0, e.1.1)) ∙ length-enumerate_from 0 (entries ps) ∙ length-entries ps ∙ is
  length-named _ n name _ is = absurd is

  pub length-counted : (n : ℕ) (name : List ℕ) (w : Value) → HasCount n w → length (named_members style name w) ≡ n
  length-counted n name (leaf l) has = absurd has
  length-counted n name (array vs) has = length-named Array n name (array vs) has
  length-counted n name (set vs) has = length-named Set n name (set vs) has
  length-counted n name (dict ps) has = length-named Dict n name (dict ps) has

  -- ---- one member
  enumerated : {X : Type 0} (k : ℕ) (xs : List X) (i : ℕ) (x : X) → slice_get xs i ≡ Some x → slice_get (enumerate_from k xs) i ≡ Some (k + i, x)
  enumerated k [] i x e = cc e
  enumerated k (y ∷ ys) zero x e = let same : y ≡ x = cc e in let none : k ≡ k + 0 = omega arith in (λ j. Some (none j, same j))
  enumerated k (y ∷ ys) (suc i) x e = enumerated (k + 1) ys i x e ∙ (let step : k + 1 + i ≡ k + suc i = omega arith in ap (λ j. Some (j, x)) step)

  entry_there : (ps : Pairs) (i k : ℕ) (u : List ℕ) (m : Value) → k ≡ 2 * i → slice_get (in_turn ps) k ≡ Some (leaf (text u)) → slice_get (in_turn ps) (suc k) ≡ Some m
      → slice_get (entries ps) i ≡ Some (u, m)
  entry_there no_pairs i k u m is e h = cc e
  entry_there (pair v x ps) zero zero u m is e h = let key : v ≡ u = cc e in let same : x ≡ m = cc h in (λ j. Some (key j, same j))
  entry_there (pair v x ps) zero (suc k) u m is e h = absurd (omega (arith, is))
  entry_there (pair v x ps) (suc i) zero u m is e h = absurd (omega (arith, is))
  entry_there (pair v x ps) (suc i) (suc zero) u m is e h = absurd (omega (arith, is))
  entry_there (pair v x ps) (suc i) (suc (suc k)) u m is e h = entry_there ps i k u m (omega (arith, is)) e h

  -- a member of an array, and its name
  pub array_named : (n i : ℕ) (w : Value) → HasMembers Array n w → i < n
      → (m : Value) × (member_of w i ≡ Some m) × ((name : List ℕ) → slice_get (named_members style name w) i ≡ Some (index_name name i, m))
  array_named n i (array vs) is within =
      let there = item_there vs n i is within in (
        there.0,
        there.1,
        λ name. slice_get-map (λ e. (index_name name e.0, e.1)) (enumerate_from 0 (members vs)) i
            ∙ ap (option_map (λ e. (index_name name e.0, e.1))) (enumerated 0 (members vs) i there.0 there.1)
            ∙ (let same : 0 + i ≡ i = omega arith in ap (λ j. Some (index_name name j, there.0)) same),
      )
  array_named n i _ is within = absurd is

  -- a member of a set, and its place
  pub set_named : (n i : ℕ) (w : Value) → HasMembers Set n w → i < n
      → (m : Value) × (member_of w i ≡ Some m) × ((name : List ℕ) → slice_get (named_members style name w) i ≡ Some (bracketed i, m))
  set_named n i (set vs) is within =
      let there = item_there vs n i is within in (
        there.0,
        there.1,
        λ name. slice_get-map (λ e. (bracketed e.0, e.1)) (enumerate_from 0 (members vs)) i
            ∙ ap (option_map (λ e. (bracketed e.0, e.1))) (enumerated 0 (members vs) i there.0 there.1)
            ∙ (let same : 0 + i ≡ i = omega arith in ap (λ j. Some (bracketed j, there.0)) same),
      )
  set_named n i _ is within = absurd is

  -- a key of a dictionary, its value, and the name of the value
  pub dict_named : (n i : ℕ) (w : Value) → HasMembers Dict n w → i < n
      → (u : List ℕ) × (m : Value) × (member_of w (2 * i) ≡ Some (leaf (text u))) × (member_of w (2 * i + 1) ≡ Some m)
      × ((name : List ℕ) → slice_get (named_members style name w) i ≡ Some (key_name style name i u, m))
  dict_named n i (dict ps) is within =
      let key = key_there ps n i (2 * i) is within refl in
      let there = value_there ps n i (2 * i + 1) is within refl in
      let step : 2 * i + 1 ≡ suc (2 * i) = omega arith in
      let entry = entry_there ps i (2 * i) key.0 there.0 refl key.1 (ap (slice_get (in_turn ps)) (sym step) ∙ there.1) in (
        key.0,
        there.0,
        key.1,
        there.1,
        λ name. slice_get-map (λ e. (key_name style name e.0 e.1.0, e.1.1)) (enumerate_from 0 (entries ps)) i
            ∙ ap (option_map (λ e. (key_name style name e.0 e.1.0, e.1.1))) (enumerated 0 (entries ps) i (key.0, there.0) entry)
            ∙ (let same : 0 + i ≡ i = omega arith in ap (λ j. Some (key_name style name j key.0, there.0)) same),
      )
  dict_named n i _ is within = absurd is

  -- ---- the members from one on
  pub drop_at : {X : Type 0} (xs : List X) (i : ℕ) (x : X) → slice_get xs i ≡ Some x → drop i xs ≡ x ∷ drop (i + 1) xs
  drop_at [] i x e = cc e
  drop_at (y ∷ ys) zero x e = let same : y ≡ x = cc e in ap (λ z. z ∷ ys) same
  drop_at (y ∷ ys) (suc i) x e = drop_at ys i x e ∙ (let step : suc (i + 1) ≡ suc i + 1 = omega arith in ap (λ j. x ∷ drop j (y ∷ ys)) step)
