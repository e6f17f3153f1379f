-- The sizes of containers from those of their parts.
use Rattle.std.proofs.Common.{◌≡◌, ℕ, ◌+◌, ◌*◌, ◌≤◌, List, [], ◌∷◌, ◌++◌, length, Option, Some, None, refl, sym, ap, ap₂, ◌∙◌, arith}
use Rattle.std.specs.Prelude.{option_map, option_and_then, max}
use Rattle.std.specs.List.{AllByRecursion}
use Rattle.std.proofs.lemmas.List.{length-append}
use Rattle.bplist_objects.specs.declared.frame.Frame.{Frame}
use Rattle.bplist_objects.specs.Value.{text, leaf, array, set, dict, Values, no_values, value, Pairs, no_pairs, pair, keys}
use Rattle.bplist_objects.specs.Holds.{HoldEach, HoldPairs}
use Rattle.bplist_objects.proofs.Lists.{all_front, all_behind}
use Rattle.bplist_cursor.specs.declared.sizes.Form.{Form}
use Rattle.bplist_cursor.specs.declared.sizes.Form.TheVariants.{NoForm, Length}
use Rattle.bplist_cursor.specs.declared.sizes.Size.{Size}
use Rattle.bplist_cursor.specs.Nodes.{cap, nodes_of, nodes_of_pairs}
use Rattle.bplist_cursor.specs.Texts.{text_of_units}
use Rattle.bplist_cursor.specs.OldStyle.{comma, value_text, members_text, pairs_text}
use Rattle.bplist_cursor.specs.Forms.{form_of_text, joined}
use Rattle.bplist_cursor.proofs.Counts.{pair_counts}
use Rattle.bplist_cursor.specs.Sizes.{size_of, both, size_in, added, no_size, size_of_members, size_of_keys, size_of_values, IsSized}

-- forms are joined in any grouping
joined-assoc : (a b c : Form) → joined (joined a b) c ≡ joined a (joined b c)
joined-assoc (Length a) (Length b) (Length c) = ap Length (omega arith)
joined-assoc _ _ _ = refl

-- a form whose length is no more than its limit
abbrev pub IsCapped : Form → Type 0
IsCapped NoForm = Unit {0}
IsCapped (Length n) = n ≤ 18446744073709551615

-- a size that is capped
abbrev pub IsFit : Size → Type 0
IsFit s = (s.nodes ≤ 18446744073709551615) × IsCapped s.form

joined_fits : (a b : Form) → IsCapped (joined a b)
joined_fits (Length a) (Length b) = omega arith
joined_fits _ _ = tt

joined_nothing : (a : Form) → IsCapped a → joined a (Length 0) ≡ a
joined_nothing NoForm c = refl
joined_nothing (Length n) c = ap Length (omega (arith, c))

pub both_fits : (a b : Size) → IsFit (both a b)
both_fits a b = (omega arith, joined_fits a.form b.form)

-- sizes are equal by their parts
same_size : (a b : Size) → a.nodes ≡ b.nodes → a.form ≡ b.form → a ≡ b
same_size a b n f = ap₂ (λ x y. record { nodes = x; form = y }) n f

pub both-assoc : (a b c : Size) → both (both a b) c ≡ both a (both b c)
both-assoc a b c = same_size _ _ (omega arith) (joined-assoc a.form b.form c.form)

pub both_nothing : (a : Size) → IsFit a → both a no_size ≡ a
both_nothing a fit = same_size _ _ (omega (arith, fit.0)) (joined_nothing a.form fit.1)

-- to add two lists one after the other is to add them as one
pub added-append : (sizes : List (Option Size)) (total : Size) (xs ys : List ℕ) → added sizes total (xs ++ ys) ≡ option_and_then (λ t. added sizes t ys) (added sizes total xs)
added-append sizes total [] ys = refl
added-append sizes total (x ∷ xs) ys = go (λ s. added-append sizes (both total s) xs ys) (size_in sizes x)
  where
    go : ((s : Size) → added sizes (both total s) (xs ++ ys) ≡ option_and_then (λ t. added sizes t ys) (added sizes (both total s) xs)) → (o : Option Size) → option_and_then (λ s. added sizes (both total s) (xs ++ ys)) o ≡ option_and_then (λ t. added sizes t ys) (option_and_then (λ s. added sizes (both total s) xs) o)
    go each None = refl
    go each (Some s) = each s

module _ (f : List ℕ) (F : Frame) (sizes : List (Option Size)) where
  -- the sizes of members
  pub added_members : (vs : Values) (ms : List ℕ) (total : Size) → IsFit total → AllByRecursion (IsSized f F sizes) ms → HoldEach f F ms vs
      → added sizes total ms ≡ Some (both total (size_of_members vs))
  added_members no_values [] total fit all h = ap Some (sym (both_nothing total fit))
  added_members (value v vs) (m ∷ ms) total fit all h =
      ap (λ o. option_and_then (λ s. added sizes (both total s) ms) o) (all.0 v h.0)
      ∙ added_members vs ms (both total (size_of v)) (both_fits total (size_of v)) all.1 h.1
      ∙ ap Some (both-assoc total (size_of v) (size_of_members vs))
  added_members _ _ _ _ _ h = absurd h

  -- the sizes of keys
  pub added_keys : (ps : Pairs) (ks ms : List ℕ) (total : Size) → IsFit total → AllByRecursion (IsSized f F sizes) ks → HoldPairs f F ks ms ps
      → added sizes total ks ≡ Some (both total (size_of_keys ps))
  added_keys no_pairs [] [] total fit all h = ap Some (sym (both_nothing total fit))
  added_keys (pair u v ps) (k ∷ ks) (m ∷ ms) total fit all h =
      ap (λ o. option_and_then (λ s. added sizes (both total s) ks) o) (all.0 (leaf (text u)) h.0)
      ∙ added_keys ps ks ms (both total (size_of (leaf (text u)))) (both_fits total (size_of (leaf (text u)))) all.1 h.2
      ∙ ap Some (both-assoc total (size_of (leaf (text u))) (size_of_keys ps))
  added_keys ps ks ms total fit all h = absurd (let c = pair_counts f F ks ms ps h in omega (arith, c.0, c.1))

  -- the sizes of the values of pairs
  pub added_values : (ps : Pairs) (ks ms : List ℕ) (total : Size) → IsFit total → AllByRecursion (IsSized f F sizes) ms → HoldPairs f F ks ms ps
      → added sizes total ms ≡ Some (both total (size_of_values ps))
  added_values no_pairs [] [] total fit all h = ap Some (sym (both_nothing total fit))
  added_values (pair u v ps) (k ∷ ks) (m ∷ ms) total fit all h =
      ap (λ o. option_and_then (λ s. added sizes (both total s) ms) o) (all.0 v h.1)
      ∙ added_values ps ks ms (both total (size_of v)) (both_fits total (size_of v)) all.1 h.2
      ∙ ap Some (both-assoc total (size_of v) (size_of_values ps))
  added_values ps ks ms total fit all h = absurd (let c = pair_counts f F ks ms ps h in omega (arith, c.0, c.1))

  -- the sizes of keys and values
  pub added_pairs : (ps : Pairs) (ks ms : List ℕ) (total : Size) → IsFit total → AllByRecursion (IsSized f F sizes) (ks ++ ms) → HoldPairs f F ks ms ps
      → added sizes total (ks ++ ms) ≡ Some (both (both total (size_of_keys ps)) (size_of_values ps))
  added_pairs ps ks ms total fit all h =
      added-append sizes total ks ms
      ∙ ap (option_and_then (λ t. added sizes t ms)) (added_keys ps ks ms total fit (all_front (IsSized f F sizes) ks ms all) h)
      ∙ added_values ps ks ms (both total (size_of_keys ps)) (both_fits total (size_of_keys ps)) (all_behind (IsSized f F sizes) ks ms all) h

-- the number of commas between these members
abbrev commas : Values → ℕ
commas no_values = 0
commas (value v vs) = length (comma vs) + commas vs

nodes_of_members : (vs : Values) → (size_of_members vs).nodes ≡ cap (nodes_of vs)
nodes_of_members no_values = refl
nodes_of_members (value v vs) = omega (arith, nodes_of_members vs)

-- the form of a text between others
text_step : (o p : Option (List ℕ)) (x : Form) (mid : List ℕ) (n : ℕ) → form_of_text p ≡ joined (Length (cap n)) x
    → form_of_text (option_and_then (λ t. option_map (λ r. t ++ (mid ++ r)) p) o) ≡ joined (Length (cap (length mid + n))) (joined (form_of_text o) x)
text_step None p x mid n e = refl
text_step (Some t) None NoForm mid n e = refl
text_step (Some t) (Some r) (Length x) mid n e =
    let is : cap (length r) ≡ cap (cap n + x) = cc e in
    ap Length (omega (arith, is, length-append t (mid ++ r), length-append mid r))
text_step _ _ _ _ _ e = cc e

members_form : (vs : Values) → form_of_text (members_text vs) ≡ joined (Length (cap (commas vs))) (size_of_members vs).form
members_form no_values = refl
members_form (value v vs) = text_step (value_text v) (members_text vs) (size_of_members vs).form (comma vs) (commas vs) (members_form vs)

commas_of : (f : List ℕ) (F : Frame) (vs : Values) (ms : List ℕ) → HoldEach f F ms vs → commas vs + 1 ≡ max (length ms) 1
commas_of f F no_values [] h = refl
commas_of f F (value v no_values) (m ∷ []) h = refl
commas_of f F (value v (value w vs)) (m ∷ n ∷ ms) h = let e = commas_of f F (value w vs) (n ∷ ms) h.1 in omega (arith, e)
commas_of _ _ (value _ _) (_ ∷ _) h = absurd h.1
commas_of _ _ _ _ h = absurd h

-- a text between two bytes
enclosed : (front back : ℕ) (o : Option (List ℕ)) (x : Form) (n : ℕ) → form_of_text o ≡ joined (Length (cap n)) x
    → joined (Length (cap (n + 2))) x ≡ form_of_text (option_map (λ t. front ∷ (t ++ back ∷ [])) o)
enclosed front back None NoForm n e = refl
enclosed front back (Some t) (Length x) n e =
    let is : cap (length t) ≡ cap (cap n + x) = cc e in
    ap Length (omega (arith, is, length-append t (back ∷ [])))
enclosed _ _ _ _ _ e = cc e

-- the size of an array with these members
pub array_size : (f : List ℕ) (F : Frame) (vs : Values) (ms : List ℕ) → HoldEach f F ms vs
    → both (record { nodes = 1; form = Length (cap (max (length ms) 1 + 1)) }) (size_of_members vs) ≡ size_of (array vs)
array_size f F vs ms h =
    let two : commas vs + 2 ≡ max (length ms) 1 + 1 = omega (arith, commas_of f F vs ms h) in
    same_size _ _ (omega (arith, nodes_of_members vs))
    (ap (λ n. joined (Length (cap n)) (size_of_members vs).form) (sym two) ∙ enclosed 0x28 0x29 (members_text vs) (size_of_members vs).form (commas vs) (members_form vs))

-- the size of a set with these members
pub set_size : (vs : Values) → both (record { nodes = 1; form = NoForm }) (size_of_members vs) ≡ size_of (set vs)
set_size vs = same_size _ _ (omega (arith, nodes_of_members vs)) refl

nodes_of_both : (ps : Pairs) → cap ((size_of_keys ps).nodes + (size_of_values ps).nodes) ≡ cap (nodes_of_pairs ps)
nodes_of_both no_pairs = refl
nodes_of_both (pair u v ps) = omega (arith, nodes_of_both ps)

-- the form of a key's text, `=`, a text, `;` and a text
pair_step : (o p : Option (List ℕ)) (x y : Form) (key : List ℕ) (n : ℕ) → form_of_text p ≡ joined (joined (Length (cap n)) x) y
    → form_of_text (option_and_then (λ t. option_map (λ r. key ++ (0x3D ∷ (t ++ (0x3B ∷ r)))) p) o)
    ≡ joined (joined (Length (cap (2 + n))) (joined (Length (cap (length key))) x)) (joined (form_of_text o) y)
pair_step None p NoForm y key n e = refl
pair_step None p (Length x) y key n e = refl
pair_step (Some t) None NoForm y key n e = refl
pair_step (Some t) None (Length x) NoForm key n e = refl
pair_step (Some t) (Some r) (Length x) (Length y) key n e =
    let is : cap (length r) ≡ cap (cap (cap n + x) + y) = cc e in
    ap Length (omega (arith, is, length-append key (0x3D ∷ (t ++ (0x3B ∷ r))), length-append t (0x3B ∷ r)))
pair_step _ _ _ _ _ _ e = cc e

pairs_form : (ps : Pairs) → form_of_text (pairs_text ps) ≡ joined (joined (Length (cap (2 * length (keys ps)))) (size_of_keys ps).form) (size_of_values ps).form
pairs_form no_pairs = refl
pairs_form (pair u v ps) =
    let two : 2 + 2 * length (keys ps) ≡ 2 * length (keys (pair u v ps)) = omega arith in
    pair_step (value_text v) (pairs_text ps) (size_of_keys ps).form (size_of_values ps).form (text_of_units u) (2 * length (keys ps)) (pairs_form ps)
    ∙ ap (λ n. joined (joined (Length (cap n)) (size_of_keys (pair u v ps)).form) (size_of_values (pair u v ps)).form) two

enclosed_pairs : (front back : ℕ) (o : Option (List ℕ)) (x y : Form) (n : ℕ) → form_of_text o ≡ joined (joined (Length (cap n)) x) y
    → joined (joined (Length (cap (n + 2))) x) y ≡ form_of_text (option_map (λ t. front ∷ (t ++ back ∷ [])) o)
enclosed_pairs front back o x y n e =
    joined-assoc (Length (cap (n + 2))) x y ∙ enclosed front back o (joined x y) n (e ∙ joined-assoc (Length (cap n)) x y)

-- the size of a dictionary with these pairs
pub dict_size : (f : List ℕ) (F : Frame) (ps : Pairs) (ks ms : List ℕ) → HoldPairs f F ks ms ps
    → both (both (record { nodes = 1; form = Length (cap (2 * length ks + 2)) }) (size_of_keys ps)) (size_of_values ps) ≡ size_of (dict ps)
dict_size f F ps ks ms h =
    let same : 2 * length (keys ps) + 2 ≡ 2 * length ks + 2 = omega (arith, (pair_counts f F ks ms ps h).0) in
    same_size _ _ (omega (arith, nodes_of_both ps))
    (ap (λ n. joined (joined (Length (cap n)) (size_of_keys ps).form) (size_of_values ps).form) (sym same)
    ∙ enclosed_pairs 0x7B 0x7D (pairs_text ps) (size_of_keys ps).form (size_of_values ps).form (2 * length (keys ps)) (pairs_form ps))
