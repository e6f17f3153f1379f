-- The object that keeps a value from having a text.
use Rattle.std.proofs.Common.{◌≡◌, ℕ, List, [], ◌∷◌, ◌++◌, Option, Some, None, refl, sym, ap, ◌∙◌, subst, arith}
use Rattle.std.specs.Prelude.{option_map, option_and_then, MatchOption}
use Rattle.bplist_objects.specs.declared.frame.Frame.{Frame}
use Rattle.bplist_objects.specs.Value.{Value, leaf, array, set, dict, Values, no_values, value, Pairs, no_pairs, pair}
use Rattle.bplist_objects.specs.Holds.{Holds, HoldEach, HoldPairs}
use Rattle.bplist_objects.proofs.Fronts.{one_head}
use Rattle.bplist_cursor.proofs.Counts.{pair_counts}
use Rattle.bplist_cursor.specs.Texts.{text_of_units}
use Rattle.bplist_cursor.specs.OldStyle.{comma, value_text, members_text, pairs_text}
use Rattle.bplist_cursor.specs.Formless.{IsFormless, IsFirstFormless, IsFirstFormlessOf}

map_none : {X Y : Type 0} (g : X → Y) (o : Option X) → option_map g o ≡ None → o ≡ None
map_none g None e = refl
map_none g (Some x) e = cc

-- a text that goes on with another, which there is none of
then_none : (A B : Type 0) (on : List ℕ → List ℕ → List ℕ) (o p : Option (List ℕ)) → (B → p ≡ None) → MatchOption o A (λ t. B)
    → option_and_then (λ t. option_map (on t) p) o ≡ None
then_none A B on None p later h = refl
then_none A B on (Some t) p later h = ap (option_map (on t)) (later h)

-- what follows from both cases
one_of : (A B C D X : Type 0) (o : Option (List ℕ)) → (A → B → X) → (C → D → X) → MatchOption o A (λ t. C) → MatchOption o B (λ t. D) → X
one_of A B C D X None here later p q = here p q
one_of A B C D X (Some t) here later p q = later p q

-- the first of two texts that there is none of
first_none : (A B : ℕ → Type 0) (on : List ℕ → List ℕ → List ℕ) (o p : Option (List ℕ)) → (o ≡ None → (x : ℕ) × A x) → (p ≡ None → (x : ℕ) × B x)
    → option_and_then (λ t. option_map (on t) p) o ≡ None → (x : ℕ) × MatchOption o (A x) (λ t. B x)
first_none A B on None p here later e = here refl
first_none A B on (Some t) p here later e = later (map_none _ _ e)

-- the text of a pair with this key, by the text of its value and that of the pairs after it
abbrev pair_text : List ℕ → List ℕ → List ℕ → List ℕ
pair_text u t r = text_of_units u ++ (0x3D ∷ (t ++ (0x3B ∷ r)))

module _ (f : List ℕ) (F : Frame) where
  mutual
    -- such a value has no text
    pub formless_none : (v : Value) (n x : ℕ) → IsFormless f F n v x → value_text v ≡ None
    formless_none (leaf l) n x h = h.0
    formless_none (array vs) n x h = ap (option_map (λ t. 0x28 ∷ (t ++ 0x29 ∷ []))) (members_none vs h.0 x h.2)
    formless_none (set vs) n x h = refl
    formless_none (dict ps) n x h = ap (option_map (λ t. 0x7B ∷ (t ++ 0x7D ∷ []))) (pairs_none ps h.1 x h.3)

    members_none : (vs : Values) (ms : List ℕ) (x : ℕ) → IsFirstFormless f F ms vs x → members_text vs ≡ None
    members_none (value v vs) (m ∷ ms) x h =
        then_none (IsFormless f F m v x) (IsFirstFormless f F ms vs x) (λ t r. t ++ (comma vs ++ r)) (value_text v) (members_text vs) (members_none vs ms x) h
    members_none no_values (m ∷ ms) x h = absurd h
    members_none _ _ _ h = absurd h

    pairs_none : (ps : Pairs) (ms : List ℕ) (x : ℕ) → IsFirstFormlessOf f F ms ps x → pairs_text ps ≡ None
    pairs_none (pair u v ps) (m ∷ ms) x h =
        then_none (IsFormless f F m v x) (IsFirstFormlessOf f F ms ps x) (pair_text u) (value_text v) (pairs_text ps) (pairs_none ps ms x) h
    pairs_none no_pairs (m ∷ ms) x h = absurd h
    pairs_none _ _ _ h = absurd h

  mutual
    -- there is at most one
    pub one_formless : (v : Value) (n x y : ℕ) → IsFormless f F n v x → IsFormless f F n v y → x ≡ y
    one_formless (leaf l) n x y p q = p.1 ∙ sym q.1
    one_formless (array vs) n x y p q =
        let is : p.0 ≡ q.0 = cc (one_head f F n _ _ p.1 q.1) in
        one_member vs q.0 x y (subst (λ ms. IsFirstFormless f F ms vs x) is p.2) q.2
    one_formless (set vs) n x y p q = p.1 ∙ sym q.1
    one_formless (dict ps) n x y p q =
        let is : p.1 ≡ q.1 = cc (one_head f F n _ _ p.2 q.2) in
        one_pair ps q.1 x y (subst (λ ms. IsFirstFormlessOf f F ms ps x) is p.3) q.3

    one_member : (vs : Values) (ms : List ℕ) (x y : ℕ) → IsFirstFormless f F ms vs x → IsFirstFormless f F ms vs y → x ≡ y
    one_member (value v vs) (m ∷ ms) x y p q = one_of _ _ _ _ _ (value_text v) (one_formless v m x y) (one_member vs ms x y) p q
    one_member no_values (m ∷ ms) x y p q = absurd p
    one_member _ _ _ _ p _ = absurd p

    one_pair : (ps : Pairs) (ms : List ℕ) (x y : ℕ) → IsFirstFormlessOf f F ms ps x → IsFirstFormlessOf f F ms ps y → x ≡ y
    one_pair (pair u v ps) (m ∷ ms) x y p q = one_of _ _ _ _ _ (value_text v) (one_formless v m x y) (one_pair ps ms x y) p q
    one_pair no_pairs (m ∷ ms) x y p q = absurd p
    one_pair _ _ _ _ p _ = absurd p

  mutual
    -- if a held value has no text, there is such an object
    pub some_formless : (v : Value) (n : ℕ) → Holds f F n v → value_text v ≡ None → (x : ℕ) × IsFormless f F n v x
    some_formless (leaf l) n h e = (n, (e, refl))
    some_formless (array vs) n h e = let r = some_member vs h.0 h.2 (map_none _ _ e) in (r.0, (h.0, h.1, r.1))
    some_formless (set vs) n h e = (n, (e, refl))
    some_formless (dict ps) n h e = let r = some_pair ps h.0 h.1 h.3 (map_none _ _ e) in (r.0, (h.0, h.1, h.2, r.1))

    some_member : (vs : Values) (ms : List ℕ) → HoldEach f F ms vs → members_text vs ≡ None → (x : ℕ) × IsFirstFormless f F ms vs x
    some_member no_values ms h e = cc
    some_member (value v vs) [] h e = absurd h
    some_member (value v vs) (m ∷ ms) h e =
        first_none (IsFormless f F m v) (IsFirstFormless f F ms vs) (λ t r. t ++ (comma vs ++ r)) (value_text v) (members_text vs)
        (some_formless v m h.0) (some_member vs ms h.1) e

    some_pair : (ps : Pairs) (ks ms : List ℕ) → HoldPairs f F ks ms ps → pairs_text ps ≡ None → (x : ℕ) × IsFirstFormlessOf f F ms ps x
    some_pair no_pairs ks ms h e = cc
    some_pair (pair u v ps) (k ∷ ks) (m ∷ ms) h e =
        first_none (IsFormless f F m v) (IsFirstFormlessOf f F ms ps) (pair_text u) (value_text v) (pairs_text ps) (some_formless v m h.1) (some_pair ps ks ms h.2) e
    some_pair ps ks ms h e = absurd (let c = pair_counts f F ks ms ps h in omega (arith, c.0, c.1))
