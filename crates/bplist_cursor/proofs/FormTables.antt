-- If a table gives each object the form that its references' forms make, it has the forms of the values.
use Rattle.std.proofs.Common.{◌≡◌, ℕ, List, [], ◌∷◌, ◌++◌, Option, Some, None, refl, ap, ◌∙◌, arith, length}
use Rattle.std.specs.Prelude.{option_map, option_and_then}
use Rattle.std.specs.List.{AllByRecursion}
use Rattle.std.proofs.lemmas.List.{length-append}
use Rattle.bplist_objects.specs.declared.frame.Frame.{Frame}
use Rattle.bplist_objects.specs.Value.{text, Value, leaf, array, set, dict, Values, no_values, value, Pairs, no_pairs, pair}
use Rattle.bplist_objects.specs.Heads.{Content, Spells, refs}
use Rattle.bplist_objects.specs.Holds.{Holds, HoldEach, HoldPairs}
use Rattle.bplist_objects.proofs.ObjectValues.{OneHead}
use Rattle.bplist_objects.proofs.Lists.{all_front, all_behind}
use Rattle.bplist_cursor.specs.declared.sizes.Form.{Form}
use Rattle.bplist_cursor.specs.declared.sizes.Form.TheVariants.{Length}
use Rattle.bplist_cursor.proofs.Counts.{pair_counts}
use Rattle.bplist_cursor.specs.Nodes.{cap}
use Rattle.bplist_cursor.specs.Texts.{text_of_units}
use Rattle.bplist_cursor.specs.OldStyle.{comma, value_text, members_text, pairs_text}
use Rattle.bplist_cursor.specs.Forms.{form_of_text, form_of, joined, form_at, comma_length, members_form, pairs_form, content_form, Formed}

-- a text between two bytes
enclosed : (front back : ℕ) (o : Option (List ℕ)) → joined (Length 2) (form_of_text o) ≡ form_of_text (option_map (λ t. front ∷ (t ++ back ∷ [])) o)
enclosed front back None = refl
enclosed front back (Some t) = ap Length (omega (arith, length-append t (back ∷ [])))

-- a text, some bytes and a text
two_texts : (o p : Option (List ℕ)) (mid : List ℕ) (n : ℕ) → length mid ≡ n
    → joined (form_of_text o) (joined (Length n) (form_of_text p)) ≡ form_of_text (option_and_then (λ t. option_map (λ r. t ++ (mid ++ r)) p) o)
two_texts None p mid n e = refl
two_texts (Some t) None mid n e = refl
two_texts (Some t) (Some r) mid n e = ap Length (omega (arith, e, length-append t (mid ++ r), length-append mid r))

-- a key's text, `=`, a text, `;` and a text
key_texts : (o p : Option (List ℕ)) (key : List ℕ) → joined (Length (cap (length key))) (joined (form_of_text o) (joined (Length 2) (form_of_text p)))
    ≡ form_of_text (option_and_then (λ t. option_map (λ r. key ++ (0x3D ∷ (t ++ (0x3B ∷ r)))) p) o)
key_texts None p key = refl
key_texts (Some t) None key = refl
key_texts (Some t) (Some r) key = ap Length (omega (arith, length-append key (0x3D ∷ (t ++ (0x3B ∷ r))), length-append t (0x3B ∷ r)))

comma_long : (f : List ℕ) (F : Frame) (vs : Values) (ms : List ℕ) → HoldEach f F ms vs → length (comma vs) ≡ comma_length ms
comma_long f F no_values [] h = refl
comma_long f F (value v vs) (m ∷ ms) h = refl
comma_long _ _ _ _ h = absurd h

module _ (f : List ℕ) (F : Frame) (one : OneHead f F) (T : List Form) (S : ℕ → Type 0) (each : (n : ℕ) → S n → Formed f F T n)
    (closed : (n : ℕ) (c : Content) → S n → Spells f F n c → AllByRecursion S (refs c)) where
  -- what is known at an object with this content
  at_content : (n : ℕ) (c : Content) → S n → Spells f F n c → (form_at T n ≡ content_form T c) × AllByRecursion S (refs c)
  at_content n c s spelled =
      let m = each n s in
      (m.2 ∙ ap (content_form T) (one n m.0 c m.1 spelled), closed n c s spelled)

  mutual
    pub forms_at : (v : Value) (n : ℕ) → S n → Holds f F n v → form_at T n ≡ form_of v
    forms_at (leaf l) n s h = (at_content n (Content.leaf l) s h).0
    forms_at (array vs) n s h =
        let a = at_content n _ s h.1 in
        a.0 ∙ ap (joined (Length 2)) (members_at vs h.0 a.1 h.2) ∙ enclosed 0x28 0x29 (members_text vs)
    forms_at (set vs) n s h = (at_content n _ s h.1).0
    forms_at (dict ps) n s h =
        let a = at_content n _ s h.2 in
        a.0 ∙ ap (joined (Length 2)) (pairs_at ps h.0 h.1 (all_front S h.0 h.1 a.1) (all_behind S h.0 h.1 a.1) h.3) ∙ enclosed 0x7B 0x7D (pairs_text ps)

    members_at : (vs : Values) (ms : List ℕ) → AllByRecursion S ms → HoldEach f F ms vs → members_form T ms ≡ form_of_text (members_text vs)
    members_at no_values [] s h = refl
    members_at (value v vs) (m ∷ ms) s h =
        ap (λ a. joined a (joined (Length (comma_length ms)) (members_form T ms))) (forms_at v m s.0 h.0)
        ∙ ap (λ a. joined (form_of v) (joined (Length (comma_length ms)) a)) (members_at vs ms s.1 h.1)
        ∙ two_texts (value_text v) (members_text vs) (comma vs) (comma_length ms) (comma_long f F vs ms h.1)
    members_at _ _ _ h = absurd h

    pairs_at : (ps : Pairs) (ks ms : List ℕ) → AllByRecursion S ks → AllByRecursion S ms → HoldPairs f F ks ms ps → pairs_form T ks ms ≡ form_of_text (pairs_text ps)
    pairs_at no_pairs [] [] s t h = refl
    pairs_at (pair u v ps) (k ∷ ks) (m ∷ ms) s t h =
        let key = (at_content k (Content.leaf (text u)) s.0 h.0).0 in
        ap (λ a. joined a (joined (form_at T m) (joined (Length 2) (pairs_form T ks ms)))) key
        ∙ ap (λ a. joined (Length (cap (length (text_of_units u)))) (joined a (joined (Length 2) (pairs_form T ks ms)))) (forms_at v m t.0 h.1)
        ∙ ap (λ a. joined (Length (cap (length (text_of_units u)))) (joined (form_of v) (joined (Length 2) a))) (pairs_at ps ks ms s.1 t.1 h.2)
        ∙ key_texts (value_text v) (pairs_text ps) (text_of_units u)
    pairs_at ps ks ms s t h = absurd (let c = pair_counts f F ks ms ps h in omega (arith, c.0, c.1))
