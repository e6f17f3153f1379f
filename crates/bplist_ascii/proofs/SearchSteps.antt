-- The search for the first object without a form, step by step.
use Rattle.std.proofs.Common.{◌≡◌, ◌<◌, ◌+◌, inl, inr, ℕ, zero, suc, List, [], ◌∷◌, ◌++◌, arith, length, slice_index, slice_get, refl, sym, ap, ◌∙◌, subst, IsTrue, Option, Some, None}
use Rattle.std.proofs.Props.{props}
use Rattle.std.specs.Prelude.{option_map, option_and_then, MatchOption}
use Rattle.std.specs.List.{AllByRecursion}
use Rattle.std.proofs.Math.Logic.{∥∥₁_elim}
use Rattle.std.proofs.lemmas.Bool.{cases_lt}
use Rattle.bplist_objects.specs.declared.frame.Frame.{Frame}
use Rattle.bplist_objects.specs.declared.head.Head.{Head}
use Rattle.bplist_objects.specs.declared.head.Kind.{Kind}
use Rattle.bplist_objects.specs.declared.head.Kind.TheVariants as kinds
use Rattle.bplist_objects.specs.Value.{Value, leaf, array, set, dict, Values, no_values, value, Pairs, no_pairs, pair, text}
use Rattle.bplist_objects.specs.Heads.{Content, Spells, content_of, content_at, refs}
use Rattle.bplist_objects.specs.Holds.{Holds}
use Rattle.bplist_cert.specs.CheckedFile.{CheckedFile, IsChecked}
use Rattle.bplist_cert.specs.Valid.{IsVouchedBy}
use Rattle.bplist_cursor.specs.declared.node.Node.{Node}
use Rattle.bplist_cursor.specs.declared.sizes.Form.TheVariants.{NoForm, Length}
use Rattle.bplist_cursor.specs.Nodes.{cap}
use Rattle.bplist_cursor.specs.Texts.{text_of_units}
use Rattle.bplist_cursor.specs.OldStyle.{comma, value_text, members_text, pairs_text}
use Rattle.bplist_cursor.specs.Forms.{form_of_text}
use Rattle.bplist_cursor.specs.Formless.{IsFormless, IsFirstFormless, IsFirstFormlessOf}
use Rattle.bplist_cursor.specs.Found.{IsHeld}
use Rattle.bplist_cursor.specs.Members.{HoldsMember, member_of, member_reference, named, node_of, members}
use Rattle.bplist_cursor.proofs.Membership.{in_turn, held_members}
use Rattle.bplist_ascii.specs.Walks.{IsContainer, IsOfKind}
use Rattle.bplist_ascii.specs.FormlessSearch.{HaveForms, HasSameFormless}
use Rattle.bplist_ascii.proofs.WalkSteps.{IsMember, held_some, held_none}

-- a form says whether there is a text
pub no_text_of : (o : Option (List ℕ)) → form_of_text o ≡ NoForm → o ≡ None
no_text_of None e = refl
no_text_of (Some t) e = cc e

pub text_of_length : (o : Option (List ℕ)) (k : ℕ) → form_of_text o ≡ Length k → (t : List ℕ) × (o ≡ Some t) × (k ≡ cap (length t))
text_of_length None k e = cc e
text_of_length (Some t) k e = (t, refl, cc e)

-- if all members have texts, so does the container

no_map : (k : List ℕ → List ℕ) (o : Option (List ℕ)) → option_map k o ≡ None → o ≡ None
no_map k None e = refl
no_map k (Some x) e = cc e

both_texts : (o rest : Option (List ℕ)) (k : List ℕ → List ℕ → List ℕ) → (o ≡ None → ⊥) → (rest ≡ None → ⊥) → option_and_then (λ t. option_map (k t) rest) o ≡ None → ⊥
both_texts None rest k a b e = a refl
both_texts (Some t) None k a b e = b refl
both_texts (Some t) (Some r) k a b e = cc e

members_have : (i : ℕ) (vs : Values) → slice_get (members vs) i ≡ None → ((j : ℕ) → j < i → (w : Value) → slice_get (members vs) j ≡ Some w → value_text w ≡ None → ⊥) → members_text vs ≡ None → ⊥
members_have i no_values end texts e = cc e
members_have zero (value v vs) end texts e = cc end
members_have (suc i) (value v vs) end texts e =
    both_texts (value_text v) (members_text vs) (λ t r. t ++ (comma vs ++ r)) (texts 0 (omega arith) v refl)
    (members_have i vs end (λ j l. texts (suc j) (omega (arith, l)))) e

pairs_have : (i : ℕ) (ps : Pairs) → slice_get (in_turn ps) i ≡ None → ((j : ℕ) → j < i → (w : Value) → slice_get (in_turn ps) j ≡ Some w → value_text w ≡ None → ⊥) → pairs_text ps ≡ None → ⊥
pairs_have i no_pairs end texts e = cc e
pairs_have zero (pair u v ps) end texts e = cc end
pairs_have (suc zero) (pair u v ps) end texts e = cc end
pairs_have (suc (suc i)) (pair u v ps) end texts e =
    both_texts (value_text v) (pairs_text ps) (λ t r. text_of_units u ++ (0x3D ∷ (t ++ (0x3B ∷ r)))) (texts 1 (omega arith) v refl)
    (pairs_have i ps end (λ j l. texts (suc (suc j)) (omega (arith, l)))) e

all_have : (k : Kind) (v : Value) (i : ℕ) → IsOfKind k v → member_of v i ≡ None → HaveForms v i → value_text v ≡ None → ⊥
all_have kinds.Array (array vs) i o end texts e = members_have i vs end texts (no_map (λ t. 0x28 ∷ (t ++ 0x29 ∷ [])) (members_text vs) e)
all_have kinds.Dict (dict ps) i o end texts e = pairs_have i ps end texts (no_map (λ t. 0x7B ∷ (t ++ 0x7D ∷ [])) (pairs_text ps) e)
all_have _ _ i o end texts e = absurd o

-- a key has a text
key_has : (u : List ℕ) (w : Value) → Some (leaf (text u)) ≡ Some w → value_text w ≡ None → ⊥
key_has u w is e =
    let same : leaf (text u) ≡ w = cc is in
    let none : Some (text_of_units u) ≡ None = ap value_text same ∙ e in
    cc none

pub texts_more : (v : Value) (i : ℕ) → HaveForms v i → ((w : Value) → member_of v i ≡ Some w → value_text w ≡ None → ⊥) → HaveForms v (i + 1)
texts_more v i texts here j l w is e = elim (cases_lt j i) [
  | inl below ↦ texts j below w is e
  | inr above ↦ here w (ap (member_of v) (omega (arith, above, l)) ∙ is) e
]

module _ (f : List ℕ) (F : Frame) where
  -- what an object holds whose kind is a container's
  pub of_kind : (kind : Kind) (count body n : ℕ) (v : Value) → IsContainer kind → ((c : Content) → Spells f F n c → c ≡ content_of f F kind count body) → Holds f F n v → IsOfKind kind v
  of_kind kinds.Array count body n (array vs) o m h = tt
  of_kind kinds.Array count body n (leaf l) o m h = let e = m (Content.leaf l) h in cc e
  of_kind kinds.Array count body n (set vs) o m h = let e = m (Content.set h.0) h.1 in cc e
  of_kind kinds.Array count body n (dict ps) o m h = let e = m (Content.dict h.0 h.1) h.2 in cc e
  of_kind kinds.Dict count body n (dict ps) o m h = tt
  of_kind kinds.Dict count body n (leaf l) o m h = let e = m (Content.leaf l) h in cc e
  of_kind kinds.Dict count body n (array vs) o m h = let e = m (Content.array h.0) h.1 in cc e
  of_kind kinds.Dict count body n (set vs) o m h = let e = m (Content.set h.0) h.1 in cc e
  of_kind _ count body n v o m h = absurd o

  -- an object of any other kind is itself the first without a form
  pub own_kind : (kind : Kind) (count body n : ℕ) (v : Value) → (kind ≡ kinds.Array → ⊥) → (kind ≡ kinds.Dict → ⊥) → ((c : Content) → Spells f F n c → c ≡ content_of f F kind count body)
      → Holds f F n v → value_text v ≡ None → IsFormless f F n v n
  own_kind kind count body n (leaf l) a d m h e = (e, refl)
  own_kind kind count body n (set vs) a d m h e = (e, refl)
  own_kind kind count body n (array vs) a d m h e = absurd (a (array_kind kind (m (Content.array h.0) h.1)))
    where
      array_kind : (k : Kind) → Content.array h.0 ≡ content_of f F k count body → k ≡ kinds.Array
      array_kind kinds.Array e = refl
      array_kind _ e = cc e
  own_kind kind count body n (dict ps) a d m h e = absurd (d (dict_kind kind (m (Content.dict h.0 h.1) h.2)))
    where
      dict_kind : (k : Kind) → Content.dict h.0 h.1 ≡ content_of f F k count body → k ≡ kinds.Dict
      dict_kind kinds.Dict e = refl
      dict_kind _ e = cc e

  match_some : (A : Type 0) {B : Type 0} (o : Option (List ℕ)) → (o ≡ None → ⊥) → B → MatchOption o A (λ t. B)
  match_some A None some b = absurd (some refl)
  match_some A (Some t) some b = b

  match_none : {A : Type 0} (B : List ℕ → Type 0) (o : Option (List ℕ)) → o ≡ None → A → MatchOption o A B
  match_none B None e a = a
  match_none B (Some t) e a = cc e

  at_member : (m : ℕ) (node : Node) (v w : Value) (x : ℕ) → Some node ≡ Some (node_of m) → Some v ≡ Some w → IsFormless f F node.object.0 w x → IsFormless f F m v x
  at_member m node v w x e is h =
      let there : node ≡ node_of m = cc e in
      let same : w ≡ v = cc is in
      subst (λ (y : Node). IsFormless f F y.object.0 v x) there (subst (λ y. IsFormless f F node.object.0 y x) same h)

  -- the first member without a text is the first of these
  first_of_each : (i : ℕ) (ms : List ℕ) (vs : Values) (node : Node) (w : Value) → Some node ≡ named (slice_get ms i) → slice_get (members vs) i ≡ Some w
      → ((j : ℕ) → j < i → (y : Value) → slice_get (members vs) j ≡ Some y → value_text y ≡ None → ⊥) → value_text w ≡ None → (x : ℕ) → IsFormless f F node.object.0 w x → IsFirstFormless f F ms vs x
  first_of_each i [] vs node w e is texts none x h = cc e
  first_of_each i (m ∷ ms) no_values node w e is texts none x h = cc is
  first_of_each zero (m ∷ ms) (value v vs) node w e is texts none x h =
      let same : v ≡ w = cc is in
      match_none _ (value_text v) (ap value_text same ∙ none) (at_member m node v w x e is h)
  first_of_each (suc i) (m ∷ ms) (value v vs) node w e is texts none x h =
      match_some _ (value_text v) (texts 0 (omega arith) v refl) (first_of_each i ms vs node w e is (λ j l. texts (suc j) (omega (arith, l))) none x h)

  first_of_pairs : (i : ℕ) (ks ms : List ℕ) (ps : Pairs) (node : Node) (w : Value) → Some node ≡ named (member_reference (Content.dict ks ms) i) → slice_get (in_turn ps) i ≡ Some w
      → ((j : ℕ) → j < i → (y : Value) → slice_get (in_turn ps) j ≡ Some y → value_text y ≡ None → ⊥) → value_text w ≡ None → (x : ℕ) → IsFormless f F node.object.0 w x → IsFirstFormlessOf f F ms ps x
  first_of_pairs i [] ms ps node w e is texts none x h = cc e
  first_of_pairs i (k ∷ ks) [] ps node w e is texts none x h = cc e
  first_of_pairs i (k ∷ ks) (m ∷ ms) no_pairs node w e is texts none x h = cc is
  first_of_pairs zero (k ∷ ks) (m ∷ ms) (pair u v ps) node w e is texts none x h = absurd (key_has u w is none)
  first_of_pairs (suc zero) (k ∷ ks) (m ∷ ms) (pair u v ps) node w e is texts none x h =
      let same : v ≡ w = cc is in
      match_none _ (value_text v) (ap value_text same ∙ none) (at_member m node v w x e is h)
  first_of_pairs (suc (suc i)) (k ∷ ks) (m ∷ ms) (pair u v ps) node w e is texts none x h =
      match_some _ (value_text v) (texts 1 (omega arith) v refl) (first_of_pairs i ks ms ps node w e is (λ j l. texts (suc (suc j)) (omega (arith, l))) none x h)

  first_of_value : (k : Kind) (n : ℕ) (v : Value) (i : ℕ) (node : Node) (w : Value) → IsOfKind k v → Holds f F n v → ((c : Content) → Spells f F n c → Some node ≡ named (member_reference c i))
      → member_of v i ≡ Some w → HaveForms v i → value_text w ≡ None → (x : ℕ) → IsFormless f F node.object.0 w x → IsFormless f F n v x
  first_of_value kinds.Array n (array vs) i node w o h e is texts none x p = (h.0, h.1, first_of_each i h.0 vs node w (e (Content.array h.0) h.1) is texts none x p)
  first_of_value kinds.Dict n (dict ps) i node w o h e is texts none x p = (h.0, h.1, h.2, first_of_pairs i h.0 h.1 ps node w (e (Content.dict h.0 h.1) h.2) is texts none x p)
  first_of_value _ n _ i node w o h e is texts none x p = absurd o

-- what holds for all references holds for each member

all_of : (P : ℕ → Type 0) (ms : List ℕ) (i : ℕ) (node : Node) → AllByRecursion P ms → Some node ≡ named (slice_get ms i) → P node.object.0
all_of P [] i node a e = cc e
all_of P (m ∷ ms) zero node a e = let there : node_of m ≡ node = cc e in subst (λ (y : Node). P y.object.0) there a.0
all_of P (m ∷ ms) (suc i) node a e = all_of P ms i node a.1 e

all_in_turn : (P : ℕ → Type 0) (ks ms : List ℕ) (i : ℕ) (node : Node) → AllByRecursion P ks → AllByRecursion P ms → Some node ≡ named (member_reference (Content.dict ks ms) i) → P node.object.0
all_in_turn P [] ms i node a b e = cc e
all_in_turn P (k ∷ ks) [] i node a b e = cc e
all_in_turn P (k ∷ ks) (m ∷ ms) zero node a b e = let there : node_of k ≡ node = cc e in subst (λ (y : Node). P y.object.0) there a.0
all_in_turn P (k ∷ ks) (m ∷ ms) (suc zero) node a b e = let there : node_of m ≡ node = cc e in subst (λ (y : Node). P y.object.0) there b.0
all_in_turn P (k ∷ ks) (m ∷ ms) (suc (suc i)) node a b e = all_in_turn P ks ms i node a.1 b.1 e

all_parts : (P : ℕ → Type 0) (ks ms : List ℕ) → AllByRecursion P (ks ++ ms) → AllByRecursion P ks × AllByRecursion P ms
all_parts P [] ms a = (tt, a)
all_parts P (k ∷ ks) ms a = let r = all_parts P ks ms a.1 in ((a.0, r.0), r.1)

all_members : (P : ℕ → Type 0) (c : Content) (i : ℕ) (node : Node) → AllByRecursion P (refs c) → Some node ≡ named (member_reference c i) → P node.object.0
all_members P (Content.leaf l) i node a e = cc e
all_members P (Content.array ms) i node a e = all_of P ms i node a e
all_members P (Content.set ms) i node a e = all_of P ms i node a e
all_members P (Content.dict ks ms) i node a e = let r = all_parts P ks ms a in all_in_turn P ks ms i node r.0 r.1 e

module _ (checked : CheckedFile) (head : Head) (n : ℕ) (v : Value) (held : IsHeld checked n v)
    (shown : (c : Content) → Spells checked.source.octets checked.frame n c → c ≡ content_at checked.source.octets checked.frame head) (container : IsContainer head.kind) where
  kind_is : IsOfKind head.kind v
  kind_is = of_kind checked.source.octets checked.frame head.kind head.count head.body n v container shown held.1

  member_is : (i : ℕ) (member : Option Node) → IsMember checked head i member → HoldsMember checked.source.octets checked.frame (member_of v i) member
  member_is i member is =
      let m = held_members checked.source.octets checked.frame v n held.1 in
      subst (HoldsMember checked.source.octets checked.frame (member_of v i)) (sym (is n held.0 m.0 m.1 (shown m.0 m.1))) (m.2 i)

  -- a member that has a text, if the object that holds it does not lack one
  pub has_text : (i : ℕ) (node : Node) → IsMember checked head i (Some node) → ((w : Value) → Holds checked.source.octets checked.frame node.object.0 w → value_text w ≡ None → ⊥)
      → (w : Value) → member_of v i ≡ Some w → value_text w ≡ None → ⊥
  has_text i node is has w e none =
      let h = held_some checked.source.octets checked.frame (member_of v i) node (member_is i (Some node) is) in
      let same : h.0 ≡ w = let both = sym h.1 ∙ e in cc both in
      has h.0 h.2 (ap value_text same ∙ none)

  -- if there is no further member, all have texts
  pub not_all : (i : ℕ) → IsMember checked head i None → HaveForms v i → value_text v ≡ None → ⊥
  not_all i is texts none = all_have head.kind v i kind_is (held_none checked.source.octets checked.frame (member_of v i) (member_is i None is)) texts none

  -- the first member without a text
  pub leads : IsChecked checked → IsTrue checked.source.honest → (i : ℕ) (node : Node) → IsMember checked head i (Some node) → IsVouchedBy checked.certificate.heights node.object.0 → HaveForms v i
      → ((w : Value) → Holds checked.source.octets checked.frame node.object.0 w → value_text w ≡ None)
      → HasSameFormless checked n v node.object.0 × (slice_index checked.certificate.heights node.object.0 < slice_index checked.certificate.heights n)
  leads is honest i node member vouched texts lacks =
      let f = checked.source.octets in
      let F = checked.frame in
      let heights = checked.certificate.heights in
      let h = held_some f F (member_of v i) node (member_is i (Some node) member) in
      let none = lacks h.0 h.2 in
      let lower : slice_index heights node.object.0 < slice_index heights n = ∥∥₁_elim (is.accepted honest) (hlevel props) (λ a.
      let own = a.valid.vouched n held.0 in
      (all_members (λ m. IsVouchedBy heights m × (slice_index heights m < slice_index heights n)) own.content i node own.lower
      (member n held.0 own.content own.spells (shown own.content own.spells))).1) in (
        record {
          value = h.0;
          held = (vouched, h.2);
          none = none;
          on = first_of_value f F head.kind n v i node h.0 kind_is held.1 (λ c s. member n held.0 c s (shown c s)) h.1 texts none;
        },
        lower,
      )

-- the search can go on from here
pub leads_further : (checked : CheckedFile) (n : ℕ) (v : Value) (m k : ℕ) → (a : HasSameFormless checked n v m) → HasSameFormless checked m a.value k → HasSameFormless checked n v k
leads_further checked n v m k a b = record { value = b.value; held = b.held; none = b.none; on = λ x i. a.on x (b.on x i) }

pub leads_none : {X A : Type 0} (B : X → Type 0) (o : Option X) → ((x : X) → o ≡ Some x → ⊥) → MatchOption o A B → A
leads_none B None none m = m
leads_none B (Some x) none m = absurd (none x refl)
