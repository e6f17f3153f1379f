-- The reference that is taken for a step.
use Rattle.std.proofs.Common.{arith, ◌≡◌, ◌≢◌, ◌<◌, ℕ, ◌+◌, ◌*◌, List, length, slice_index, Option, Some, None, refl, sym, ap, ◌∙◌, subst}
use Rattle.std.specs.Fmt.{decimal}
use Rattle.bplist_objects.specs.declared.frame.Frame.{Frame}
use Rattle.bplist_objects.specs.Value.{Value, dict, keys}
use Rattle.bplist_objects.specs.Numbers.{nums_at}
use Rattle.bplist_objects.specs.Heads as H
use Rattle.bplist_objects.specs.Heads.{Spells}
use Rattle.bplist_objects.specs.Holds.{Holds}
use Rattle.bplist_cursor.specs.Leads.{IsTaken, HasTextKeys, why_of}
use Rattle.bplist_objects.proofs.References.{length-nums_at}
use Rattle.bplist_objects.specs.declared.head.Head.{Head}
use Rattle.bplist_cursor.specs.KeySearch.{halvings_of}
use Rattle.bplist_cursor.proofs.BinaryDigits.{digits_2}
use Rattle.bplist_objects.specs.declared.head.Kind.{Kind}
use Rattle.bplist_objects.specs.declared.head.Kind.TheVariants as kinds
use Rattle.bplist_cursor.specs.Steps.{SpellTexts, IsKeyIndex, IsRefIndex}
use Rattle.bplist_cursor.specs.declared.node.Why.TheVariants as why
use Rattle.bplist_cursor.specs.declared.steps.RefIndex.TheVariants as ref_index
use Rattle.bplist_cursor.proofs.Counts.{by_keys, keys_counted}
use Rattle.bplist_cursor.proofs.Keys.{value_ref}

-- this many comparisons are enough for a step at this value
abbrev pub halvings_here : Value → ℕ
halvings_here v = elim v [ dict ps ↦ digits_2 (length (keys ps)) | _ ↦ 0 ]

module _ (f : List ℕ) (F : Frame) where
  abbrev keys_at : Head → List ℕ
  keys_at head = nums_at f head.body F.ref_size head.count

  abbrev values_at : Head → List ℕ
  values_at head = nums_at f (head.body + head.count * F.ref_size) F.ref_size head.count

  content_is : (kind : Kind) (h : H.Content) (head : Head) → head.kind ≡ kind → h ≡ H.content_at f F head → H.content_of f F kind head.count head.body ≡ h
  content_is kind h head d e = sym (e ∙ ap (λ k. H.content_of f F k head.count head.body) d)

  -- the keys and values of a dictionary with this head
  pub dict_keys : (h : H.Content) (head : Head) → head.kind ≡ kinds.Dict → h ≡ H.content_at f F head → (n : ℕ) → Spells f F n h → HasTextKeys f F h
      → (ks ms : List ℕ) × Spells f F n (H.Content.dict ks ms) × (H.Content.dict ks ms ≡ H.content_at f F head) × SpellTexts f F ks
  dict_keys h head d e n s t =
      let w = content_is kinds.Dict h head d e in
      (keys_at head, values_at head, subst (Spells f F n) (sym w) s, w ∙ e, λ i l. (subst (HasTextKeys f F) (sym w) t i l).1)

  abbrev KeyAnswer : Head → ℕ → List ℕ → Option ℕ → Type 0
  KeyAnswer head n s o = (ks ms : List ℕ) → Spells f F n (H.Content.dict ks ms) → H.Content.dict ks ms ≡ H.content_at f F head → SpellTexts f F ks → IsKeyIndex f F ks s o

  pub dict_place : (h : H.Content) (head : Head) (i : ℕ) (s : List ℕ) → head.kind ≡ kinds.Dict → h ≡ H.content_at f F head → (n : ℕ) → Spells f F n h → HasTextKeys f F h
      → KeyAnswer head n s (Some i) → IsRefIndex f F h s (ref_index.Of (head.count + i))
  dict_place h head i s d e n sp t key =
      let w = content_is kinds.Dict h head d e in
      let p = key (keys_at head) (values_at head) (subst (Spells f F n) (sym w) sp) (w ∙ e) (λ i l. (subst (HasTextKeys f F) (sym w) t i l).1) in
      subst (λ x. IsTaken f F x s (slice_index (H.refs x) (head.count + i))) w
      (i, p.0, p.1, sym (value_ref (keys_at head) (values_at head) head.count i (length-nums_at f head.body F.ref_size head.count)))

  pub no_key : (h : H.Content) (head : Head) (s : List ℕ) → head.kind ≡ kinds.Dict → h ≡ H.content_at f F head → (n : ℕ) → Spells f F n h → HasTextKeys f F h
      → KeyAnswer head n s None → IsRefIndex f F h s (ref_index.Nowhere why.NoKey)
  no_key h head s d e n sp t key =
      let w = content_is kinds.Dict h head d e in
      let p = key (keys_at head) (values_at head) (subst (Spells f F n) (sym w) sp) (w ∙ e) (λ i l. (subst (HasTextKeys f F) (sym w) t i l).1) in
      subst (λ x. ((m : ℕ) → IsTaken f F x s m → ⊥) × (why.NoKey ≡ why_of x)) w (λ m q. p q.0 q.1 q.2, refl)

  pub array_place : (h : H.Content) (head : Head) (i : ℕ) (s : List ℕ) → head.kind ≡ kinds.Array → h ≡ H.content_at f F head → i < head.count → decimal i ≡ s → IsRefIndex f F h s (ref_index.Of i)
  array_place h head i s d e l q =
      let n = length-nums_at f head.body F.ref_size head.count in
      subst (λ x. IsTaken f F x s (slice_index (H.refs x) i)) (content_is kinds.Array h head d e) (i, omega (arith, n, l), q, refl)

  pub no_index : (h : H.Content) (head : Head) (s : List ℕ) → head.kind ≡ kinds.Array → h ≡ H.content_at f F head → ((i : ℕ) → i < head.count → decimal i ≢ s) → IsRefIndex f F h s (ref_index.Nowhere why.NoIndex)
  no_index h head s d e none =
      let n = length-nums_at f head.body F.ref_size head.count in
      subst (λ x. ((m : ℕ) → IsTaken f F x s m → ⊥) × (why.NoIndex ≡ why_of x)) (content_is kinds.Array h head d e) (λ m q. none q.0 (omega (arith, n, q.1)) q.2, refl)

  -- the bound on comparisons is the same for the value and for the head
  pub same_halvings : (v : Value) (n : ℕ) (head : Head) → Holds f F n v → ((content : H.Content) → Spells f F n content → content ≡ H.content_at f F head) → halvings_of head.kind head.count ≡ halvings_here v
  same_halvings v n head o e = of_kind head.kind head.count head.body ∙ keys_counted f F digits_2 v n head o e
    where
      of_kind : (kind : Kind) (c at : ℕ) → halvings_of kind c ≡ by_keys digits_2 (H.content_of f F kind c at)
      of_kind kinds.Dict c at = ap digits_2 (sym (length-nums_at f at F.ref_size c))
      of_kind _ c at = refl
