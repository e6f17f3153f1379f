-- The size of an object's value, by its head.
use Rattle.std.proofs.Common.{◌≡◌, ℕ, ◌+◌, ◌*◌, ◌≤◌, List, [], ◌∷◌, ◌++◌, length, Some, ◌⊎◌, inl, inr, refl, sym, ap, ap₂, ◌∙◌, arith}
use Rattle.std.specs.List.{AllByRecursion}
use Rattle.std.proofs.lemmas.List.{length-append}
use Rattle.bplist_octets.specs.Octets.{part}
use Rattle.bplist_objects.specs.declared.frame.Frame.{Frame}
use Rattle.bplist_objects.specs.declared.head.Kind.{Kind}
use Rattle.bplist_objects.specs.declared.head.Kind.TheVariants as kinds
use Rattle.bplist_objects.specs.Value.{Leaf, bytes, Value, leaf, array, set, dict, Values, Pairs}
use Rattle.bplist_objects.specs.Numbers.{nums_at}
use Rattle.bplist_objects.specs.Heads.{Content, Spells, refs, content_of}
use Rattle.bplist_objects.specs.Holds.{Holds, HoldEach, HoldPairs}
use Rattle.bplist_objects.proofs.References.{length-nums_at}
use Rattle.bplist_objects.proofs.Units.{length-part}
use Rattle.bplist_cursor.specs.declared.sizes.Form.{Form}
use Rattle.bplist_cursor.specs.declared.sizes.Form.TheVariants.{Length}
use Rattle.hex.specs.Hex.{encode_lower, lower_digits}
use Rattle.hex.proofs.HexLemmas.{length-encode_with}
use Rattle.bplist_cursor.specs.Nodes.{cap}
use Rattle.bplist_cursor.specs.OldStyle.{leaf_text}
use Rattle.bplist_cursor.specs.Forms.{form_of_text}
use Rattle.bplist_cursor.specs.Sizes.{Table, size_of, added, IsSized}
use Rattle.bplist_cursor.specs.ObjectSizes.{punctuation_of}
use Rattle.bplist_cursor.proofs.SizeSteps.{added_members, added_pairs, array_size, set_size, dict_size}

module _ (f : List ℕ) (F : Frame) where
  -- the form of data
  pub bytes_form : (k : Kind) (c at n : ℕ) (l : Leaf) → k ≡ kinds.Bytes → at + c ≤ length f → Content.leaf l ≡ content_of f F k c at → n ≡ cap (2 * c + 2)
      → Length n ≡ form_of_text (leaf_text l)
  bytes_form kinds.Bytes c at n l k within e is =
      let same : bytes (part f at c) ≡ l = cc e in
      let long = length-part f at c within in
      ap Length (omega (arith, is, long, length-encode_with lower_digits (part f at c), length-append (encode_lower (part f at c)) (0x3E ∷ [])))
      ∙ ap (λ x. form_of_text (leaf_text x)) same
  bytes_form _ c at n l k within e is = cc k

  -- a container
  abbrev pub IsContainer : Kind → Type 0
  IsContainer k = (k ≡ kinds.Array) ⊎ (k ≡ kinds.Set) ⊎ (k ≡ kinds.Dict)

  no_leaf : (k : Kind) (c at : ℕ) (l : Leaf) → IsContainer k → Content.leaf l ≡ content_of f F k c at → ⊥
  no_leaf k c at l (inl e) is = let no : Content.leaf l ≡ content_of f F kinds.Array c at = is ∙ ap (λ x. content_of f F x c at) e in cc no
  no_leaf k c at l (inr (inl e)) is = let no : Content.leaf l ≡ content_of f F kinds.Set c at = is ∙ ap (λ x. content_of f F x c at) e in cc no
  no_leaf k c at l (inr (inr e)) is = let no : Content.leaf l ≡ content_of f F kinds.Dict c at = is ∙ ap (λ x. content_of f F x c at) e in cc no

  -- any other kind is that of a leaf
  leaf_there : (k : Kind) (c at : ℕ) → (k ≡ kinds.Array → ⊥) → (k ≡ kinds.Set → ⊥) → (k ≡ kinds.Dict → ⊥) → (l : Leaf) × (content_of f F k c at ≡ Content.leaf l)
  leaf_there kinds.Array c at a s d = absurd (a refl)
  leaf_there kinds.Set c at a s d = absurd (s refl)
  leaf_there kinds.Dict c at a s d = absurd (d refl)
  leaf_there _ c at a s d = (_, refl)

  module _ (sizes : Table) where
    array_total : (k : Kind) (c at : ℕ) (vs : Values) (ms : List ℕ) → AllByRecursion (IsSized f F sizes) ms → HoldEach f F ms vs → Content.array ms ≡ content_of f F k c at
        → added sizes (record { nodes = 1; form = punctuation_of k c }) (refs (content_of f F k c at)) ≡ Some (size_of (array vs))
    array_total kinds.Array c at vs ms all h e =
        let is : nums_at f at F.ref_size c ≡ ms = cc e in
        let long : c ≡ length ms = sym (length-nums_at f at F.ref_size c) ∙ ap length is in
        ap (added sizes (record { nodes = 1; form = punctuation_of kinds.Array c })) is
        ∙ ap (λ n. added sizes (record { nodes = 1; form = punctuation_of kinds.Array n }) ms) long
        ∙ added_members f F sizes vs ms (record { nodes = 1; form = punctuation_of kinds.Array (length ms) }) (omega arith, omega arith) all h
        ∙ ap Some (array_size f F vs ms h)
    array_total _ c at vs ms all h e = cc e

    set_total : (k : Kind) (c at : ℕ) (vs : Values) (ms : List ℕ) → AllByRecursion (IsSized f F sizes) ms → HoldEach f F ms vs → Content.set ms ≡ content_of f F k c at
        → added sizes (record { nodes = 1; form = punctuation_of k c }) (refs (content_of f F k c at)) ≡ Some (size_of (set vs))
    set_total kinds.Set c at vs ms all h e =
        let is : nums_at f at F.ref_size c ≡ ms = cc e in
        ap (added sizes (record { nodes = 1; form = punctuation_of kinds.Set c })) is
        ∙ added_members f F sizes vs ms (record { nodes = 1; form = punctuation_of kinds.Set c }) (omega arith, tt) all h
        ∙ ap Some (set_size vs)
    set_total _ c at vs ms all h e = cc e

    dict_total : (k : Kind) (c at : ℕ) (ps : Pairs) (ks ms : List ℕ) → AllByRecursion (IsSized f F sizes) (ks ++ ms) → HoldPairs f F ks ms ps → Content.dict ks ms ≡ content_of f F k c at
        → added sizes (record { nodes = 1; form = punctuation_of k c }) (refs (content_of f F k c at)) ≡ Some (size_of (dict ps))
    dict_total kinds.Dict c at ps ks ms all h e =
        let keys_are : nums_at f at F.ref_size c ≡ ks = cc e in
        let values_are : nums_at f (at + c * F.ref_size) F.ref_size c ≡ ms = cc e in
        let long : c ≡ length ks = sym (length-nums_at f at F.ref_size c) ∙ ap length keys_are in
        ap₂ (λ x y. added sizes (record { nodes = 1; form = punctuation_of kinds.Dict c }) (x ++ y)) keys_are values_are
        ∙ ap (λ n. added sizes (record { nodes = 1; form = punctuation_of kinds.Dict n }) (ks ++ ms)) long
        ∙ added_pairs f F sizes ps ks ms (record { nodes = 1; form = punctuation_of kinds.Dict (length ks) }) (omega arith, omega arith) all h
        ∙ ap Some (dict_size f F ps ks ms h)
    dict_total _ c at ps ks ms all h e = cc e

    -- the nodes and the punctuation of a container with the sizes of its references make the size of its value
    pub container_total : (k : Kind) (c at n : ℕ) (v : Value) → IsContainer k → Holds f F n v → ((x : Content) → Spells f F n x → x ≡ content_of f F k c at)
        → ((x : Content) → Spells f F n x → AllByRecursion (IsSized f F sizes) (refs x))
        → added sizes (record { nodes = 1; form = punctuation_of k c }) (refs (content_of f F k c at)) ≡ Some (size_of v)
    container_total k c at n (leaf l) one h is sized = absurd (no_leaf k c at l one (is (Content.leaf l) h))
    container_total k c at n (array vs) one h is sized = array_total k c at vs h.0 (sized (Content.array h.0) h.1) h.2 (is (Content.array h.0) h.1)
    container_total k c at n (set vs) one h is sized = set_total k c at vs h.0 (sized (Content.set h.0) h.1) h.2 (is (Content.set h.0) h.1)
    container_total k c at n (dict ps) one h is sized = dict_total k c at ps h.0 h.1 (sized (Content.dict h.0 h.1) h.2) h.3 (is (Content.dict h.0 h.1) h.2)

  -- what is true of the form of a leaf is true of the value, if the object is not a container
  pub leaf_total : (k : Kind) (c at n : ℕ) (v : Value) (form : Form) → (k ≡ kinds.Array → ⊥) → (k ≡ kinds.Set → ⊥) → (k ≡ kinds.Dict → ⊥) → Holds f F n v
      → ((x : Content) → Spells f F n x → x ≡ content_of f F k c at) → ((l : Leaf) → Content.leaf l ≡ content_of f F k c at → form ≡ form_of_text (leaf_text l))
      → record { nodes = 1; form = form } ≡ size_of v
  leaf_total k c at n (leaf l) form a s d h is has = ap (λ x. record { nodes = 1; form = x }) (has l (is (Content.leaf l) h))
  leaf_total k c at n (array vs) form a s d h is has = cc (is (Content.array h.0) h.1 ∙ (leaf_there k c at a s d).1)
  leaf_total k c at n (set vs) form a s d h is has = cc (is (Content.set h.0) h.1 ∙ (leaf_there k c at a s d).1)
  leaf_total k c at n (dict ps) form a s d h is has = cc (is (Content.dict h.0 h.1) h.2 ∙ (leaf_there k c at a s d).1)
