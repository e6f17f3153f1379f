-- What an object's references are, by what was read of it.
use Rattle.std.proofs.Common.{◌≡◌, ◌⊎◌, ℕ, ◌<◌, ◌+◌, ◌-◌, min, IsTrue, List, [], drop, length, slice_index, Option, Some, None, inl, inr, refl, sym, ap, ◌∙◌, arith}
use Rattle.std.proofs.lemmas.Bool.{cases_lt}
use Rattle.std.proofs.lemmas.List.{nil_from_length, length-drop, get_or-drop, drop_all}
use Rattle.std.specs.Option.{option_map_or}
use Rattle.bplist_objects.specs.declared.frame.Frame.{Frame}
use Rattle.bplist_objects.specs.declared.head.Head.{Head}
use Rattle.bplist_objects.specs.declared.head.Kind.{Kind}
use Rattle.bplist_objects.specs.declared.head.Kind.TheVariants as kinds
use Rattle.bplist_objects.specs.Heads.{Content, HasShape, Spells, content_at, refs}
use Rattle.bplist_objects.specs.Safe.{ref_count}
use Rattle.bplist_objects.specs.Markers.{head_found}
use Rattle.bplist_objects.specs.Spelled.{is_proper, spelled_at, refs_at}
use Rattle.bplist_objects.proofs.Fronts.{one_shape}
use Rattle.bplist_objects.proofs.SpelledContents.{spells_iff}
use Rattle.bplist_objects.specs.Scan.{AreBelow, nth_number}
use Rattle.bplist_objects.proofs.References.{length-refs, nth-refs, all_refs}
use Rattle.bplist_objects.proofs.ProperLeaves.{body_kept, spells_bodies, bodies_spell}
use Rattle.bplist_objects.proofs.HeadLaws.{head_is_found}
use Rattle.bplist_objects.proofs.ReachedObjects.{refs_spelled}
use Rattle.bplist_objects.proofs.HeadTies.{spells_body}
use Rattle.bplist_lint.specs.declared.graph.View.{View}
use Rattle.bplist_lint.specs.Graph.{IsPart}
use Rattle.bplist_lint.specs.ReferenceGraph.{refs_announced, hidden, refs_in}

-- something is found or not
pub found_or_none : {X : Type 0} (found : Option X) → (found ≡ None) ⊎ ((x : X) × (found ≡ Some x))
found_or_none None = inl refl
found_or_none (Some x) = inr (x, refl)

module _ (f : List ℕ) (F : Frame) (n : ℕ) where
  -- an object that spells nothing refers to nothing
  pub no_refs : ((c : Content) → Spells f F n c → ⊥) → refs_at f F n ≡ []
  unfolding refs_at
  no_refs never = go (spelled_at f F n) refl
    where
      go : (found : Option Content) → spelled_at f F n ≡ found → option_map_or refs (spelled_at f F n) [] ≡ []
      go None e = ap (λ found. option_map_or refs found []) e
      go (Some c) e = absurd (never c ((spells_iff f F n c).1 e))

  -- an object without a shape refers to nothing
  pub no_refs_shape : ((h : Head) → HasShape f F n h → ⊥) → refs_at f F n ≡ []
  no_refs_shape never = no_refs (λ c s. never s.shape s.has)

  -- an object whose shape has no references refers to nothing
  pub no_refs_leaf : (h : Head) → HasShape f F n h → ref_count h.kind h.count ≡ 0 → refs_at f F n ≡ []
  no_refs_leaf h has none = elim (found_or_none (spelled_at f F n)) [
    | inl e ↦ no_refs (λ c s. let k : None ≡ Some c = sym e ∙ (spells_iff f F n c).0 s in cc k)
    | inr (c, e) ↦
        let s = (spells_iff f F n c).1 e in
        let is : c ≡ content_at f F h = s.means ∙ ap (content_at f F) (one_shape f F n s.shape h s.has has) in
        refs_spelled f F n c s ∙ ap refs is ∙ nil_from_length (refs (content_at f F h)) (length-refs f F h.kind h.count h.body ∙ none)
  ]

  -- its head is found
  pub found_as : (h : Head) → HasShape f F n h → head_found f F n ≡ Some h
  found_as h has = head_is_found f F n h has.has

  -- the references of an object with a shape: as many as the shape says, and the numbers at those places
  pub record IsAs (h : Head) : Type 0 where
    pub count : length (refs_at f F n) ≡ ref_count h.kind h.count
    pub each : (i : ℕ) → i < ref_count h.kind h.count → slice_index (refs_at f F n) i ≡ nth_number f h.body F.ref_size i
    pub low : (i : ℕ) → i < ref_count h.kind h.count → nth_number f h.body F.ref_size i < F.objects

  pub as_spelled : (h : Head) → HasShape f F n h → (c : Content) → Spells f F n c → IsAs h
  as_spelled h has c s =
      let body : c ≡ content_at f F h = spells_body f F n h c has s in
      let is : refs_at f F n ≡ refs (content_at f F h) = refs_spelled f F n c s ∙ ap refs body in
      record {
        count = ap length is ∙ length-refs f F h.kind h.count h.body;
        each = λ k l. ap (λ xs. slice_index xs k) is ∙ nth-refs f F h.kind h.count h.body k l;
        low = (spells_bodies f F n c s).1.1.0 h has.has;
      }

  pub as_shape : (h : Head) → HasShape f F n h → (i : ℕ) → i < length (refs_at f F n) → IsAs h
  as_shape h has i within = elim (found_or_none (spelled_at f F n)) [
    | inl e ↦ absurd (let z = ap length (no_refs (λ c s. let k : None ≡ Some c = sym e ∙ (spells_iff f F n c).0 s in cc k)) in omega arith)
    | inr (c, e) ↦ as_spelled h has c ((spells_iff f F n c).1 e)
  ]

  -- ---- the references in a view
  module _ (view : View) where
    -- what a view shows comes after what it leaves out
    in_view : (i : ℕ) → i < length (refs_in view f F n) → hidden view (head_found f F n) + i < length (refs_at f F n)
    in_view i within = let long = length-drop (hidden view (head_found f F n)) (refs_at f F n) in omega (arith, long, within)

    -- if an object has no references, a view shows none
    pub none_in_view : refs_at f F n ≡ [] → refs_in view f F n ≡ []
    none_in_view e = ap (drop (hidden view (head_found f F n))) e ∙ drop_all (hidden view (head_found f F n)) [] (omega arith)

    -- how many a head announces, by its shape
    pub announced_as : (h : Head) → HasShape f F n h → refs_announced (head_found f F n) - hidden view (head_found f F n) ≡ ref_count h.kind h.count - hidden view (Some h)
    announced_as h has = ap (λ head. refs_announced head - hidden view head) (found_as h has)

    -- an object that spells a content has all references that it announces
    pub all_announced : (c : Content) → Spells f F n c → refs_announced (head_found f F n) - hidden view (head_found f F n) ≡ length (refs_in view f F n)
    all_announced c s =
        let count = (as_spelled s.shape s.has c s).count in
        let all : refs_announced (head_found f F n) ≡ length (refs_at f F n) = ap refs_announced (found_as s.shape s.has) ∙ sym count in
        omega (arith, all, length-drop (hidden view (head_found f F n)) (refs_at f F n))

    -- a part of them that was read by the shape
    pub part_is : (h : Head) → HasShape f F n h → refs_announced (head_found f F n) - hidden view (head_found f F n) ≡ length (refs_in view f F n) → (i count : ℕ) (block : List ℕ)
        → count ≡ min (length block) (ref_count h.kind h.count - hidden view (Some h) - i)
        → ((k : ℕ) → k < count → nth_number f h.body F.ref_size (hidden view (Some h) + i + k) < F.objects → slice_index block k ≡ nth_number f h.body F.ref_size (hidden view (Some h) + i + k))
        → IsPart (refs_in view f F n) i block count
    part_is h has whole i count block many same =
        let all : ref_count h.kind h.count - hidden view (Some h) ≡ length (refs_in view f F n) = sym (announced_as h has) ∙ whole in (
          omega (arith, many, all),
          λ k low.
              let within : i + k < length (refs_in view f F n) = omega (arith, many, all, low) in
              let a = as_shape h has _ (in_view (i + k) within) in
              let j : ℕ = hidden view (Some h) + i + k in
              let l : j < ref_count h.kind h.count = omega (arith, all, within) in
              let at : hidden view (head_found f F n) + (i + k) ≡ j = omega (arith, ap (hidden view) (found_as h has)) in
              same k low (a.low j l) ∙ sym (get_or-drop (hidden view (head_found f F n)) (refs_at f F n) (i + k) 0 ∙ ap (slice_index (refs_at f F n)) at ∙ a.each j l),
        )

    -- without a shape there is no reference
    pub part_none : ((h : Head) → HasShape f F n h → ⊥) → (i : ℕ) (block : List ℕ) → IsPart (refs_in view f F n) i block 0
    part_none never i block = let none = ap length (none_in_view (no_refs_shape never)) in (omega (arith, none), λ k low. absurd (omega (arith, low)))

  -- what has references is neither a text nor a UID
  proper_container : (kind : Kind) (count body : ℕ) → 0 < ref_count kind count → IsTrue (is_proper f kind count body)
  proper_container kinds.Ascii count body some = absurd (omega (arith, some))
  proper_container kinds.Uid count body some = absurd (omega (arith, some))
  proper_container _ count body some = refl

  -- if all numbers of a body are those of objects, they are the references
  pub refs_as_shape : (h : Head) → HasShape f F n h → AreBelow f h.body F.ref_size (ref_count h.kind h.count) F.objects → refs_at f F n ≡ refs (content_at f F h)
  refs_as_shape h has below = elim (cases_lt 0 (ref_count h.kind h.count)) [
    | inl some ↦
        let s : Spells f F n (content_at f F h) =
        bodies_spell f F n h has (body_kept f F n h has.has (proper_container h.kind h.count h.body some) (all_refs f F (λ m. m < F.objects) h.kind h.count h.body below)) in
        refs_spelled f F n (content_at f F h) s
    | inr none ↦
        let zero : ref_count h.kind h.count ≡ 0 = omega (arith, none) in
        no_refs_leaf h has zero ∙ sym (nil_from_length (refs (content_at f F h)) (length-refs f F h.kind h.count h.body ∙ zero))
  ]

  -- if one of them is not, there are no references
  pub broken_count : (h : Head) → HasShape f F n h → (AreBelow f h.body F.ref_size (ref_count h.kind h.count) F.objects → ⊥) → length (refs_at f F n) ≡ 0
  broken_count h has never = elim (cases_lt 0 (length (refs_at f F n))) [
    | inl some ↦ absurd (never (as_shape h has 0 some).low)
    | inr none ↦ omega (arith, none)
  ]
