-- If a table gives each object one more than the sum of its references, it has the sizes of the trees.
use Rattle.std.proofs.Common.{◌≡◌, ℕ, ◌+◌, List, [], ◌∷◌, slice_index, refl, ap, ◌∙◌, arith, sum_by}
use Rattle.std.specs.List.{AllByRecursion}
use Rattle.std.proofs.lemmas.List.Sums.{sum_by-cons, sum_by-append}
use Rattle.bplist_objects.specs.declared.frame.Frame.{Frame}
use Rattle.bplist_objects.specs.Value.{Leaf, text, Value, leaf, array, set, dict, Values, no_values, value, Pairs, no_pairs, pair}
use Rattle.bplist_objects.specs.Heads.{Content, Spells, refs}
use Rattle.bplist_objects.specs.Holds.{Holds, HoldEach, HoldPairs}
use Rattle.bplist_cursor.specs.Nodes.{cap, nodes, nodes_of, nodes_of_pairs}
use Rattle.bplist_cursor.specs.Measured.{Measured}
use Rattle.bplist_cursor.proofs.Counts.{pair_counts}
use Rattle.bplist_objects.proofs.ObjectValues.{OneHead}
use Rattle.bplist_objects.proofs.Lists.{all_front, all_behind}

module _ (f : List ℕ) (F : Frame) (one : OneHead f F) (M : List ℕ) (S : ℕ → Type 0) (each : (n : ℕ) → S n → Measured f F M n) (closed : (n : ℕ) (h : Content) → S n → Spells f F n h → AllByRecursion S (refs h)) where
  abbrev at : ℕ → ℕ
  at n = slice_index M n

  -- what is known at an object with this head
  at_head : (n : ℕ) (h : Content) → S n → Spells f F n h → (at n ≡ cap (1 + sum_by at (refs h))) × AllByRecursion S (refs h)
  at_head n h s sp =
      let m = each n s in
      let e = one n m.0 h m.1 sp in
      (m.2 ∙ ap (λ x. cap (1 + sum_by at (refs x))) e, closed n h s sp)

  leaf_at : (n : ℕ) (l : Leaf) → S n → Spells f F n (Content.leaf l) → at n ≡ 1
  leaf_at n l s sp = (at_head n (Content.leaf l) s sp).0

  mutual
    pub nodes_at : (v : Value) (n : ℕ) → S n → Holds f F n v → at n ≡ cap (nodes v)
    nodes_at (leaf l) n s h = leaf_at n l s h
    nodes_at (array vs) n s h =
        let a = at_head n _ s h.1 in
        omega (arith, a.0, members_at vs h.0 a.1 h.2)
    nodes_at (set vs) n s h =
        let a = at_head n _ s h.1 in
        omega (arith, a.0, members_at vs h.0 a.1 h.2)
    nodes_at (dict ps) n s h =
        let a = at_head n _ s h.2 in
        let b = pairs_at ps h.0 h.1 (all_front S h.0 h.1 a.1) (all_behind S h.0 h.1 a.1) h.3 in
        omega (arith, a.0, b, sum_by-append at h.0 h.1)

    pub members_at : (vs : Values) (ms : List ℕ) → AllByRecursion S ms → HoldEach f F ms vs → cap (sum_by at ms) ≡ cap (nodes_of vs)
    members_at no_values [] s h = refl
    members_at (value v vs) (m ∷ ms) s h =
        omega (arith, nodes_at v m s.0 h.0, members_at vs ms s.1 h.1, sum_by-cons at m ms)
    members_at _ _ _ h = absurd h

    pub pairs_at : (ps : Pairs) (ks ms : List ℕ) → AllByRecursion S ks → AllByRecursion S ms → HoldPairs f F ks ms ps → cap (sum_by at ks + sum_by at ms) ≡ cap (nodes_of_pairs ps)
    pairs_at no_pairs [] [] s t h = refl
    pairs_at (pair u v ps) (k ∷ ks) (m ∷ ms) s t h =
        let b = pairs_at ps ks ms s.1 t.1 h.2 in
        omega (arith, leaf_at k (text u) s.0 h.0, nodes_at v m t.0 h.1, b, sum_by-cons at k ks, sum_by-cons at m ms)
    pairs_at ps ks ms s t h = absurd (let c = pair_counts f F ks ms ps h in omega (arith, c.0, c.1))
