-- What a pass over the objects of a file asks for: no object twice, so no byte before the table twice.
use Rattle.std.proofs.Common.{arith, ◌≡◌, ◌≢◌, ℕ, zero, suc, ◌+◌, ◌*◌, ◌<◌, ◌≤◌, List, [], ◌∷◌, ◌++◌, length, take, slice_index, slice_index_or, Contains, inl, inr, refl, ap, ◌∙◌, subst}
use Rattle.std.proofs.Math.Dec.{eqb}
use Rattle.std.proofs.Props.{props}
use Rattle.std.specs.List.Sorted.{IsPermutation}
use Rattle.std.proofs.Math.Nat.{mul_assoc, mul_comm}
use Rattle.std.proofs.lemmas.Bool.Decides.{Decides-eqb, nat_tests}
use Rattle.std.proofs.lemmas.List.{length-append}
use Rattle.std.proofs.lemmas.List.Elements.{Contains-get_or, Contains-push_cases}
use Rattle.std.proofs.lemmas.List.Quantifiers.{all_pairs_push}
use Rattle.std.proofs.lemmas.List.Sorted.{length_permutation}
use Rattle.std.proofs.lemmas.Map.Keys.{IsDistinct-IsPermutation}
use Rattle.std.proofs.lemmas.Map.Made.{AllPairs-from_IsDistinct, IsDistinct-from_AllPairs}
use Rattle.bplist_objects.specs.declared.frame.Frame.{Frame}
use Rattle.bplist_objects.specs.declared.head.Head.{Head}
use Rattle.bplist_objects.specs.declared.head.Kind.{Kind}
use Rattle.bplist_objects.specs.declared.head.Kind.TheVariants as kinds
use Rattle.bplist_objects.specs.Announced.{item_size}
use Rattle.bplist_objects.specs.Extents.{TakeOctets, Takes}
use Rattle.bplist_objects.specs.Heads.{HasShape}
use Rattle.bplist_objects.specs.Safe.{ref_count}
use Rattle.bplist_objects.proofs.ExtentSums.{shape_extent}
use Rattle.bplist_objects.proofs.Fronts.{one_shape}
use Rattle.bplist_objects.proofs.Lists.{all_from}
use Rattle.bplist_cert.specs.Valid.{IsValid, IsVouchedBy}
use Rattle.bplist_cursor.specs.Asked.{pass_bytes}
use Rattle.bplist_cursor.specs.ObjectSizes.{AreOnce, IsOrder}

-- a block more of items of this many bytes
pub a_block_more : (start before after from to each : ℕ) → before ≤ start + from * each → after + from * each ≤ before + to * each → after ≤ start + to * each
a_block_more start before after from to each a b = omega (arith, a, b)

-- no more than all items
pub all_blocks : (start before after from bound all each : ℕ) → bound ≡ all → before ≤ start + from * each → after + from * each ≤ before + bound * each → after ≤ start + all * each
all_blocks start before after from bound all each e a b =
    let same : bound * each ≡ all * each = ap (λ n. n * each) e in
    omega (arith, a, b, same)

-- ---- each object once
-- the objects below this number, each once
pub record AreRising (n : ℕ) (order : List ℕ) : Type 0 where
  pub below : (m : ℕ) → Contains order m → m < n
  pub once : AreOnce n order

-- one more
pub rising_more : (n : ℕ) (order : List ℕ) → AreRising n order → AreRising (n + 1) (order ++ n ∷ [])
rising_more n order r = record {
  below = λ m c. elim (Contains-push_cases order n m c) [
    | inl before ↦ let low = r.below m before in omega (arith, low)
    | inr same ↦ omega (arith, same)
  ];
  once = record {
    differ = all_pairs_push (λ x y. x ≢ y) order n r.once.differ (λ k d l same. let low = r.below (slice_index_or order k d) (Contains-get_or order k d l) in omega (arith, low, same));
    few = omega (arith, length-append order (n ∷ []), r.once.few);
  };
}

-- one that is not among them
pub rising_same : (n : ℕ) (order : List ℕ) → AreRising n order → AreRising (n + 1) order
rising_same n order r = record {
  below = λ m c. let low = r.below m c in omega (arith, low);
  once = record { differ = r.once.differ; few = omega (arith, r.once.few) };
}

eqb_flips : (x y : ℕ) → eqb x y ≡ eqb y x
eqb_flips x y = grind (arith, nat_tests)

-- they stay so where they change places
pub once_permuted : (n : ℕ) (xs ys : List ℕ) → IsPermutation xs ys → AreOnce n xs → AreOnce n ys
once_permuted n xs ys same once = record {
  differ = AllPairs-from_IsDistinct Decides-eqb ys (IsDistinct-IsPermutation eqb eqb_flips xs ys same (IsDistinct-from_AllPairs Decides-eqb xs once.differ));
  few = omega (arith, length_permutation xs ys same, once.few);
}

-- ---- the bytes of objects
-- the references of an object are among its bytes
ref_size_kept : (r count : ℕ) (kind : Kind) → ref_count kind count * r ≤ count * item_size r kind
ref_size_kept r count kinds.Dict =
    let twice : 2 * count * r ≡ count * (2 * r) = ap (λ n. n * r) (mul_comm 2 count) ∙ mul_assoc count 2 r in
    omega (arith, twice)
ref_size_kept r count _ = omega arith

leaf_size : (r : ℕ) (kind : Kind) → (kind ≡ kinds.Array → ⊥) → (kind ≡ kinds.Set → ⊥) → (kind ≡ kinds.Dict → ⊥) → item_size r kind ≡ item_size 1 kind
leaf_size r kinds.Array a s d = absurd (a refl)
leaf_size r kinds.Set a s d = absurd (s refl)
leaf_size r kinds.Dict a s d = absurd (d refl)
leaf_size r _ a s d = refl

module _ (f : List ℕ) (F : Frame) where
  -- the body of an object is among its bytes
  pub body_fits : (n e : ℕ) (head : Head) → HasShape f F n head → Takes f F n e → head.count * item_size F.ref_size head.kind ≤ e
  body_fits n e head shape takes =
      let same = ap (λ (h : Head). h.«end») (one_shape f F n head takes.0 shape takes.1) in
      omega (arith, same, takes.2, shape.has.body, shape.has.ends)

  pub refs_fit : (n e : ℕ) (head : Head) → HasShape f F n head → Takes f F n e → ref_count head.kind head.count * F.ref_size ≤ e
  refs_fit n e head shape takes = omega (arith, ref_size_kept F.ref_size head.count head.kind, body_fits n e head shape takes)

  -- the body of a leaf has as many bytes without the frame
  pub leaf_fits : (n e : ℕ) (head : Head) → HasShape f F n head → Takes f F n e → (head.kind ≡ kinds.Array → ⊥) → (head.kind ≡ kinds.Set → ⊥) → (head.kind ≡ kinds.Dict → ⊥)
      → head.count * item_size 1 head.kind ≤ e
  leaf_fits n e head shape takes a s d =
      subst (λ size. head.count * size ≤ e) (leaf_size F.ref_size head.kind a s d) (body_fits n e head shape takes)

  -- the objects before one more, and that one
  pub record OneMore (order : List ℕ) (i t : ℕ) : Type 0 where
    pub before : ℕ
    pub own : ℕ
    pub these : TakeOctets f F (take i order) before
    pub this : Takes f F (slice_index order i) own
    pub both : t ≡ before + own

  pub one_more : (order : List ℕ) (i t : ℕ) → i < length order → TakeOctets f F (take (i + 1) order) t → OneMore order i t
  one_more order i t l taken =
      let next : i + 1 ≡ suc i = omega arith in
      go order i t l (subst (λ k. TakeOctets f F (take k order) t) next taken)
    where
      go : (order : List ℕ) (i t : ℕ) → i < length order → TakeOctets f F (take (suc i) order) t → OneMore order i t
      go [] i t l taken = absurd (omega (arith, l))
      go (n ∷ ns) zero t l taken = record { before = 0; own = taken.0; these = refl; this = taken.2; both = omega (arith, taken.3, taken.4) }
      go (n ∷ ns) (suc i) t l taken =
          let rest = go ns i taken.1 (omega (arith, l)) taken.3 in
          record { before = taken.0 + rest.before; own = rest.own; these = (taken.0, rest.before, taken.2, rest.these, refl); this = rest.this; both = omega (arith, taken.4, rest.both) }

  -- the first objects take no more than all
  pub first_ones : (order : List ℕ) (k t : ℕ) → TakeOctets f F order t → (s : ℕ) × TakeOctets f F (take k order) s × (s ≤ t)
  first_ones order zero t taken = (0, refl, omega arith)
  first_ones [] (suc k) t taken = (0, refl, omega arith)
  first_ones (n ∷ ns) (suc k) t taken =
      let rest = first_ones ns k taken.1 taken.3 in
      (taken.0 + rest.0, (taken.0, rest.0, taken.2, rest.1, refl), omega (arith, taken.4, rest.2))

  -- objects that each take some bytes take some together
  take_together : (order : List ℕ) → ((n : ℕ) → Contains order n → (e : ℕ) × Takes f F n e) → (t : ℕ) × TakeOctets f F order t
  take_together [] each = (0, refl)
  take_together (n ∷ ns) each =
      let first = each n (0, omega arith, refl) in
      let rest = take_together ns (λ m c. each m (suc c.0, omega (arith, c.1), c.2)) in
      (first.0 + rest.0, (first.0, rest.0, first.1, rest.1, refl))

  -- what is asked for an object more of the pass
  pub one_asked : (order : List ℕ) (i start before after : ℕ) → i < length order
      → ((s : ℕ) → TakeOctets f F (take i order) s → before ≤ start + (28 * i + s))
      → ((e : ℕ) → Takes f F (slice_index order i) e → after ≤ before + (28 + e))
      → (s : ℕ) → TakeOctets f F (take (i + 1) order) s → after ≤ start + (28 * (i + 1) + s)
  one_asked order i start before after l so_far here s taken =
      let parts = one_more order i s l taken in
      omega (arith, so_far parts.before parts.these, here parts.own parts.this, parts.both)

  -- and so no more than for all
  pub within_pass : (order : List ℕ) (k start after t : ℕ) → k ≤ length order → TakeOctets f F order t
      → ((s : ℕ) → TakeOctets f F (take k order) s → after ≤ start + (28 * k + s)) → after ≤ start + (28 * length order + t)
  within_pass order k start after t l taken so_far =
      let first = first_ones order k t taken in
      omega (arith, so_far first.0 first.1, first.2, l)

  -- the objects of an order fit before the table
  pub pass_fits : (heights order : List ℕ) (height : ℕ) → IsValid f F heights → IsOrder heights height order → AreOnce F.objects order
      → (t : ℕ) × TakeOctets f F order t × (28 * length order + t ≤ pass_bytes F)
  pass_fits heights order height valid is once =
      let vouched : (n : ℕ) → Contains order n → IsVouchedBy heights n = λ n c. let above = is.only n c in omega (arith, above) in
      let all = take_together order (λ n c. let spells = (valid.vouched n (vouched n c)).spells in (_, shape_extent f F n spells.shape spells.has)) in
      let room = valid.room order all.0 once.differ (all_from (IsVouchedBy heights) order vouched) all.1 in
      (all.0, all.1, omega (arith, room, once.few))

-- how many bytes were asked for is a fact
pub within_prop : (a b : ℕ) → IsProp (a ≤ b)
within_prop a b = Prim.hlevel props
