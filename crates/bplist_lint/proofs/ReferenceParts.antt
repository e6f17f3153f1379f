-- References, part by part.
use Rattle.std.proofs.Common.{◌≡◌, ℕ, ◌+◌, ◌-◌, ◌<◌, ◌≤◌, inl, inr, List, ◌++◌, length, take, slice_index, Contains, refl, sym, ◌∙◌, arith}
use Rattle.std.proofs.lemmas.Bool.{cases_lt}
use Rattle.std.proofs.lemmas.List.{length-append, length-take-le, get_or-take, get_or_append_left, get_or-append_right, get_or_default, ext_get_or}
use Rattle.std.proofs.lemmas.List.Elements.{Contains-get_or}
use Rattle.bplist_lint.specs.Graph.{IsPart, IsFirstWithout}
use Rattle.bplist_lint.proofs.FirstWithout.{first_at, first_off}

module _ (references block : List ℕ) (i count : ℕ) (part : IsPart references i block count) where
  long : length (take count block) ≡ count
  long = length-take-le count block (omega (arith, part.0))

  -- an item of the part
  part_at : (k : ℕ) → k < count → slice_index (take count block) k ≡ slice_index references (i + k)
  part_at k low = rw (get_or-take count block k 0 low) (part.1 k low)

  -- an item of the part is the reference at its place
  pub item_at : (k m : ℕ) → k < length (take count block) → m ≡ slice_index (take count block) k → (i + k < length references) × (m ≡ slice_index references (i + k))
  item_at k m low is =
      let under : k < count = omega (arith, low, long) in
      (omega (arith, part.0, under), is ∙ part_at k under)

  -- what is in the part is a reference
  pub contains_part : (m : ℕ) → Contains (take count block) m → Contains references m
  contains_part m c =
      let under : c.0 < count = let l = c.1 in omega (arith, l, long) in
      let is : slice_index references (i + c.0) ≡ m = sym (part_at c.0 under) ∙ sym (get_or_default (take count block) c.0 m 0 c.1) ∙ c.2 in
      rw is at (Contains-get_or references (i + c.0) 0 (omega (arith, part.0, under)))

  -- the references up to the end of the part are those before it and the part
  pub take_part : i ≤ length references → take (i + count) references ≡ take i references ++ take count block
  take_part low =
      let room : i + count ≤ length references = omega (arith, part.0, low) in
      let before : length (take i references) ≡ i = length-take-le i references low in
      let all : length (take (i + count) references) ≡ i + count = length-take-le (i + count) references room in
      let both : length (take i references ++ take count block) ≡ i + count = omega (arith, length-append (take i references) (take count block), before, long) in
      ext_get_or 0 _ _ (omega (arith, all, both)) (λ k within. elim (cases_lt k i) [
        | inl first ↦ rw (get_or-take (i + count) references k 0 (omega arith), get_or_append_left (take i references) (take count block) 0 k (omega (arith, before)), get_or-take i references k 0 first) refl
        | inr later ↦
            let there : i + (k - i) ≡ k = omega (arith, later) in
            let under : k - i < count = omega (arith, within, all, later) in
            rw (get_or-take (i + count) references k 0 (omega (arith, within, all)), get_or-append_right (take i references) (take count block) i k 0 before later)
            (rw there at (sym (part_at (k - i) under)))
      ])

  -- what is true of the references before the part and of those in it
  pub part_all : (P : ℕ → Type 0) → ((k : ℕ) → k < i → P (slice_index references k)) → ((k : ℕ) → k < length (take count block) → P (slice_index (take count block) k)) → (k : ℕ) → k < i + count → P (slice_index references k)
  part_all P before here k low = elim (cases_lt k i) [
    | inl first ↦ before k first
    | inr later ↦
        let there : i + (k - i) ≡ k = omega (arith, later) in
        let under : k - i < count = omega (arith, low, later) in
        rw (part_at (k - i) under, there) at (here (k - i) (omega (arith, long, under)))
  ]

  -- the same of the references from one on, up to item j of the part
  pub part_on : (P : ℕ → Type 0) (from j : ℕ) → j ≤ count → ((k : ℕ) → from ≤ k → k < i → P (slice_index references k))
      → ((k : ℕ) → k < j → P (slice_index (take count block) k)) → (k : ℕ) → from ≤ k → k < i + j → P (slice_index references k)
  part_on P from j few before here k on low = elim (cases_lt k i) [
    | inl first ↦ before k on first
    | inr later ↦
        let there : i + (k - i) ≡ k = omega (arith, later) in
        let under : k - i < j = omega (arith, low, later) in
        rw (part_at (k - i) (omega (arith, under, few)), there) at (here (k - i) under)
  ]

  -- the first without something in the part, if all before it have it
  pub first_in_part : (P : ℕ → Type 0) (m : ℕ) → i ≤ length references → ((k : ℕ) → k < i → P (slice_index references k)) → IsFirstWithout P (take count block) m → IsFirstWithout P references m
  first_in_part P m low before first =
      let place = first.0 in
      let under : place < count = let l = first.1.0 in omega (arith, l, long) in
      first_at P references m (i + place) (omega (arith, part.0, under)) (sym (part_at place under) ∙ first.2) (first_off P (take count block) m first) (λ k within. elim (cases_lt k i) [
        | inl early ↦ before k early
        | inr later ↦
            let there : i + (k - i) ≡ k = omega (arith, later) in
            let lower : k - i < place = omega (arith, within, later) in
            rw (part_at (k - i) (omega (arith, lower, under)), there) at (first.1.1 (k - i) lower)
      ])
