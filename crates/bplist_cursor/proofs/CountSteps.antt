-- The number of nodes of values, by the containers alone.
use Rattle.std.proofs.Common.{◌≡◌, ℕ, ◌+◌, ◌<◌, ◌≤◌, List, [], ◌∷◌, length, take, drop, slice_index, slice_set, inl, inr, refl, sym, ap, ◌∙◌, subst, arith, Contains, Result, Ok, Err, replicate, sum_by}
use Rattle.std.specs.List.{AllByRecursion}
use Rattle.std.proofs.Props.{props}
use Rattle.std.proofs.lemmas.Bool.{cases_eq}
use Rattle.std.proofs.lemmas.List.{drop_all, drop-drop, get_or-replicate, get_or-set_other, get_or-set_same, take-append-drop}
use Rattle.std.proofs.lemmas.List.Elements.{Contains-get_or}
use Rattle.std.proofs.lemmas.List.Sums.{sum_by-append, sum_by-cons}
use Rattle.bplist_octets.specs.Octets.{part}
use Rattle.bplist_objects.specs.declared.frame.Frame.{Frame}
use Rattle.bplist_objects.specs.declared.head.Head.{Head}
use Rattle.bplist_objects.specs.Value.{text, Value, leaf, array, set, dict, Values, no_values, value, Pairs, no_pairs, pair}
use Rattle.bplist_objects.specs.Heads.{Content, Spells, content_at, refs}
use Rattle.bplist_objects.specs.Holds.{Holds, HoldEach, HoldPairs}
use Rattle.bplist_objects.specs.Safe.{ref_count}
use Rattle.bplist_objects.proofs.Lists.{all_behind, all_from, all_front}
use Rattle.bplist_objects.proofs.Fronts.{one_head}
use Rattle.bplist_objects.proofs.References.{length-refs}
use Rattle.bplist_cert.specs.Valid.{IsVouchedBy, IsValid}
use Rattle.bplist_cert.proofs.VouchedObjects.{object_holds, references_lower}
use Rattle.bplist_cursor.specs.Causes.{GivesRead}
use Rattle.bplist_cursor.specs.declared.faults.Unread.{Unread}
use Rattle.bplist_cursor.specs.NodeCounts.{AreCounted, IsCounted}
use Rattle.bplist_cursor.specs.Nodes.{cap, nodes, nodes_of, nodes_of_pairs}
use Rattle.bplist_cursor.specs.ObjectSizes.{IsOrder}
use Rattle.bplist_cursor.proofs.Counts.{pair_counts}
use Rattle.bplist_cursor.proofs.HeightOrder.{inside_of, lower_before, not_last, order_inside, place_in}

-- what follows from what was read follows, and a fault is the same
pub read_weaker : {X : Type 0} (P Q : X → Type 0) (r : Result X Unread) → ((x : X) → P x → Q x) → GivesRead P r → GivesRead Q r
read_weaker P Q (Ok x) on h = on x h
read_weaker P Q (Err e) on h = h

-- ---- sums along references
-- a block is added, and what comes after it is left
pub block_counted : (counts : List ℕ) (total more whole : ℕ) (xs block : List ℕ) (from n : ℕ) → block ≡ part xs from n
    → more ≡ cap (total + sum_by (slice_index counts) block) → cap (total + sum_by (slice_index counts) (drop from xs)) ≡ whole
    → cap (more + sum_by (slice_index counts) (drop (from + n) xs)) ≡ whole
block_counted counts total more whole xs block from n is here left =
    let at = slice_index counts in
    let parts : sum_by at (drop from xs) ≡ sum_by at block + sum_by at (drop (from + n) xs) =
    ap (sum_by at) (sym (take-append-drop n (drop from xs)))
    ∙ sum_by-append at (take n (drop from xs)) (drop n (drop from xs))
    ∙ ap (λ l. sum_by at (take n (drop from xs)) + sum_by at l) (drop-drop n from xs)
    ∙ ap (λ l. sum_by at l + sum_by at (drop (from + n) xs)) (sym is) in
    omega (arith, parts, here, left)

-- nothing is left
pub all_counted : (f : List ℕ) (F : Frame) (head : Head) (counts : List ℕ) (total whole done : ℕ) → total ≤ 18446744073709551615 → ref_count head.kind head.count ≤ done
    → cap (total + sum_by (slice_index counts) (drop done (refs (content_at f F head)))) ≡ whole → total ≡ whole
all_counted f F head counts total whole done fits all left =
    let xs = refs (content_at f F head) in
    let long = length-refs f F head.kind head.count head.body in
    let none : sum_by (slice_index counts) (drop done xs) ≡ 0 = ap (sum_by (slice_index counts)) (drop_all done xs (omega (arith, long, all))) in
    omega (arith, none, fits, left)

module _ (f : List ℕ) (F : Frame) (counts : List ℕ) where
  abbrev at : ℕ → ℕ
  at n = slice_index counts n

  members_counted : (vs : Values) (ms : List ℕ) → AllByRecursion (IsCounted f F counts) ms → HoldEach f F ms vs → cap (sum_by at ms) ≡ cap (nodes_of vs)
  members_counted no_values [] all h = refl
  members_counted (value v vs) (m ∷ ms) all h =
      omega (arith, all.0 v h.0, members_counted vs ms all.1 h.1, sum_by-cons at m ms)
  members_counted _ _ _ h = absurd h

  pairs_counted : (ps : Pairs) (ks ms : List ℕ) → AllByRecursion (IsCounted f F counts) ks → AllByRecursion (IsCounted f F counts) ms → HoldPairs f F ks ms ps
      → cap (sum_by at ks + sum_by at ms) ≡ cap (nodes_of_pairs ps)
  pairs_counted no_pairs [] [] k m h = refl
  pairs_counted (pair u v ps) (k ∷ ks) (m ∷ ms) b a h =
      let key : at k ≡ 1 = b.0 (leaf (text u)) h.0 in
      omega (arith, key, a.0 v h.1, pairs_counted ps ks ms b.1 a.1 h.2, sum_by-cons at k ks, sum_by-cons at m ms)
  pairs_counted ps ks ms b a h = absurd (let c = pair_counts f F ks ms ps h in omega (arith, c.0, c.1))

  -- one and the counts of the references of a head make the count of the value
  pub value_counted : (v : Value) (n : ℕ) (head : Head) → Holds f F n v → ((c : Content) → Spells f F n c → c ≡ content_at f F head)
      → ((c : Content) → Spells f F n c → AllByRecursion (IsCounted f F counts) (refs c)) → cap (1 + sum_by at (refs (content_at f F head))) ≡ cap (nodes v)
  value_counted (leaf l) n head h is all = ap (λ c. cap (1 + sum_by at (refs c))) (sym (is (Content.leaf l) h))
  value_counted (array vs) n head h is all =
      let rest = members_counted vs h.0 (all (Content.array h.0) h.1) h.2 in
      ap (λ c. cap (1 + sum_by at (refs c))) (sym (is (Content.array h.0) h.1)) ∙ omega (arith, rest)
  value_counted (set vs) n head h is all =
      let rest = members_counted vs h.0 (all (Content.set h.0) h.1) h.2 in
      ap (λ c. cap (1 + sum_by at (refs c))) (sym (is (Content.set h.0) h.1)) ∙ omega (arith, rest)
  value_counted (dict ps) n head h is all =
      let each = all (Content.dict h.0 h.1) h.2 in
      let rest = pairs_counted ps h.0 h.1 (all_front (IsCounted f F counts) h.0 h.1 each) (all_behind (IsCounted f F counts) h.0 h.1 each) h.3 in
      ap (λ c. cap (1 + sum_by at (refs c))) (sym (is (Content.dict h.0 h.1) h.2)) ∙ omega (arith, rest, sum_by-append at h.0 h.1)

-- without counts the sum is 0
none_counted : (xs : List ℕ) → sum_by (slice_index []) xs ≡ 0
none_counted [] = refl
none_counted (x ∷ xs) = omega (arith, none_counted xs, sum_by-cons (slice_index []) x xs)

module _ (f : List ℕ) (F : Frame) (heights : List ℕ) (valid : IsValid f F heights) where
  -- an object of height 1 refers to none
  lowest_alone : (n : ℕ) (c : Content) → slice_index heights n ≡ 1 → Spells f F n c → (m : ℕ) → Contains (refs c) m → ⊥
  lowest_alone n c low s m among =
      let lower = references_lower f F heights valid n m (omega (arith, low)) (c, s, among) in
      omega (arith, lower.0, lower.1, low)

  -- its value is one node, whatever the counts of others are
  lowest_one : (v : Value) (n : ℕ) → slice_index heights n ≡ 1 → Holds f F n v → cap (nodes v) ≡ 1
  lowest_one v n low h =
      let known = (valid.vouched n (omega (arith, low))).spells in
      let one = value_counted f F [] v n known.shape h (λ c s. one_head f F n c _ s known ∙ known.means)
      (λ c s. all_from (IsCounted f F []) (refs c) (λ m among. absurd (lowest_alone n c low s m among))) in
      omega (arith, one, none_counted (refs (content_at f F known.shape)))

  module _ (order : List ℕ) (is : IsOrder heights 1 order) where
    abbrev pub nth : ℕ → ℕ
    nth k = slice_index order k

    above_at : (k : ℕ) → k < length order → 1 < slice_index heights (nth k)
    above_at k l = is.only (nth k) (Contains-get_or order k 0 l)

    -- an object of the order holds a value
    pub value_in : (k : ℕ) → k < length order → (v : Value) × Holds f F (nth k) v
    value_in k l = let above = above_at k l in let o = object_holds f F heights valid (nth k) (omega (arith, above)) in (o.0, o.1)

    -- and its references have their counts already
    pub refs_counted : (k : ℕ) (counts : List ℕ) → k < length order → AreCounted f F heights order k counts → (c : Content) → Spells f F (nth k) c
        → AllByRecursion (IsCounted f F counts) (refs c)
    refs_counted k counts l are c s = all_from (IsCounted f F counts) (refs c) (λ m among.
        let lower = references_lower f F heights valid (nth k) m (omega (arith, above_at k l)) (c, s, among) in
        elim (cases_eq (slice_index heights m) 1) [
          | inl low ↦ are.lowest m low
          | inr high ↦
              let place = lower_before heights order 1 k m is (omega (arith, lower.0, high)) lower.1 in
              subst (IsCounted f F counts) place.2 (are.done place.0 place.1)
        ])

    -- one more object has its count
    pub counted_more : (k : ℕ) (counts : List ℕ) (count : ℕ) → k < length order → length counts ≡ F.objects → AreCounted f F heights order k counts
        → ((v : Value) → Holds f F (nth k) v → count ≡ cap (nodes v)) → AreCounted f F heights order (k + 1) (slice_set counts (nth k) count)
    counted_more k counts count l long are this =
        let room : nth k < length counts = omega (arith, order_inside heights order 1 F.objects is valid.count k l, long) in
        record {
          lowest = λ n low v h. get_or-set_other counts (nth k) n count 0 (λ same. let above = above_at k l in let equal = ap (slice_index heights) same in omega (arith, above, equal, low)) ∙ are.lowest n low v h;
          done = λ j below v h. elim (cases_eq (nth j) (nth k)) [
            | inl same ↦ ap (slice_index (slice_set counts (nth k) count)) same ∙ get_or-set_same counts (nth k) count 0 room ∙ this v (subst (λ n. Holds f F n v) same h)
            | inr other ↦ get_or-set_other counts (nth k) (nth j) count 0 other ∙ are.done j (not_last order k j below other) v h
          ];
        }

    -- before any other object is counted
    pub counted_none : (counts : List ℕ) → counts ≡ replicate F.objects 1 → AreCounted f F heights order 0 counts
    counted_none counts ones = record {
      lowest = λ n low v h.
          let there : n < F.objects = omega (arith, inside_of heights 0 n (omega (arith, low)), valid.count) in
          ap (λ c. slice_index c n) ones ∙ get_or-replicate F.objects n 1 0 there ∙ sym (lowest_one v n low h);
      done = λ j below. absurd (omega (arith, below));
    }

    -- all objects have their counts
    pub counted_all : (counts : List ℕ) → AreCounted f F heights order (length order) counts → (n : ℕ) → IsVouchedBy heights n → IsCounted f F counts n
    counted_all counts are n vo = elim (cases_eq (slice_index heights n) 1) [
      | inl low ↦ are.lowest n low
      | inr high ↦
          let place = place_in order n (is.all n (omega (arith, vo, high))) in
          subst (IsCounted f F counts) place.2 (are.done place.0 place.1)
    ]

pub counted_prop : (f : List ℕ) (F : Frame) (heights counts : List ℕ) → IsProp ((n : ℕ) → IsVouchedBy heights n → IsCounted f F counts n)
counted_prop f F heights counts = Prim.hlevel props
