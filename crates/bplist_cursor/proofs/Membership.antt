-- The references for members, and what their objects hold.
use Rattle.std.proofs.Common.{◌≡◌, ◌<◌, ◌≤◌, ◌+◌, ◌*◌, ◌/◌, ◌%◌, ◌-◌, ◌⊎◌, inl, inr, ℕ, zero, suc, List, [], ◌∷◌, ◌++◌, length, slice_index, slice_get, flat_map, Some, None, refl, sym, ap, ◌∙◌, arith}
use Rattle.std.proofs.lemmas.Bool.{cases_lt}
use Rattle.std.proofs.lemmas.List.{get_or_append_left, get_or-append_right}
use Rattle.std.proofs.lemmas.Option.{slice_get-get_or, slice_get_past}
use Rattle.bplist_objects.specs.declared.frame.Frame.{Frame}
use Rattle.bplist_objects.specs.declared.head.Kind.{Kind}
use Rattle.bplist_objects.specs.declared.head.Kind.TheVariants as kinds
use Rattle.bplist_objects.specs.Numbers.{nums_at}
use Rattle.bplist_objects.specs.Value.{Value, leaf, array, set, dict, Values, no_values, value, Pairs, no_pairs, pair, text}
use Rattle.bplist_objects.specs.Heads.{Content, Spells, content_of, refs}
use Rattle.bplist_objects.specs.Holds.{Holds, HoldEach, HoldPairs}
use Rattle.bplist_objects.specs.Safe.{ref_count}
use Rattle.bplist_objects.proofs.References.{length-nums_at, length-refs, as_many}
use Rattle.bplist_cursor.specs.Members.{members, entries, member_of, member_reference, named, node_of, IsNumberOf, HoldsMember}

-- the keys and values of pairs, each key before its value
abbrev pub in_turn : Pairs → List Value
in_turn ps = flat_map (λ entry. leaf (text entry.0) ∷ entry.1 ∷ []) (entries ps)

-- a number is even or odd
halves : (i : ℕ) → (j : ℕ) × ((i ≡ 2 * j) ⊎ (i ≡ 2 * j + 1))
halves i = elim (cases_lt (i % 2) 1) [
  | inl even ↦ (i / 2, inl (omega (arith, even)))
  | inr odd ↦ (i / 2, inr (omega (arith, odd)))
]

-- an even number names a key
key_in_turn : (ks ms : List ℕ) (i j : ℕ) → length ks ≡ length ms → i ≡ 2 * j → j < length ks → member_reference (Content.dict ks ms) i ≡ Some (slice_index ks j)
key_in_turn (k ∷ ks) (m ∷ ms) zero zero same e l = refl
key_in_turn (k ∷ ks) (m ∷ ms) (suc (suc i)) (suc j) same e l = key_in_turn ks ms i j (omega (arith, same)) (omega (arith, e)) (omega (arith, l))
key_in_turn ks ms i j same e l = absurd (omega (arith, same, e, l))

-- an odd number names a value
value_in_turn : (ks ms : List ℕ) (i j : ℕ) → length ks ≡ length ms → i ≡ 2 * j + 1 → j < length ms → member_reference (Content.dict ks ms) i ≡ Some (slice_index ms j)
value_in_turn (k ∷ ks) (m ∷ ms) (suc zero) zero same e l = refl
value_in_turn (k ∷ ks) (m ∷ ms) (suc (suc i)) (suc j) same e l = value_in_turn ks ms i j (omega (arith, same)) (omega (arith, e)) (omega (arith, l))
value_in_turn ks ms i j same e l = absurd (omega (arith, same, e, l))

none_in_turn : (ks ms : List ℕ) (i : ℕ) → length ks ≡ length ms → length ks + length ms ≤ i → member_reference (Content.dict ks ms) i ≡ None
none_in_turn (k ∷ ks) (m ∷ ms) (suc (suc i)) same l = none_in_turn ks ms i (omega (arith, same)) (omega (arith, l))
none_in_turn (k ∷ ks) (m ∷ ms) _ same l = absurd (omega (arith, l))
none_in_turn _ _ i same l = refl

module _ (f : List ℕ) (F : Frame) where
  -- the number of a member in an array or a set
  in_order : (xs : List ℕ) (count i k : ℕ) → length xs ≡ count → i < count → k ≡ i → slice_get xs i ≡ Some (slice_index xs k)
  in_order xs count i k len l e = slice_get-get_or xs i 0 (omega (arith, len, l)) ∙ ap (λ n. Some (slice_index xs n)) (sym e)

  in_pairs : (ks ms : List ℕ) (count i k : ℕ) → length ks ≡ count → length ms ≡ count → i < 2 * count → IsNumberOf kinds.Dict count i k
      → member_reference (Content.dict ks ms) i ≡ Some (slice_index (ks ++ ms) k)
  in_pairs ks ms count i k lk lm l number = go (halves i)
    where
      go : (j : ℕ) × ((i ≡ 2 * j) ⊎ (i ≡ 2 * j + 1)) → member_reference (Content.dict ks ms) i ≡ Some (slice_index (ks ++ ms) k)
      go (j, inl even) =
          let is = number.0 j even in
          let within : j < length ks = omega (arith, even, l, lk) in
          key_in_turn ks ms i j (lk ∙ sym lm) even within ∙ ap Some (sym (get_or_append_left ks ms 0 j within)) ∙ ap (λ n. Some (slice_index (ks ++ ms) n)) (sym is)
      go (j, inr odd) =
          let is = number.1 j odd in
          let within : j < length ms = omega (arith, odd, l, lm) in
          let at : (count + j) - count ≡ j = omega arith in
          value_in_turn ks ms i j (lk ∙ sym lm) odd within
          ∙ ap (λ n. Some (slice_index ms n)) (sym at)
          ∙ ap Some (sym (get_or-append_right ks ms count (count + j) 0 lk (omega arith)))
          ∙ ap (λ n. Some (slice_index (ks ++ ms) n)) (sym is)

  -- the reference for a member is the one of its number
  reference_of_number : (kind : Kind) (count body i k : ℕ) → i < ref_count kind count → IsNumberOf kind count i k
      → member_reference (content_of f F kind count body) i ≡ Some (slice_index (refs (content_of f F kind count body)) k)
  reference_of_number kinds.Array count body i k l e = in_order (nums_at f body F.ref_size count) count i k (length-nums_at f body F.ref_size count) l e
  reference_of_number kinds.Set count body i k l e = in_order (nums_at f body F.ref_size count) count i k (length-nums_at f body F.ref_size count) l e
  reference_of_number kinds.Dict count body i k l number =
      in_pairs (nums_at f body F.ref_size count) (nums_at f (body + count * F.ref_size) F.ref_size count) count i k
      (length-nums_at f body F.ref_size count) (length-nums_at f (body + count * F.ref_size) F.ref_size count) l number
  reference_of_number _ count body i k l e = absurd (omega (arith, l))

  -- from the end on there is no reference
  no_reference : (kind : Kind) (count body i : ℕ) → ref_count kind count ≤ i → member_reference (content_of f F kind count body) i ≡ None
  no_reference kinds.Array count body i l = slice_get_past (nums_at f body F.ref_size count) i (let n = length-nums_at f body F.ref_size count in omega (arith, n, l))
  no_reference kinds.Set count body i l = slice_get_past (nums_at f body F.ref_size count) i (let n = length-nums_at f body F.ref_size count in omega (arith, n, l))
  no_reference kinds.Dict count body i l =
      let keys = length-nums_at f body F.ref_size count in
      let values = length-nums_at f (body + count * F.ref_size) F.ref_size count in
      none_in_turn (nums_at f body F.ref_size count) (nums_at f (body + count * F.ref_size) F.ref_size count) i (keys ∙ sym values) (omega (arith, keys, values, l))
  no_reference _ count body i l = refl

  module _ (kind : Kind) (count body : ℕ) (content : Content) (same : content ≡ content_of f F kind count body) where
    -- the node of a reference by its number is that of the member
    pub node_of_number : (i k m : ℕ) → i < ref_count kind count → IsNumberOf kind count i k → m ≡ slice_index (refs content) k
        → Some (node_of m) ≡ named (member_reference content i)
    node_of_number i k m l number e =
        ap (λ n. Some (node_of n)) (e ∙ ap (λ c. slice_index (refs c) k) same)
        ∙ sym (ap named (ap (λ c. member_reference c i) same ∙ reference_of_number kind count body i k l number))

    pub no_node : (i : ℕ) → ref_count kind count ≤ i → None ≡ named (member_reference content i)
    no_node i l = sym (ap named (ap (λ c. member_reference c i) same ∙ no_reference kind count body i l))

    pub number_below : (k : ℕ) → k < ref_count kind count → k < length (refs content)
    number_below k l = let n = ap (λ c. length (refs c)) same ∙ length-refs f F kind count body in omega (arith, n, l)

  -- the nodes at an object
  pub no_node_from_end : (content : Content) (n i : ℕ) → Spells f F n content → length (refs content) ≤ i → named (member_reference content i) ≡ None
  no_node_from_end content n i s l =
      let shape = s.shape in
      let count = ap (λ c. length (refs c)) s.means ∙ length-refs f F shape.kind shape.count shape.body in
      ap named (ap (λ c. member_reference c i) s.means ∙ no_reference shape.kind shape.count shape.body i (omega (arith, l, count)))

  keys_and_values : (ks ms : List ℕ) (n : ℕ) → Spells f F n (Content.dict ks ms) → length ks ≡ length ms
  keys_and_values ks ms n s = let count = as_many f F s.shape.kind s.shape.count s.shape.body ks ms s.means in count.0 ∙ sym count.1

  pub node_of_key : (ks ms : List ℕ) (n i j : ℕ) → Spells f F n (Content.dict ks ms) → i ≡ 2 * j → j < length ks
      → named (member_reference (Content.dict ks ms) i) ≡ Some (node_of (slice_index ks j))
  node_of_key ks ms n i j s e l = ap named (key_in_turn ks ms i j (keys_and_values ks ms n s) e l)

  pub node_of_value : (ks ms : List ℕ) (n i j : ℕ) → Spells f F n (Content.dict ks ms) → i ≡ 2 * j + 1 → j < length ms
      → named (member_reference (Content.dict ks ms) i) ≡ Some (node_of (slice_index ms j))
  node_of_value ks ms n i j s e l = ap named (value_in_turn ks ms i j (keys_and_values ks ms n s) e l)

  hold_each : (ms : List ℕ) (vs : Values) (i : ℕ) → HoldEach f F ms vs → HoldsMember f F (slice_get (members vs) i) (named (slice_get ms i))
  hold_each [] no_values i h = refl
  hold_each (m ∷ ms) (value v vs) zero h = h.0
  hold_each (m ∷ ms) (value v vs) (suc i) h = hold_each ms vs i h.1
  hold_each _ _ _ h = absurd h

  hold_pairs : (ks ms : List ℕ) (ps : Pairs) (i : ℕ) → HoldPairs f F ks ms ps → HoldsMember f F (slice_get (in_turn ps) i) (named (member_reference (Content.dict ks ms) i))
  hold_pairs [] [] no_pairs i h = refl
  hold_pairs (k ∷ ks) (m ∷ ms) (pair u v ps) zero h = h.0
  hold_pairs (k ∷ ks) (m ∷ ms) (pair u v ps) (suc zero) h = h.1
  hold_pairs (k ∷ ks) (m ∷ ms) (pair u v ps) (suc (suc i)) h = hold_pairs ks ms ps i h.2
  hold_pairs _ _ _ _ h = absurd h

  -- the objects that the references name hold the members of the value
  pub held_members : (v : Value) (n : ℕ) → Holds f F n v
      → (c : Content) × Spells f F n c × ((i : ℕ) → HoldsMember f F (member_of v i) (named (member_reference c i)))
  held_members (leaf l) n h = (Content.leaf l, h, λ i. refl)
  held_members (array vs) n h = (Content.array h.0, h.1, λ i. hold_each h.0 vs i h.2)
  held_members (set vs) n h = (Content.set h.0, h.1, λ i. hold_each h.0 vs i h.2)
  held_members (dict ps) n h = (Content.dict h.0 h.1, h.2, λ i. hold_pairs h.0 h.1 ps i h.3)
