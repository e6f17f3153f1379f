-- Values that files hold have numbers, bytes and units in the ranges of the format.
use Rattle.std.proofs.Common.{◌≡◌, ℕ, zero, suc, ◌+◌, ◌^◌, ◌<◌, ◌≤◌, ◌||◌, inl, inr, List, [], ◌∷◌, Bool, true, false, cond, length, slice_index, drop, nat_le, nat_lt, ℤ, pos, negsuc, ◌-ℤ◌, refl, sym, subst, arith}
use Rattle.std.specs.Prelude.{⊤}
use Rattle.std.specs.Int.Signed.{mag}
use Rattle.std.proofs.Math.Nat.{pow-le-pow_right}
use Rattle.std.proofs.lemmas.Bool.{cases_lt}
use Rattle.std.proofs.lemmas.Int.{ints}
use Rattle.std.proofs.lemmas.List.{get_or_past, length-append, length-take}
use Rattle.hex.specs.Hex.{IsBytes}
use Rattle.bplist_octets.specs.Octets.{num, part}
use Rattle.bplist_octets.proofs.Spelled.{num-lt}
use Rattle.bplist_objects.specs.declared.frame.Frame.{Frame}
use Rattle.bplist_objects.specs.declared.head.Kind.{Kind}
use Rattle.bplist_objects.specs.declared.head.Kind.TheVariants as kinds
use Rattle.bplist_objects.specs.Frame.{IsFrame}
use Rattle.bplist_objects.specs.Heads.{Content, Spells}
use Rattle.bplist_objects.specs.Holds.{Holds, HoldEach, HoldPairs}
use Rattle.bplist_objects.specs.Numbers.{integer, nums_at}
use Rattle.bplist_objects.specs.Units.{IsTextKind, units_at}
use Rattle.bplist_objects.specs.Value.{Leaf, null, boolean, int, real, date, bytes, text, uid, Value, leaf, array, set, dict, Values, no_values, value, Pairs, no_pairs, pair, keys}
use Rattle.bplist_objects.proofs.Integers.{int_count}
use Rattle.bplist_objects.proofs.Leaves.{bytes_value, date_value, int_value, real_value, text_value}
use Rattle.bplist_objects.proofs.Parts.{get_or-part}
use Rattle.bplist_cursor.specs.Members.{members}
use Rattle.bplist_cursor.proofs.Counts.{few_refs, pair_counts}
use Rattle.bplint_engine.specs.Told.{AreShownPairs, HasShownKeys, HaveShownKeys, IsShownKey}
use Rattle.bplint_engine.proofs.ToldTexts.{AreUnits}

-- the leaf has bytes and units, and numbers of at most 128 bits
abbrev pub IsLeafOfFile : Leaf → Type 0
IsLeafOfFile (int i) = mag i < 2 ^ 128
IsLeafOfFile (real l) = IsBytes l
IsLeafOfFile (date l) = IsBytes l
IsLeafOfFile (bytes l) = IsBytes l
IsLeafOfFile (text us) = AreUnits us
IsLeafOfFile (uid x) = x < 2 ^ 128
IsLeafOfFile _ = ⊤

abbrev mutual
  -- the same of all leaves and keys, which can be shown
  pub IsShown : Value → Type 0
  IsShown (leaf l) = IsLeafOfFile l
  IsShown (array vs) = (length (members vs) < 2 ^ 64) × AreShown vs
  IsShown (set vs) = (length (members vs) < 2 ^ 64) × AreShown vs
  IsShown (dict ps) = (length (keys ps) < 2 ^ 64) × ArePairsShown ps

  pub AreShown : Values → Type 0
  AreShown no_values = ⊤
  AreShown (value v vs) = IsShown v × AreShown vs

  pub ArePairsShown : Pairs → Type 0
  ArePairsShown no_pairs = ⊤
  ArePairsShown (pair key v ps) = AreUnits key × IsShownKey key × IsShown v × ArePairsShown ps

all_units : (l : List ℕ) → IsBytes l → AreUnits l
all_units [] h = tt
all_units (b ∷ l) h = (omega (arith, h 0), all_units l (λ i. h (suc i)))

size_bound : (n : ℕ) → n ≤ 16 → 256 ^ n ≤ 2 ^ 128
size_bound n l = pow-le-pow_right {n = 256} (omega arith) l

-- a difference of two numbers
difference_small : (a b : ℕ) (z : ℤ) → a < 2 ^ 128 → b ≤ 2 ^ 128 → z ≡ pos a -ℤ pos b → mag z < 2 ^ 128
difference_small a b (pos n) s t e = omega (arith, ints, s, t, e)
difference_small a b (negsuc n) s t e = omega (arith, ints, s, t, e)

integer_small : (l : List ℕ) → length l ≤ 16 → IsBytes l → mag (integer l) < 2 ^ 128
integer_small l many h = by (nat_le (length l) 4 || nat_lt (slice_index l 0) 128)
  where
    low : num l < 2 ^ 128
    low = let most = num-lt l h in let most16 = size_bound (length l) many in omega (arith, most, most16)

    by : (t : Bool) → mag (cond t (pos (num l)) (pos (num l) -ℤ pos (256 ^ length l))) < 2 ^ 128
    by true = low
    by false = difference_small (num l) (256 ^ length l) _ low (size_bound (length l) many) refl

module _ (f : List ℕ) (F : Frame) (octets : IsBytes f) (frame : IsFrame f F) where
  part_bytes : (place n : ℕ) → IsBytes (part f place n)
  part_bytes place n i = elim (cases_lt i n) [
    | inl within ↦ subst (λ b. b < 256) (sym (get_or-part f place n i 0 within)) (octets (place + i))
    | inr past ↦ let many = length-take n (drop place f) in subst (λ b. b < 256) (sym (get_or_past (part f place n) i 0 (omega (arith, many, past)))) (omega arith)
  ]

  wide_units : (place count : ℕ) → AreUnits (nums_at f place 2 count)
  wide_units place zero = tt
  wide_units place (suc count) =
      let most = num-lt (part f place 2) (part_bytes place 2) in
      let many = length-take 2 (drop place f) in
      let short : length (part f place 2) ≤ 2 = omega (arith, many) in
      let bound = pow-le-pow_right {n = 256} (omega arith) short in
      (omega (arith, most, bound), wide_units (place + 2) count)

  text_units : (kind : Kind) (count body : ℕ) → IsTextKind kind → AreUnits (units_at f kind count body)
  text_units kinds.Wide count body is = wide_units body count
  text_units kinds.Ascii count body is = all_units _ (part_bytes body count)
  text_units _ count body is = absurd is

  leaf_of_file : (l : Leaf) (n : ℕ) → Spells f F n (Content.leaf l) → IsLeafOfFile l
  leaf_of_file (int i) n s =
      let is = int_value f F s.shape.kind s.shape.count s.shape.body i s.means in
      let few = (int_count s.shape.kind s.shape.count is.0 (s.has.has.front, s.has.has.announces)).1 in
      let many = length-take s.shape.count (drop s.shape.body f) in
      subst (λ z. mag z < 2 ^ 128) (sym is.1) (integer_small (part f s.shape.body s.shape.count) (omega (arith, few, many)) (part_bytes s.shape.body s.shape.count))
  leaf_of_file (real l) n s = subst IsBytes (sym (real_value f F s.shape.kind s.shape.count s.shape.body l s.means).1) (part_bytes s.shape.body s.shape.count)
  leaf_of_file (date l) n s = subst IsBytes (sym (date_value f F s.shape.kind s.shape.count s.shape.body l s.means).1) (part_bytes s.shape.body s.shape.count)
  leaf_of_file (bytes l) n s = subst IsBytes (sym (bytes_value f F s.shape.kind s.shape.count s.shape.body l s.means).1) (part_bytes s.shape.body s.shape.count)
  leaf_of_file (text us) n s =
      let is = text_value f F s.shape.kind s.shape.count s.shape.body us s.means in
      subst AreUnits (sym is.1) (text_units s.shape.kind s.shape.count s.shape.body is.0)
  leaf_of_file (uid x) n s = let few = s.uid x refl in omega (arith, few)
  leaf_of_file null n s = tt
  leaf_of_file (boolean b) n s = tt

  as_many : (ms : List ℕ) (vs : Values) → HoldEach f F ms vs → length ms ≡ length (members vs)
  as_many [] no_values h = refl
  as_many [] (value v vs) h = absurd h
  as_many (m ∷ ms) no_values h = absurd h
  as_many (m ∷ ms) (value v vs) h = let e = as_many ms vs h.1 in omega (arith, e)

  mutual
    -- a value that the file holds, with keys that can be shown
    pub held_shown : (v : Value) (n : ℕ) → Holds f F n v → HasShownKeys v → IsShown v
    held_shown (leaf l) n h k = leaf_of_file l n h
    held_shown (array vs) n h k =
        let few = few_refs f F frame n (Content.array h.0) h.1 in
        (omega (arith, few, as_many h.0 vs h.2), each_shown vs h.0 h.2 k)
    held_shown (set vs) n h k =
        let few = few_refs f F frame n (Content.set h.0) h.1 in
        (omega (arith, few, as_many h.0 vs h.2), each_shown vs h.0 h.2 k)
    held_shown (dict ps) n h k =
        let few = few_refs f F frame n (Content.dict h.0 h.1) h.2 in
        let many = pair_counts f F h.0 h.1 ps h.3 in
        let both = length-append h.0 h.1 in
        (omega (arith, few, both, many.0), pairs_shown ps h.0 h.1 h.3 k)

    each_shown : (vs : Values) (ms : List ℕ) → HoldEach f F ms vs → HaveShownKeys vs → AreShown vs
    each_shown no_values ms h k = tt
    each_shown (value v vs) [] h k = absurd h
    each_shown (value v vs) (m ∷ ms) h k = (held_shown v m h.0 k.0, each_shown vs ms h.1 k.1)

    pairs_shown : (ps : Pairs) (ks ms : List ℕ) → HoldPairs f F ks ms ps → AreShownPairs ps → ArePairsShown ps
    pairs_shown no_pairs ks ms h k = tt
    pairs_shown (pair u v ps) [] [] h k = absurd h
    pairs_shown (pair u v ps) [] (m ∷ ms) h k = absurd h
    pairs_shown (pair u v ps) (key ∷ ks) [] h k = absurd h
    pairs_shown (pair u v ps) (key ∷ ks) (m ∷ ms) h k = (leaf_of_file (text u) key h.0, k.0, held_shown v m h.1 k.1, pairs_shown ps ks ms h.2 k.2)
