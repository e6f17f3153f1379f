-- How many units texts have together.
use Rattle.std.proofs.Common.{◌≡◌, ℕ, suc, ◌+◌, ◌-◌, ◌<◌, ◌≤◌, Bool, true, false, cond, List, [], ◌∷◌, ◌++◌, length, map, take, count_by, refl, ap, ◌∙◌, inl, inr, arith}
use Rattle.std.specs.List.{AllByRecursion}
use Rattle.std.specs.List.Sorted.{IsPermutation}
use Rattle.std.proofs.lemmas.Bool.{cases_lt, false≢true}
use Rattle.std.proofs.lemmas.List.Sums.{sum_by_more, sum_by_push, sum_by-cons}
use Rattle.std.proofs.lemmas.List.Sorted.{sum_by-IsPermutation}
use Rattle.bplist_objects.specs.declared.frame.Frame.{Frame}
use Rattle.bplist_objects.specs.declared.head.Head.{Head}
use Rattle.bplist_objects.specs.Extents.{HaveRoom, TakeOctets}
use Rattle.bplist_objects.specs.Frame.{off}
use Rattle.bplist_objects.specs.Heads.{HasShape}
use Rattle.bplist_objects.specs.Holds.{AreDistinct}
use Rattle.bplist_objects.specs.Safe.{IsSafeText}
use Rattle.bplist_objects.specs.Units.{IsTextKind}
use Rattle.bplist_objects.proofs.ExtentSums.{shape_extent}
use Rattle.bplist_objects.proofs.Lists.{all_at, distinct_none, distinct_more}
use Rattle.bplist_objects.proofs.Units.{length-units_at}
use Rattle.bplist_keys.specs.declared.sorting.Item.{Item}
use Rattle.bplist_keys.specs.Groups.{item_at, units_in}
use Rattle.bplist_keys.specs.Marks.{IsMarked}
use Rattle.bplist_keys.specs.Texts.{IsMarkedText, text_units}
use Rattle.bplist_keys.proofs.Listed.{pushed_before, pushed_last, pushed_long}
use Rattle.bplist_keys.proofs.TextUnits.{text_units-head, units_short}

-- a text has as many units as its head says
pub units_count : (f : List ℕ) (F : Frame) (m : ℕ) (key : Head) → HasShape f F m key × IsTextKind key.kind → IsSafeText (length f) key → length (text_units f F m) ≡ key.count
units_count f F m key text safe =
    ap length (text_units-head f F m key text) ∙ length-units_at f key.kind key.count key.body text.1 (omega (arith, safe.body.body, safe.body.within))

one_fewer : (x y : Bool) → (x ≡ true → y ≡ true) → cond x 1 0 ≤ cond y 1 0
one_fewer true false only = absurd (false≢true (only refl))
one_fewer _ _ only = omega arith

-- if fewer objects are marked, their number is no greater
pub marked_fewer : (some all : List Bool) → length some ≡ length all → ((m : ℕ) → IsMarked some m → IsMarked all m) → count_by (λ marked. marked) some ≤ count_by (λ marked. marked) all
marked_fewer [] [] e only = omega arith
marked_fewer (x ∷ xs) (y ∷ ys) e only =
    let rest = marked_fewer xs ys (omega (arith, e)) (λ m. only (suc m)) in
    omega (arith, rest, one_fewer x y (only 0), sum_by-cons (λ (marked : Bool). cond marked 1 0) x xs, sum_by-cons (λ (marked : Bool). cond marked 1 0) y ys)
marked_fewer _ _ e only = absurd (omega (arith, e))

-- the objects of the items ascend
abbrev pub Ascend : List Item → Type 0
Ascend xs = (j k : ℕ) → j < k → k < length xs → (item_at xs j).object < (item_at xs k).object

-- one more item
pub ascend_more : (xs : List Item) (x : Item) → Ascend xs → ((k : ℕ) → k < length xs → (item_at xs k).object < x.object) → Ascend (xs ++ x ∷ [])
ascend_more xs x up below j k less low =
    let long = pushed_long xs x in
    let first = pushed_before xs x j (omega (arith, less, low, long)) in
    elim (cases_lt k (length xs)) [
      | inl inside ↦ rw (first, pushed_before xs x k inside) (up j k less inside)
      | inr end ↦ rw (first, pushed_last xs x k (omega (arith, end, low, long))) (below j (omega (arith, less, low, long)))
    ]

objects_above : (n : ℕ) (xs : List Item) → ((k : ℕ) → k < length xs → n < (item_at xs k).object) → AllByRecursion (λ m. n < m) (map (λ (x : Item). x.object) xs)
objects_above n [] above = tt
objects_above n (x ∷ xs) above = (above 0 (omega arith), objects_above n xs (λ k low. above (suc k) (omega (arith, low))))

module _ (f : List ℕ) (F : Frame) where
  -- one more item
  pub units_pushed : (xs : List Item) (x : Item) → units_in f F (xs ++ x ∷ []) ≡ units_in f F xs + length (text_units f F x.object)
  units_pushed xs x = sum_by_push (λ (y : Item). length (text_units f F y.object)) xs x

  -- the first items and one more
  pub units_taken : (xs : List Item) (k : ℕ) → k < length xs → units_in f F (take (k + 1) xs) ≡ units_in f F (take k xs) + length (text_units f F (item_at xs k).object)
  units_taken xs k low = sum_by_more (λ (y : Item). length (text_units f F y.object)) xs k (record { object = 0; group = 0; number = 0 }) low

  -- the items in another order
  pub units_permuted : (listed before sorted : List Item) → before ≡ listed → IsPermutation before sorted → units_in f F sorted ≡ units_in f F listed
  units_permuted listed before sorted same moved = sum_by-IsPermutation (λ (y : Item). length (text_units f F y.object)) before sorted moved ∙ ap (units_in f F) same

  module _ (marks : List Bool) where
    -- the objects of items: they are different texts, and take at least as many bytes as they have units
    record AreTaken (xs : List Item) : Type 0 where
      octets : ℕ
      take_all : TakeOctets f F (map (λ (x : Item). x.object) xs) octets
      units : units_in f F xs ≤ octets
      texts : AllByRecursion (IsMarkedText f F marks) (map (λ (x : Item). x.object) xs)
      differ : AreDistinct (map (λ (x : Item). x.object) xs)

    taken : (xs : List Item) → ((k : ℕ) → k < length xs → IsMarkedText f F marks (item_at xs k).object) → Ascend xs → AreTaken xs
    taken [] each up = record { octets = 0; take_all = refl; units = omega arith; texts = tt; differ = distinct_none }
    taken (x ∷ xs) each up =
        let rest = taken xs (λ k low. each (suc k) (omega (arith, low))) (λ j k less low. up (suc j) (suc k) (omega (arith, less)) (omega (arith, low))) in
        let own = each 0 (omega arith) in
        let key = own.1.0 in
        let bytes = key.«end» - off f F x.object in
        let short = units_short f F x.object key own.1.1 in
        let others = objects_above x.object xs (λ k low. up 0 (suc k) (omega arith) (omega (arith, low))) in
        record {
          octets = bytes + rest.octets;
          take_all = (bytes, rest.octets, shape_extent f F x.object key own.1.1.0, rest.take_all, refl);
          units = omega (arith, sum_by-cons (λ (y : Item). length (text_units f F y.object)) x xs, short, rest.units);
          texts = (own, rest.texts);
          differ = distinct_more x.object (map (λ (y : Item). y.object) xs) (λ c. let above = all_at (λ m. x.object < m) (map (λ (y : Item). y.object) xs) x.object others c in omega (arith, above)) rest.differ;
        }

    -- marked texts that share no byte have no more units than there are bytes before the table
    pub units_fit : (xs : List Item) → ((k : ℕ) → k < length xs → IsMarkedText f F marks (item_at xs k).object) → Ascend xs → HaveRoom f F (IsMarkedText f F marks) → units_in f F xs ≤ F.table
    units_fit xs each up room =
        let t = taken xs each up in
        let most = room (map (λ (x : Item). x.object) xs) t.octets t.differ t.texts t.take_all in
        omega (arith, t.units, most)
