-- References, block by block.
use Rattle.std.proofs.Common.{◌≡◌, ◌≢◌, ℕ, ◌+◌, ◌-◌, ◌*◌, ◌<◌, ◌≤◌, ◌⊎◌, inl, inr, min, IsTrue, List, length, take, slice_index, Option, Some, None, refl, sym, ap, ◌∙◌, subst, arith}
use Rattle.std.proofs.lemmas.Bool.{cases_lt}
use Rattle.std.proofs.lemmas.Grind.{get_or_default_zero}
use Rattle.std.proofs.lemmas.List.{get_or-take, length-take}
use Rattle.bplist_objects.specs.declared.frame.Frame.{Frame}
use Rattle.bplist_objects.specs.declared.head.Head.{Head}
use Rattle.bplist_objects.specs.Safe.{ref_count}
use Rattle.bplist_objects.specs.Scan.{ref}
use Rattle.bplist_objects.specs.KeyCounts.{key_count}
use Rattle.bplist_objects.specs.declared.head.Kind.TheVariants.{Dict}
use Rattle.bplist_keys.specs.Classes.{IsNamedBy}
use Rattle.bplist_cert.specs.declared.key_names.KeyNames.{KeyNames}
use Rattle.bplist_cert.specs.declared.heights.Wanted.{Wanted}
use Rattle.bplist_cert.specs.Walks.{AreStamped, HasCollected, HasStamped, IfCollected}
use Rattle.bplist_cert.specs.Heights.{Meets, AreMet, AreMetBy, IsFirstUnmet, IsFirstUnmetBy}

module _ (f : List ℕ) (F : Frame) (heights : List ℕ) (head : Head) (wanted : Wanted) (done : ℕ) (refs : List ℕ) where
  -- these are the references from a number on
  abbrev pub AreNext : Type 0
  AreNext = (k : ℕ) → k < length refs → slice_index refs k ≡ ref f F head (done + k)

  -- the first references of the block are as wanted
  pub met_more : AreNext → AreMet f F heights head wanted done → (n : ℕ) → n ≤ length refs → AreMetBy heights wanted refs n → AreMet f F heights head wanted (done + n)
  met_more next met n few by k lt = go (cases_lt k done)
    where
      go : (k < done) ⊎ (done ≤ k) → Meets wanted (slice_index heights (ref f F head k))
      go (inl before) = met k before
      go (inr from) =
          let behind : done + (k - done) ≡ k = omega (arith, from) in
          let here : slice_index refs (k - done) ≡ ref f F head k = next (k - done) (omega (arith, lt, from, few)) ∙ ap (ref f F head) behind in
          subst (λ m. Meets wanted (slice_index heights m)) here (by (k - done) (omega (arith, lt, from)))

  -- the first reference of the block that is not as wanted is the first of all
  pub unmet_there : AreNext → AreMet f F heights head wanted done → done + length refs ≤ ref_count head.kind head.count
      → (i : ℕ) → IsFirstUnmetBy heights wanted refs i → IsFirstUnmet f F heights head wanted (done + i)
  unmet_there next met few i first = (
    omega (arith, few, first.within),
    met_more next met i (omega (arith, first.within)) first.before,
    λ more. first.unmet (subst (λ m. Meets wanted (slice_index heights m)) (sym (next i first.within)) (more (done + i) (omega arith))),
  )

-- with those of a block, the keys so far have stamps
stamps_more : (f : List ℕ) (F : Frame) (head : Head) (done : ℕ) (refs : List ℕ) → ((k : ℕ) → k < length refs → slice_index refs k ≡ ref f F head (done + k))
    → (all : ℕ) (before after : List ℕ) → ((x : ℕ) → 0 < slice_index before x → 0 < slice_index after x)
    → ((k : ℕ) → k < head.count → k < done → ref f F head k < all → 0 < slice_index before (ref f F head k))
    → (keys : ℕ) → ((k : ℕ) → k < head.count - done → k < length refs → k < keys) → keys ≤ length refs
    → ((j : ℕ) → j < length (take keys refs) → slice_index (take keys refs) j < all → 0 < slice_index after (slice_index (take keys refs) j))
    → (k : ℕ) → k < head.count → k < done + length refs → ref f F head k < all → 0 < slice_index after (ref f F head k)
stamps_more f F head done refs next all before after keeps stamped keys enough few new k low lt inside = elim (cases_lt k done) [
  | inl old ↦ keeps (ref f F head k) (stamped k low old inside)
  | inr from ↦
      let j_keys : k - done < keys = enough (k - done) (omega (arith, from, low)) (omega (arith, from, lt)) in
      let behind : done + (k - done) ≡ k = omega (arith, from) in
      let here : slice_index (take keys refs) (k - done) ≡ ref f F head k =
      get_or-take keys refs (k - done) 0 j_keys ∙ next (k - done) (omega (arith, lt, from)) ∙ ap (ref f F head) behind in
      let long : k - done < length (take keys refs) = omega (arith, j_keys, few, length-take keys refs) in
      subst (λ m. 0 < slice_index after m) here (new (k - done) long (subst (λ m. m < all) (sym here) inside))
]

-- of the first references, those to keys are to different objects with this stamp
abbrev AreStampedKeys : List ℕ → Frame → Head → ℕ → ℕ → List ℕ → Type 0
AreStampedKeys f F head many stamp last =
    ((k : ℕ) → k < head.count → k < many → slice_index last (ref f F head k) ≡ stamp)
    × ((j k : ℕ) → j < k → k < head.count → k < many → ref f F head j ≢ ref f F head k)

-- with those of a block
stamped_more : (f : List ℕ) (F : Frame) (head : Head) (done : ℕ) (refs : List ℕ) → ((k : ℕ) → k < length refs → slice_index refs k ≡ ref f F head (done + k))
    → (stamp : ℕ) (before after : List ℕ) (keys : ℕ) → ((k : ℕ) → k < head.count - done → k < length refs → k < keys) → keys ≤ length refs
    → AreStamped stamp (take keys refs) before after → AreStampedKeys f F head done stamp before → AreStampedKeys f F head (done + length refs) stamp after
stamped_more f F head done refs next stamp before after keys enough few (is, apart, only) (old, differ) = (there, other)
  where
    key : (k : ℕ) → k < head.count → k < done + length refs → done ≤ k → slice_index (take keys refs) (k - done) ≡ ref f F head k
    key k low lt from =
        let inside : k - done < keys = enough (k - done) (omega (arith, from, low)) (omega (arith, from, lt)) in
        let behind : done + (k - done) ≡ k = omega (arith, from) in
        get_or-take keys refs (k - done) 0 inside ∙ next (k - done) (omega (arith, lt, from)) ∙ ap (ref f F head) behind

    long : (k : ℕ) → k < head.count → k < done + length refs → done ≤ k → k - done < length (take keys refs)
    long k low lt from =
        let inside : k - done < keys = enough (k - done) (omega (arith, from, low)) (omega (arith, from, lt)) in
        omega (arith, inside, few, length-take keys refs)

    there : (k : ℕ) → k < head.count → k < done + length refs → slice_index after (ref f F head k) ≡ stamp
    there k low lt = elim (cases_lt k done) [
      | inl early ↦ elim (only (ref f F head k)) [ inl e ↦ e ∙ old k low early | inr e ↦ e ]
      | inr from ↦ subst (λ m. slice_index after m ≡ stamp) (key k low lt from) (is (k - done) (long k low lt from)).1
    ]

    other : (j k : ℕ) → j < k → k < head.count → k < done + length refs → ref f F head j ≢ ref f F head k
    other j k less low lt = elim (cases_lt k done) [
      | inl early ↦ differ j k less low early
      | inr from ↦
          let new : slice_index before (ref f F head k) ≢ stamp = subst (λ m. slice_index before m ≢ stamp) (key k low lt from) (is (k - done) (long k low lt from)).0 in
          elim (cases_lt j done) [
            | inl early ↦ λ e. new (subst (λ m. slice_index before m ≡ stamp) e (old j (omega (arith, less, low)) early))
            | inr late ↦ λ e. apart (j - done) (k - done) (omega (arith, less, late)) (long k low lt from)
                (key j (omega (arith, less, low)) (omega (arith, less, lt)) late ∙ e ∙ sym (key k low lt from))
          ]
    ]

-- of the first references of a dictionary, those to keys have got this stamp; and they are to different objects, if no
-- dictionary has named one twice so far
pub record HasCollectedFirst (f : List ℕ) (F : Frame) (head : Head) (many stamp : ℕ) (before after : KeyNames) : Type 0 where
  pub all : length after.last.items ≡ length before.last.items
  pub keeps : (x : ℕ) → 0 < slice_index before.last.items x → 0 < slice_index after.last.items x
  pub stamped : head.kind ≡ Dict → (k : ℕ) → k < head.count → k < many → ref f F head k < length before.last.items → 0 < slice_index after.last.items (ref f F head k)
  pub only : (x : ℕ) → 0 < slice_index after.last.items x → (0 < slice_index before.last.items x) ⊎ IsNamedBy f F head many x
  pub apart : IsTrue after.apart → IsTrue before.apart × (head.kind ≡ Dict → AreStampedKeys f F head many stamp after.last.items)

module _ (f : List ℕ) (F : Frame) (head : Head) (stamp : ℕ) where
  -- of no references
  pub collected_none : (names : Option KeyNames) → IfCollected names names (HasCollectedFirst f F head 0 stamp)
  collected_none None = tt
  collected_none (Some names) = record {
    all = refl;
    keeps = λ x some. some;
    stamped = λ dict k low few. absurd (omega (arith, few));
    only = λ x some. inl some;
    apart = λ apart. (apart, λ dict. (λ k low few. absurd (omega (arith, few)), λ j k less low few. absurd (omega (arith, few))));
  }

  -- with those of a block
  module _ (done : ℕ) (refs : List ℕ) (next : (k : ℕ) → k < length refs → slice_index refs k ≡ ref f F head (done + k)) where
    abbrev keys : ℕ
    keys = min (length refs) (key_count head.kind head.count - done)

    enough : head.kind ≡ Dict → (k : ℕ) → k < head.count - done → k < length refs → k < keys
    enough dict k low short =
        let all : key_count head.kind head.count ≡ head.count = ap (λ kind. key_count kind head.count) dict in
        omega (arith, low, short, all)

    few : keys ≤ length refs
    few = omega arith

    more : (first before after : KeyNames) → HasCollectedFirst f F head done stamp first before → HasStamped stamp (take keys refs) before after
        → HasCollectedFirst f F head (done + length refs) stamp first after
    more first before after old new = record {
      all = new.all ∙ old.all;
      keeps = λ x some. new.keeps x (old.keeps x some);
      stamped = λ dict. stamps_more f F head done refs next (length first.last.items) before.last.items after.last.items new.keeps (old.stamped dict) keys (enough dict) few
          (λ j short below. new.stamped j short (omega (arith, below, old.all)));
      only = λ x some. elim (new.only x some) [
        | inl was ↦ elim (old.only x was) [ inl first ↦ inl first | inr (k, low, is) ↦ inr (k, omega (arith, low), is) ]
        | inr (k, low, is) ↦
            let short : k < keys = omega (arith, low, few, length-take keys refs) in
            inr (done + k, omega (arith, short, few), sym is ∙ get_or_default_zero (take keys refs) k x low ∙ get_or-take keys refs k 0 short ∙ next k (omega (arith, short, few)))
      ];
      apart = λ true.
          let now = new.apart true in
          let was = old.apart now.0 in
          (was.0, λ dict. stamped_more f F head done refs next stamp before.last.items after.last.items keys (enough dict) few now.1 (was.1 dict));
    }

    pub collected_more : (first before after : Option KeyNames) → IfCollected first before (HasCollectedFirst f F head done stamp)
        → IfCollected before after (HasStamped stamp (take keys refs)) → IfCollected first after (HasCollectedFirst f F head (done + length refs) stamp)
    collected_more first before None old new = tt
    collected_more first None (Some after) old new = absurd new
    collected_more None (Some before) (Some after) old new = absurd old
    collected_more (Some first) (Some before) (Some after) old new = more first before after old new

  -- of all references
  pub collected_all : (many : ℕ) → ref_count head.kind head.count ≡ many → (before after : Option KeyNames)
      → IfCollected before after (HasCollectedFirst f F head many stamp) → IfCollected before after (HasCollected f F head)
  collected_all many all before None told = tt
  collected_all many all None (Some after) told = absurd told
  collected_all many all (Some before) (Some after) told = record {
    all = told.all;
    keeps = told.keeps;
    stamped = λ dict k low. told.stamped dict k low (omega (arith, low, all, keys_among dict));
    only = subst (λ count. (x : ℕ) → 0 < slice_index after.last.items x → (0 < slice_index before.last.items x) ⊎ IsNamedBy f F head count x) (sym all) told.only;
    apart = λ true. let now = told.apart true in (now.0, λ dict j k less low. (now.1 dict).1 j k less low (omega (arith, low, all, keys_among dict)));
  }
    where
      keys_among : head.kind ≡ Dict → ref_count head.kind head.count ≡ 2 * head.count
      keys_among dict = ap (λ kind. ref_count kind head.count) dict
