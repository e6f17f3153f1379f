-- A file that is well formed has a table of the least heights of its reached objects.
use Rattle.std.proofs.Common.{◌≡◌, ℕ, zero, suc, ◌<◌, ◌≤◌, inl, inr, List, [], ◌∷◌, length, map, slice_index, refl, ap, arith}
use Rattle.std.specs.List.{AllByRecursion, range_with_len}
use Rattle.std.proofs.Math.ListN.{get_or-eq_default}
use Rattle.std.proofs.lemmas.Bool.{cases_lt}
use Rattle.std.proofs.lemmas.List.FromFn.{get_or-map-range_with_len, length-map-range_with_len}
use Rattle.bplist_objects.specs.declared.frame.Frame.{Frame}
use Rattle.bplist_objects.specs.Spelled.{refs_at}
use Rattle.bplist_objects.proofs.FrameTies.{numbered}
use Rattle.bplist_objects.proofs.Lists.{all_from}
use Rattle.bplist_objects.proofs.ReachedObjects.{reach_within, refs_iff, refs_within}
use Rattle.bplist_lint.specs.Graph.{AreLeast, Ends, Least, Reaches, greatest}
use Rattle.bplist_lint.specs.Graph.Ends.{ends}
use Rattle.bplist_lint.specs.Graph.Least.{above}
use Rattle.bplist_lint.specs.WellFormed.{IsWellFormed}
use Rattle.bplist_lint.proofs.FiniteGraphs.{reach_decided}
use Rattle.bplist_lint.proofs.HeightSteps.{height_over}
use Rattle.bplist_lint.proofs.ReferenceGraph.{founded_ends, reach_founded, reach_iff}

-- ---- a founded object has a least height
module _ (graph : ℕ → List ℕ) where
  abbrev HaveLeast : List ℕ → List ℕ → Type 0
  HaveLeast xs hs = (i : ℕ) → i < length xs → Least graph (slice_index xs i) (slice_index hs i)

  least_more : (x h : ℕ) (xs hs : List ℕ) → Least graph x h → HaveLeast xs hs → HaveLeast (x ∷ xs) (h ∷ hs)
  least_more x h xs hs first rest zero low = first
  least_more x h xs hs first rest (suc i) low = rest i (omega (arith, low))

  least_each : (xs : List ℕ) → AllByRecursion (λ m. (h : ℕ) × Least graph m h) xs → (hs : List ℕ) × (length hs ≡ length xs) × HaveLeast xs hs
  least_each [] a = ([], refl, λ i low. absurd (omega (arith, low)))
  least_each (x ∷ xs) a = let rest = least_each xs a.1 in (a.0.0 ∷ rest.0, ap suc rest.1, least_more x a.0.0 xs rest.0 a.0.1 rest.2)

  least_there : (n : ℕ) → Ends graph n → (h : ℕ) × Least graph n h
  least_there _ (ends n each) =
      let hs = least_each (graph n) (all_from (λ m. (h : ℕ) × Least graph m h) (graph n) (λ m c. least_there m (each m c))) in
      (suc (greatest hs.0), above n hs.0 hs.1 hs.2)

module _ (f : List ℕ) (F : Frame) (w : IsWellFormed f F) where
  -- the height of an object that is reached, and 0 for any other
  height_of : (n : ℕ) → (h : ℕ) × (0 < h → Reaches (refs_at f F) F.top.0 n × Least (refs_at f F) n h) × (Reaches (refs_at f F) F.top.0 n → 0 < h)
  height_of n = elim (reach_decided (refs_at f F) F.objects (λ k m c. refs_within f F k m ((refs_iff f F k m).1 c)) F.top.0 (numbered w.frame).top n) [
    | inl r ↦
        let least = least_there (refs_at f F) n (founded_ends f F n (reach_founded f F w.founded n ((reach_iff f F n).0 r))) in
        (least.0, (λ _. (r, least.1)), λ _. height_over (refs_at f F) n least.0 least.1)
    | inr never ↦ (0, (λ some. absurd (omega (arith, some))), λ r. absurd (never r))
  ]

  pub least_table : List ℕ
  least_table = map (λ n. (height_of n).0) (range_with_len 0 F.objects)

  pub least_table_all : length least_table ≡ F.objects
  unfolding least_table
  least_table_all = length-map-range_with_len (λ n. (height_of n).0) 0 F.objects

  table_at : (n : ℕ) → n < F.objects → slice_index least_table n ≡ (height_of n).0
  unfolding least_table
  table_at n low = get_or-map-range_with_len (λ n. (height_of n).0) 0 F.objects n n 0 low (omega arith)

  pub least_table_least : AreLeast (refs_at f F) F.top.0 least_table
  least_table_least = record {
    vouched = λ n some. elim (cases_lt n F.objects) [
      | inl low ↦ rw (table_at n low) ((height_of n).1 (rw (table_at n low) at some))
      | inr high ↦ let past : length least_table ≤ n = rw least_table_all high in absurd (omega (arith, some, get_or-eq_default least_table 0 past))
    ];
    all = λ n r _. rw (table_at n (reach_within f F (numbered w.frame).top n ((reach_iff f F n).0 r))) ((height_of n).2 r);
  }
