-- The graph of a file's references and the definitions over what objects spell say the same.
use Rattle.std.proofs.Common.{◌≡◌, ℕ, zero, suc, ◌+◌, ◌<◌, ◌≤◌, ◌↔◌, List, length, map, slice_index, refl, sym, ap, ◌∙◌, subst, arith, Contains}
use Rattle.std.proofs.lemmas.List.{ext_get_or, get_or-map, length-map}
use Rattle.std.proofs.lemmas.List.Elements.{Contains-get_or}
use Rattle.bplist_objects.specs.declared.frame.Frame.{Frame}
use Rattle.bplist_objects.specs.Heads.{Content, Spells, refs}
use Rattle.bplist_objects.specs.Reach.{Reach, top, next, Founded, founded}
use Rattle.bplist_objects.specs.Spelled.{refs_at}
use Rattle.bplist_objects.proofs.ReachedObjects.{refs_spelled, refs_iff, founded_refs}
use Rattle.bplist_lint.specs.Graph.{Reaches, Ends, Least, greatest, IsFirstWithout, IsFirstUnfoundedIn, IsCircleBy, IsCircleOf, AreLeast}
use Rattle.bplist_lint.specs.Graph.Reaches.{start, onward}
use Rattle.bplist_lint.specs.Graph.Ends.{ends}
use Rattle.bplist_lint.specs.Graph.Least.{above}
use Rattle.bplist_lint.specs.FileFault.{IsCircle}
use Rattle.bplist_lint.specs.LeastHeights.{AreLeastHeights}
use Rattle.bplist_lint.proofs.FirstWithout.{IsFirstUnfounded, first_among, first_too}
use Rattle.bplist_lint.proofs.FoundedObjects.{StandsLeast}

-- ---- least heights in a graph
-- an object has one least height
pub least_one : (graph : ℕ → List ℕ) (n a b : ℕ) → Least graph n a → Least graph n b → a ≡ b
least_one graph _ _ _ (above n hs long each) (above _ hs' long' each') =
    ap (λ xs. suc (greatest xs)) (ext_get_or 0 hs hs' (long ∙ sym long') (λ i l.
    let i1 : i < length (graph n) = omega (arith, l, long) in
    least_one graph (slice_index (graph n) i) (slice_index hs i) (slice_index hs' i) (each i i1) (each' i i1)))

module _ (f : List ℕ) (F : Frame) where
  -- ---- what is reached
  reach_to : (n : ℕ) → Reaches (refs_at f F) F.top.0 n → Reach f F n
  reach_to _ start = top
  reach_to _ (onward n m r c) = next (reach_to n r) ((refs_iff f F n m).1 c)

  reach_from : (n : ℕ) → Reach f F n → Reaches (refs_at f F) F.top.0 n
  reach_from n top = start
  reach_from n (next {n = k} r e) = onward k n (reach_from k r) ((refs_iff f F k n).0 e)

  pub reach_iff : (n : ℕ) → Reaches (refs_at f F) F.top.0 n ↔ Reach f F n
  reach_iff n = (reach_to n, reach_from n)

  -- ---- what is founded
  pub founded_ends : (n : ℕ) → Founded f F n → Ends (refs_at f F) n
  founded_ends n (founded c s each) = ends n (λ m i. founded_ends m (each m (subst (λ ms. Contains ms m) (refs_spelled f F n c s) i)))

  -- what the top reaches of a founded top is founded
  pub reach_founded : Founded f F F.top.0 → (n : ℕ) → Reach f F n → Founded f F n
  reach_founded t n top = t
  reach_founded t n (next {n = k} r e) = founded_refs f F k n (reach_founded t k r) e

  module _ (spelled : (n : ℕ) → Reach f F n → (c : Content) × Spells f F n c) where
    ends_founded : (n : ℕ) → Reach f F n → Ends (refs_at f F) n → Founded f F n
    ends_founded _ r (ends n each) =
        let s = spelled n r in
        founded s.0 s.1 (λ m i. ends_founded m (next r (s.0, s.1, i)) (each m (subst (λ ms. Contains ms m) (sym (refs_spelled f F n s.0 s.1)) i)))

    pub founded_iff : (n : ℕ) → Reach f F n → Ends (refs_at f F) n ↔ Founded f F n
    founded_iff n r = (ends_founded n r, founded_ends n)

    -- ---- the first reference that is not founded
    next_leads : (n m : ℕ) → Reach f F n → IsFirstUnfoundedIn (refs_at f F) n m → IsFirstUnfounded f F n m
    next_leads n m r x =
        let s = spelled n r in
        let own = subst (λ ms. IsFirstWithout (Ends (refs_at f F)) ms m) (refs_spelled f F n s.0 s.1) x in
        (s.0, s.1, first_too (Ends (refs_at f F)) (Founded f F) (refs s.0) (λ k c. founded_iff k (next r (s.0, s.1, c))) m own)

    leads_next : (n m : ℕ) → Reach f F n → IsFirstUnfounded f F n m → IsFirstUnfoundedIn (refs_at f F) n m
    leads_next n m r x =
        subst (λ ms. IsFirstWithout (Ends (refs_at f F)) ms m) (sym (refs_spelled f F n x.0 x.1))
        (first_too (Founded f F) (Ends (refs_at f F)) (refs x.0) (λ k c. let e = founded_iff k (next r (x.0, x.1, c)) in (e.1, e.0)) m x.2)

    -- ---- the circle
    -- the objects of a walk along references are reached
    module _ (along : ℕ → ℕ → Type 0) (refers : (n m : ℕ) → Reach f F n → along n m → Reach f F m) (circle : List ℕ) (c : IsCircleBy along F.top.0 circle) where
      pub walk_reached : (k : ℕ) → k ≤ c.i + length circle → Reach f F (c.x k)
      walk_reached zero l = subst (Reach f F) (sym c.begins) top
      walk_reached (suc k) l = refers (c.x k) (c.x (suc k)) (walk_reached k (omega (arith, l))) (c.leads k (omega (arith, l)))

      pub walked_by : (other : ℕ → ℕ → Type 0) → ((n m : ℕ) → Reach f F n → along n m → other n m) → IsCircleBy other F.top.0 circle
      walked_by other change = record {
        x = c.x;
        i = c.i;
        begins = c.begins;
        leads = λ k l. change (c.x k) (c.x (suc k)) (walk_reached k (omega (arith, l))) (c.leads k l);
        some = c.some;
        meets = c.meets;
        least = c.least;
        listed = c.listed;
      }

    next_reached : (n m : ℕ) → Reach f F n → IsFirstUnfoundedIn (refs_at f F) n m → Reach f F m
    next_reached n m r x = next r ((refs_iff f F n m).1 (first_among (Ends (refs_at f F)) (refs_at f F n) m x))

    leads_reached : (n m : ℕ) → Reach f F n → IsFirstUnfounded f F n m → Reach f F m
    leads_reached n m r x = next r (x.0, x.1, first_among (Founded f F) (refs x.0) m x.2)

    pub circle_iff : (circle : List ℕ) → IsCircleOf (refs_at f F) F.top.0 circle ↔ IsCircle f F circle
    circle_iff circle = (
      λ c. walked_by (IsFirstUnfoundedIn (refs_at f F)) next_reached circle c (IsFirstUnfounded f F) next_leads,
      λ c. walked_by (IsFirstUnfounded f F) leads_reached circle c (IsFirstUnfoundedIn (refs_at f F)) leads_next,
    )

    -- ---- the least heights
    module _ (heights : List ℕ) (least : AreLeast (refs_at f F) F.top.0 heights) (founded_top : Founded f F F.top.0) where
      vouched_reached : (n : ℕ) → Reach f F n → 0 < slice_index heights n
      vouched_reached n r = least.all n (reach_from n r) (founded_ends n (reach_founded founded_top n r))

      stands : (n h : ℕ) → Reach f F n → slice_index heights n ≡ h → Least (refs_at f F) n h → StandsLeast f F heights n
      stands _ _ r e (above n hs long each) =
          let s = spelled n r in
          let same = refs_spelled f F n s.0 s.1 in
          let all : hs ≡ map (slice_index heights) (refs_at f F n) =
          ext_get_or 0 hs (map (slice_index heights) (refs_at f F n)) (long ∙ sym (length-map (refs_at f F n) (slice_index heights))) (λ i l.
          let i1 : i < length (refs_at f F n) = omega (arith, l, long) in
          let m = slice_index (refs_at f F n) i in
          let reached : Reach f F m = next r ((refs_iff f F n m).1 (Contains-get_or (refs_at f F n) i 0 i1)) in
          let own = (least.vouched m (vouched_reached m reached)).1 in
          least_one (refs_at f F) m (slice_index hs i) (slice_index heights m) (each i i1) own
          ∙ sym (get_or-map (slice_index heights) (refs_at f F n) i 0 0 i1)) in
          let sum = ap greatest (all ∙ ap (map (slice_index heights)) same) in
          (s.0, s.1, omega (arith, e, sum))

      pub are_least_heights : length heights ≡ F.objects → AreLeastHeights f F heights
      are_least_heights count = record {
        count = count;
        least = λ n r. stands n (slice_index heights n) r refl (least.vouched n (vouched_reached n r)).1;
        only = λ n v. reach_to n (least.vouched n (omega (arith, v))).0;
      }
