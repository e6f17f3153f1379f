-- What the walks for heights and for the circle may ask for, by the bytes of the objects.
use Rattle.std.proofs.Common.{◌≡◌, ℕ, zero, suc, ◌+◌, ◌*◌, ◌<◌, ◌≤◌, ◌↔◌, ◌∙◌, Bool, false, cond, List, length, map, slice_index, slice_index_or, inl, inr, ap, arith}
use Rattle.std.specs.Int.{from_bool}
use Rattle.std.proofs.Math.Nat.{mul-add, mul-le-mul_left, mul-le-mul_right}
use Rattle.std.proofs.lemmas.Bool.{cases_Bool, cases_lt}
use Rattle.std.proofs.lemmas.List.{length-drop}
use Rattle.bplist_objects.specs.declared.frame.Frame.{Frame}
use Rattle.bplist_objects.specs.declared.head.Head.{Head}
use Rattle.bplist_objects.specs.Frame.{IsFrame}
use Rattle.bplist_objects.specs.Heads.{HasShape}
use Rattle.bplist_objects.specs.Markers.{head_found}
use Rattle.bplist_objects.specs.Reach.{Reach}
use Rattle.bplist_objects.specs.Safe.{IsSafeFrame, ref_count}
use Rattle.bplist_objects.specs.Spelled.{refs_at}
use Rattle.bplist_keys.specs.Marks.{IsMarked}
use Rattle.bplist_lint.specs.HeightWalks.{AreClosed, first_state, left_for, left_of, state_at}
use Rattle.bplist_lint.specs.ReachRules.{KeepReached, is_marked, reach_rules}
use Rattle.bplist_lint.specs.ReachWalk.{extent, extents_below}
use Rattle.bplist_lint.specs.ReferenceGraph.{graph_of, hidden, refs_in}
use Rattle.bplist_lint.specs.Trail.{trail_bytes}
use Rattle.bplist_lint.specs.declared.graph.View.{View}
use Rattle.bplist_lint.specs.declared.graph.View.TheVariants as views
use Rattle.bplist_lint.specs.declared.heights.State.{State}
use Rattle.bplist_lint.proofs.ExtentBytes.{refs_bytes, shape_of}
use Rattle.bplist_lint.proofs.HeightSteps.{first_is}
use Rattle.bplist_lint.proofs.KeyClasses.{reached_sound}
use Rattle.bplist_lint.proofs.ObjectReferences.{as_shape}
use Rattle.bplist_lint.proofs.RangeSums.{extent_is, extents_next, sum_below, sum_next}
use Rattle.bplist_lint.proofs.ReachSteps.{marked_within}
use Rattle.bplist_lint.proofs.ValueHeights.{all_closed}

module _ (f : List ℕ) (F : Frame) (view : View) (low : 1 ≤ F.ref_size) where
  -- a view shows no more references than the head announces
  shown_few : (n : ℕ) (head : Head) → HasShape f F n head → length (refs_in view f F n) ≤ ref_count head.kind head.count
  shown_few n head shape =
      let fewer = length-drop (hidden view (head_found f F n)) (refs_at f F n) in
      elim (cases_lt 0 (length (refs_at f F n))) [
        | inl some ↦ omega (arith, fewer, (as_shape f F n head shape 0 some).count)
        | inr none ↦ omega (arith, fewer, none)
      ]

  -- and they are among the object's bytes
  shown_bytes : (n : ℕ) (head : Head) → HasShape f F n head → length (refs_in view f F n) * F.ref_size ≤ extent f F n
  shown_bytes n head shape =
      let most : length (refs_in view f F n) * F.ref_size ≤ ref_count head.kind head.count * F.ref_size = mul-le-mul_right F.ref_size (shown_few n head shape) in
      omega (arith, most, refs_bytes f F n head low shape)

  -- what a scan of them all asks for
  scan_few : (n : ℕ) (head : Head) → HasShape f F n head → length (refs_in view f F n) * (3 + F.ref_size) ≤ 4 * extent f F n
  scan_few n head shape =
      let c = length (refs_in view f F n) in
      let one : c * 1 ≤ c * F.ref_size = mul-le-mul_left c low in
      omega (arith, mul-add c 3 F.ref_size, one, shown_bytes n head shape)

-- what marked objects add together, if each adds at most so much, and so often its bytes
module _ (f : List ℕ) (F : Frame) (marks : List Bool) (g : ℕ → ℕ) (a b : ℕ) (each : (n : ℕ) → n < F.objects → IsMarked marks n → g n ≤ a + b * extent f F n) where
  marked_sum : (n : ℕ) → n ≤ F.objects → sum_below (λ m. cond (slice_index_or marks m false) (g m) 0) n ≤ a * n + b * extents_below f F (is_marked marks) n
  marked_sum zero within = omega arith
  marked_sum (suc n) within =
      let before = marked_sum n (omega (arith, within)) in
      let next = sum_next (λ m. cond (slice_index_or marks m false) (g m) 0) n in
      let e : suc n ≡ n + 1 = omega arith in
      let rate : a * suc n ≡ a * n + a * 1 = ap (λ x. a * x) e ∙ mul-add a n 1 in
      let bytes : b * extents_below f F (is_marked marks) (suc n) ≡ b * extents_below f F (is_marked marks) n + b * cond (is_marked marks n) (extent f F n) 0 =
      ap (λ x. b * x) (extents_next f F (is_marked marks) n) ∙ mul-add b (extents_below f F (is_marked marks) n) (cond (is_marked marks n) (extent f F n) 0) in
      elim (cases_Bool (is_marked marks n)) [
        | inl yes1 ↦
            let own : cond (is_marked marks n) (g n) 0 ≡ g n = ap (λ c. cond c (g n) 0) yes1 in
            let taken : b * cond (is_marked marks n) (extent f F n) 0 ≡ b * extent f F n = ap (λ c. b * cond c (extent f F n) 0) yes1 in
            omega (arith, before, next, rate, bytes, own, taken, each n (omega (arith, within)) yes1)
        | inr no1 ↦
            let own : cond (is_marked marks n) (g n) 0 ≡ 0 = ap (λ c. cond c (g n) 0) no1 in
            omega (arith, before, next, rate, bytes, own)
      ]

module _ (f : List ℕ) (F : Frame) (safe : IsSafeFrame (length f) F) (framed : IsFrame f F) (kept : KeepReached f F reach_rules F.objects)
    (marks : List Bool) (all : length marks ≡ F.objects) (marked : (n : ℕ) → IsMarked marks n ↔ Reach f F n) where
  shape_at : (n : ℕ) → n < F.objects → IsMarked marks n → (head : Head) × HasShape f F n head
  shape_at = shape_of f F marks (reached_sound f F marks all framed marked kept) marked

  -- a height slot can count the references of a marked object
  pub values_closed : AreClosed (graph_of 0 views.Values f F) marks
  values_closed =
      all_closed f F framed kept marks marked views.Values (λ n is.
      let shape = shape_at n (omega (arith, marked_within marks n is, all)) is in
      let c = length (refs_in views.Values f F n) in
      let one : c * 1 ≤ c * F.ref_size = mul-le-mul_left c safe.safe.ref_low in
      omega (arith, one, shown_bytes f F views.Values safe.safe.ref_low n shape.0 shape.1, extent_is f F n shape.0 shape.1.has, shape.1.inside, safe.small))

  -- the walk for the heights
  module _ (childless : List Bool) where
    first_left : (n : ℕ) → n < F.objects → IsMarked marks n
        → left_for F.ref_size (state_at (map first_state childless) n) (slice_index (map from_bool childless) n) (length (refs_in views.Values f F n)) ≤ 868 + 8 * extent f F n
    first_left n low is =
        let shape = shape_at n low is in
        let c = length (refs_in views.Values f F n) in
        let slot = slice_index (map from_bool childless) n in
        elim (first_is childless n) [
          | inl founded ↦ omega (arith, ap (λ (state : State). left_for F.ref_size state slot c) founded.1)
          | inr new ↦ omega (arith, ap (λ (state : State). left_for F.ref_size state slot c) new.0, scan_few f F views.Values safe.safe.ref_low n shape.0 shape.1)
        ]

    pub heights_asked : (start before after : ℕ) → before ≡ start → after ≤ before + (292 + left_of (graph_of 0 views.Values f F) marks (map first_state childless) (map from_bool childless))
        → after ≤ start + (292 + 868 * F.objects + 8 * extents_below f F (is_marked marks) F.objects)
    heights_asked start before after same asked =
        let left : left_of (graph_of 0 views.Values f F) marks (map first_state childless) (map from_bool childless) ≤ 868 * F.objects + 8 * extents_below f F (is_marked marks) F.objects =
        marked_sum f F marks (λ m. left_for F.ref_size (state_at (map first_state childless) m) (slice_index (map from_bool childless) m) (length (refs_in views.Values f F m))) 868 8 first_left F.objects (omega arith) in
        omega (arith, same, asked, left)

  -- and that to the circle
  pub circle_asked : (start middle before after : ℕ) → middle ≤ start + (292 + 868 * F.objects + 8 * extents_below f F (is_marked marks) F.objects) → before ≡ middle
      → after ≤ before + trail_bytes (graph_of 0 views.All f F) marks → after ≤ start + (292 + 1160 * F.objects + 12 * extents_below f F (is_marked marks) F.objects)
  circle_asked start middle before after first same asked =
      let trail : trail_bytes (graph_of 0 views.All f F) marks ≤ 292 * F.objects + 4 * extents_below f F (is_marked marks) F.objects =
      marked_sum f F marks (λ m. 292 + length (refs_in views.All f F m) * (3 + F.ref_size)) 292 4
      (λ n low is. let shape = shape_at n low is in omega (arith, scan_few f F views.All safe.safe.ref_low n shape.0 shape.1)) F.objects (omega arith) in
      omega (arith, first, same, asked, trail)
