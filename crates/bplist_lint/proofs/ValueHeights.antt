-- If keys are texts, the least heights over the values only are those over all references.
use Rattle.std.proofs.Common.{◌≡◌, ℕ, zero, suc, ◌+◌, ◌-◌, ◌<◌, ◌≤◌, ◌↔◌, inl, inr, Bool, List, [], ◌∷◌, ◌++◌, drop, length, slice_index, replicate, length-append, Contains, None, refl, sym, ap, ◌∙◌, arith}
use Rattle.std.proofs.lemmas.Bool.{cases_lt}
use Rattle.std.proofs.lemmas.List.{length-drop, get_or-drop, length-replicate, get_or-replicate, get_or_append_left, get_or-append_right}
use Rattle.std.proofs.lemmas.List.Elements.{Contains-get_or}
use Rattle.bplist_objects.specs.declared.frame.Frame.{Frame}
use Rattle.bplist_objects.specs.declared.head.Kind.{Kind}
use Rattle.bplist_objects.specs.declared.head.Kind.TheVariants as kinds
use Rattle.bplist_objects.specs.Frame.{IsFrame}
use Rattle.bplist_objects.specs.Reach.{Reach, next}
use Rattle.bplist_objects.specs.Safe.{ref_count}
use Rattle.bplist_objects.specs.Markers.{head_found}
use Rattle.bplist_objects.specs.Spelled.{refs_at}
use Rattle.bplist_objects.specs.Units.{IsTextKind}
use Rattle.bplist_objects.proofs.HeadTies.{shape_announced}
use Rattle.bplist_objects.proofs.ReachedObjects.{refs_iff, reach_within}
use Rattle.bplist_objects.proofs.FrameTies.{numbered}
use Rattle.bplist_keys.specs.Marks.{IsMarked}
use Rattle.bplist_cert.proofs.CheckSteps.{good_by_kept}
use Rattle.bplist_lint.specs.declared.graph.View.{View}
use Rattle.bplist_lint.specs.declared.graph.View.TheVariants as views
use Rattle.bplist_lint.specs.Graph.{IsWhole, Reaches, Ends, Least, greatest, AreLeast}
use Rattle.bplist_lint.specs.Graph.Reaches.{onward}
use Rattle.bplist_lint.specs.Graph.Ends.{ends}
use Rattle.bplist_lint.specs.Graph.Least.{above}
use Rattle.bplist_cert.specs.CheckRules.{key_rules}
use Rattle.bplist_lint.specs.ReachRules.{KeepReached, reach_rules}
use Rattle.bplist_objects.specs.KeyCounts.{key_count}
use Rattle.bplist_lint.specs.ReferenceGraph.{hidden, refs_in, graph_of}
use Rattle.bplist_lint.specs.HeightWalks.{AreClosed, AreLeastOf}
use Rattle.bplist_lint.proofs.HeightSteps.{height_over}
use Rattle.bplist_lint.proofs.KeptRules.{kept_spells}
use Rattle.bplist_lint.proofs.ObjectReferences.{found_as, as_spelled, all_announced, no_refs_leaf}
use Rattle.bplist_lint.proofs.ReferenceGraph.{reach_iff}

-- heights of 1 do not change the greatest height, if there is another one
greatest-ones : (k : ℕ) (hs : List ℕ) → (0 < k → 0 < greatest hs) → greatest (replicate k 1 ++ hs) ≡ greatest hs
greatest-ones zero hs some = refl
greatest-ones (suc k) hs some =
    let high = some (omega arith) in
    omega (arith, high, greatest-ones k hs (λ _. high))

greatest_first : (hs : List ℕ) → slice_index hs 0 ≤ greatest hs
greatest_first [] = omega arith
greatest_first (h ∷ hs) = omega arith

-- ---- in a graph
module _ (refs : ℕ → List ℕ) (out : ℕ → ℕ) where
  -- the references without the first ones
  abbrev others : ℕ → List ℕ
  others n = drop (out n) (refs n)

  pub other_among : (n m : ℕ) → Contains (others n) m → Contains (refs n) m
  other_among n m (i, l, e) = (out n + i, omega (arith, l, length-drop (out n) (refs n)), sym (get_or-drop (out n) (refs n) i m) ∙ e)

  pub ends_others : (n : ℕ) → Ends refs n → Ends others n
  ends_others _ (ends n each) = ends n (λ m c. ends_others m (each m (other_among n m c)))

  -- if the first ones have no references and others follow, the others have the greatest height
  module _ (top : ℕ) (childless : (n i : ℕ) → Reaches refs top n → i < out n → (refs (slice_index (refs n) i) ≡ []) × (out n < length (refs n))) where
    pub least_all : (n h : ℕ) → Reaches refs top n → Least others n h → Least refs n h
    least_all _ _ r (above n hs long each) =
        let k = out n in
        let rest = length-drop k (refs n) in
        let ones : List ℕ = replicate k 1 in
        let many : length ones ≡ k = length-replicate k 1 in
        let more : 0 < k → k < length (refs n) = λ some. (childless n 0 r some).1 in
        let high : 0 < k → 0 < greatest hs = λ some.
        let l : 0 < length (others n) = omega (arith, rest, more some) in
        omega (arith, height_over others _ _ (each 0 l), greatest_first hs) in
        let all_each : (i : ℕ) → i < length (refs n) → Least refs (slice_index (refs n) i) (slice_index (ones ++ hs) i) = λ i l. elim (cases_lt i k) [
          | inl first ↦
              let none = ap length (childless n i r first).0 in
              rw (get_or_append_left ones hs 0 i (omega (arith, many, first)), get_or-replicate {A = ℕ} k i 1 0 first) (above _ [] (sym none) (λ j low. absurd (omega (arith, low, none))))
          | inr later ↦
              let j = i - k in
              let at : k + j ≡ i = omega (arith, later) in
              let same : slice_index (refs n) i ≡ slice_index (others n) j = ap (slice_index (refs n)) (sym at) ∙ sym (get_or-drop k (refs n) j 0) in
              let l1 : j < length (others n) = omega (arith, rest, l, later) in
              let among = other_among n _ (Contains-get_or (others n) j 0 l1) in
              rw (get_or-append_right ones hs k i 0 many later, same) (least_all _ _ (onward n _ r among) (each j l1))
        ] in
        rw (← greatest-ones k hs high) (above n (ones ++ hs) (length-append ones hs ∙ grind (arith, rest, many, long, more)) all_each)

-- ---- in a file whose reached objects keep their rules
of_key : (kind : Kind) (count i : ℕ) → i < key_count kind count → (kind ≡ kinds.Dict) × (i < count) × (key_count kind count < ref_count kind count)
of_key kinds.Dict count i low = (refl, low, omega (arith, low))
of_key _ count i low = absurd (omega (arith, low))

of_text : (kind : Kind) (count : ℕ) → IsTextKind kind → ref_count kind count ≡ 0
of_text kinds.Ascii count is = refl
of_text kinds.Wide count is = refl
of_text _ count is = absurd is

module _ (f : List ℕ) (F : Frame) (frame : IsFrame f F) (kept : KeepReached f F reach_rules F.objects) where
  -- each object has all references that it announces, whatever the view
  pub all_whole : (view : View) (n : ℕ) → Reach f F n → IsWhole (graph_of 0 view f F) n
  all_whole view n r = let s = kept_spells f F frame kept n r in all_announced f F n view s.0 s.1

  module _ (marks : List Bool) (marked : (n : ℕ) → IsMarked marks n ↔ Reach f F n) where
    pub all_closed : (view : View) → ((n : ℕ) → IsMarked marks n → length (refs_in view f F n) < 4294967296) → AreClosed (graph_of 0 view f F) marks
    all_closed view few n m =
        let r = (marked n).0 m in
        (all_whole view n r, (λ i l. (marked _).1 (next r ((refs_iff f F n _).1 (other_among (refs_at f F) (λ k. hidden view (head_found f F k)) n _ (Contains-get_or (refs_in view f F n) i 0 l))))), few n m)

    module _ (keys : KeepReached f F (key_rules None) F.objects) where
      abbrev out : ℕ → ℕ
      out n = hidden views.Values (head_found f F n)

      childless_keys : (n i : ℕ) → Reaches (refs_at f F) F.top.0 n → i < out n → (refs_at f F (slice_index (refs_at f F n) i) ≡ []) × (out n < length (refs_at f F n))
      childless_keys n i r low =
          let reach = (reach_iff f F n).0 r in
          let within = reach_within f F (numbered frame).top n reach in
          let s = kept_spells f F frame kept n reach in
          let head = s.1.shape in
          let found = found_as f F n head s.1.has in
          let low1 = rw found at low in
          let all = as_spelled f F n head s.1.has s.0 s.1 in
          let k = of_key head.kind head.count i low1 in
          let key = (good_by_kept f F (Reach f F) [] n None (keys n within reach) head (shape_announced f F n head s.1.has) k.0).0 i k.1 in (
            ap (refs_at f F) (all.each i (omega (arith, low1, k.2))) ∙ no_refs_leaf f F _ key.0 key.1.is.0 (of_text key.0.kind key.0.count key.1.kind),
            rw found (omega (arith, k.2, all.count)),
          )

      pub are_least_all : (heights : List ℕ) → AreLeastOf (refs_in views.Values f F) marks heights → AreLeast (refs_at f F) F.top.0 heights
      are_least_all heights a = record {
        vouched = λ n h.
            let v = a.vouched n h in
            let r = (reach_iff f F n).1 ((marked n).0 v.0) in
            (r, least_all (refs_at f F) out F.top.0 childless_keys n _ r v.1);
        all = λ n r is. a.all n ((marked n).1 ((reach_iff f F n).0 r)) (ends_others (refs_at f F) out n is);
      }
