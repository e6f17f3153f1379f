-- Steps of the quick pass over the containers.
use Rattle.std.specs.Option.{SomeIff}
use Rattle.std.proofs.Common.{◌≡◌, ℕ, ◌+◌, ◌-◌, ◌<◌, ◌≤◌, min, max, Option, Some, None, IfSome, Bool, true, false, List, [], ◌∷◌, zero, suc, ◌↔◌, inl, inr, set, get_or, map, take, drop, length, slice_index, sym, ap, ◌∙◌, subst, arith}
use Rattle.std.specs.Int.{from_bool}
use Rattle.std.proofs.Math.Seq.{take-length}
use Rattle.std.proofs.lemmas.Bool.{cases_eq}
use Rattle.std.proofs.lemmas.List.{get_or-take, get_or-drop, get_or-map, length-drop, length-map, length-take-le, take_all}
use Rattle.bplist_objects.specs.declared.frame.Frame.{Frame}
use Rattle.bplist_objects.specs.declared.head.Head.{Head}
use Rattle.bplist_objects.specs.declared.head.Kind.{Kind}
use Rattle.bplist_objects.specs.declared.head.Kind.TheVariants as kinds
use Rattle.bplist_objects.specs.Frame.{IsFrame}
use Rattle.bplist_objects.specs.Heads.{HasShape, Spells, content_at}
use Rattle.bplist_objects.specs.ObjectRules.{KeepsByObject, object_rules}
use Rattle.bplist_objects.specs.Rules.{KeepsAll}
use Rattle.bplist_objects.specs.Reach.{Reach, top}
use Rattle.bplist_objects.specs.Safe.{ref_count}
use Rattle.bplist_objects.specs.Scan.{ref}
use Rattle.bplist_objects.specs.Spelled.{refs_at}
use Rattle.bplist_objects.proofs.FrameTies.{numbered}
use Rattle.bplist_objects.proofs.ReachedObjects.{reach_within}
use Rattle.bplist_objects.proofs.HeadTies.{head_tie, shape_announced}
use Rattle.bplist_keys.specs.Marks.{IsMarked}
use Rattle.bplist_cert.specs.CheckRules.{key_rules}
use Rattle.bplist_cert.specs.KeyRepeats.{HasGoodKeys}
use Rattle.bplist_cert.proofs.CheckSteps.{kept_by_good}
use Rattle.bplist_lint.specs.declared.graph.View.TheVariants as views
use Rattle.bplist_lint.specs.Containers.{AreFinished, AreMeasured, HasHeight}
use Rattle.bplist_lint.specs.Graph.{AreLeast, greatest, IsPart, Least}
use Rattle.bplist_lint.specs.Graph.Least.{above}
use Rattle.bplist_objects.specs.KeyCounts.{key_count}
use Rattle.bplist_lint.specs.ReferenceGraph.{AreChildless, refs_in}
use Rattle.bplist_lint.specs.ReachRules.{KeepReached, reach_rules}
use Rattle.bplist_lint.proofs.ValueHeights.{are_least_all}
use Rattle.bplist_lint.proofs.HeightSteps.{first_is, greatest_part}
use Rattle.bplist_lint.proofs.ListWrites.{at_set}
use Rattle.bplist_lint.proofs.ObjectReferences.{all_announced, announced_as, none_in_view, part_is}
use Rattle.bplist_lint.proofs.ReferenceParts.{part_all}

-- an object has no more keys than references
pub keys_few : (kind : Kind) (count : ℕ) → key_count kind count ≤ ref_count kind count
keys_few kinds.Dict count = omega arith
keys_few _ count = omega arith

-- the keys in a block of a dictionary's references come next
pub keys_next : (head : Head) (done now : ℕ) (block : List ℕ) (key : ℕ → ℕ) → head.kind ≡ kinds.Dict
    → ((k : ℕ) → k < now → slice_index block k ≡ key (done + k)) → (some : List ℕ) (many : ℕ) → many ≡ min now (key_count head.kind head.count - done) → some ≡ take many (take now block)
    → length some ≡ many → (k : ℕ) → k < length some → slice_index some k ≡ key (min done head.count + k)
keys_next head done now block key dict are some many count is long k low =
    let all : key_count head.kind head.count ≡ head.count = ap (λ kind. key_count kind head.count) dict in
    let first : done + k ≡ min done head.count + k = omega (arith, low, long, count, all) in
    rw is (get_or-take many (take now block) k 0 (omega (arith, low, long))) ∙ get_or-take now block k 0 (omega (arith, low, long, count)) ∙ are k (omega (arith, low, long, count)) ∙ ap key first

module _ (f : List ℕ) (F : Frame) (n : ℕ) (framed : IsFrame f F) (within : n < F.objects) (kept : KeepsAll (KeepsByObject f F n) object_rules) (head : Head) (has : HasShape f F n head) where
  abbrev keys : ℕ
  keys = key_count head.kind head.count

  abbrev values : List ℕ
  values = refs_in views.Values f F n

  spelled : Spells f F n (content_at f F head)
  spelled = ((head_tie f F n framed within head).0 (shape_announced f F n head has, kept)).1

  -- as many values as the head says
  pub values_count : length values ≡ ref_count head.kind head.count - keys
  values_count = sym (all_announced f F n views.Values (content_at f F head) spelled) ∙ announced_as f F n views.Values head has

  -- the values in a block of the references come next
  values_next : (done now : ℕ) (block : List ℕ) → done + now ≤ ref_count head.kind head.count → now ≤ length block
      → ((k : ℕ) → k < now → slice_index block k ≡ ref f F head (done + k)) → (some : List ℕ) → some ≡ drop (min now (keys - done)) (take now block)
      → IsPart values (done - keys) some (length some)
  values_next done now block low room are some is =
      let many : length some ≡ now - min now (keys - done) = ap length is ∙ omega (arith, length-drop (min now (keys - done)) (take now block), length-take-le now block room) in
      part_is f F n views.Values head has (all_announced f F n views.Values (content_at f F head) spelled) (done - keys) (length some) some
      (omega (arith, many, low, keys_few head.kind head.count))
      (λ k l _.
      let at : done + (min now (keys - done) + k) ≡ keys + (done - keys) + k = omega (arith, l, many) in
      rw is (get_or-drop (min now (keys - done)) (take now block) k 0)
      ∙ get_or-take now block (min now (keys - done) + k) 0 (omega (arith, l, many))
      ∙ are (min now (keys - done) + k) (omega (arith, l, many)) ∙ ap (ref f F head) at)

  -- what is measured after one more block
  pub measured_next : (heights : List ℕ) (done now : ℕ) (block : List ℕ) → done + now ≤ ref_count head.kind head.count → now ≤ length block
      → ((k : ℕ) → k < now → slice_index block k ≡ ref f F head (done + k)) → (some : List ℕ) → some ≡ drop (min now (keys - done)) (take now block)
      → (best height : ℕ) → ((k : ℕ) → k < done - keys → 0 < slice_index heights (slice_index values k)) × (best ≡ greatest (map (λ m. slice_index heights m) (take (done - keys) values)))
      → AreMeasured heights some height
      → ((k : ℕ) → k < done + now - keys → 0 < slice_index heights (slice_index values k)) × (max best height ≡ greatest (map (λ m. slice_index heights m) (take (done + now - keys) values)))
  measured_next heights done now block low room are some is best height before here =
      let many : length some ≡ now - min now (keys - done) = ap length is ∙ omega (arith, length-drop (min now (keys - done)) (take now block), length-take-le now block room) in
      let part = values_next done now block low room are some is in
      let whole : take (length some) some ≡ some = take-length some in
      let to : (done - keys) + length some ≡ done + now - keys = omega (arith, many) in
      let each = part_all values some (done - keys) (length some) part (λ m. 0 < slice_index heights m) before.0 (rw whole here.each) in
      let most = greatest_part heights values some (done - keys) (length some) best height (omega (arith, values_count, low)) part before.1 (rw whole here.most) in
      (λ k l. each k (omega (arith, to, l)), rw to at most)

  -- all values are measured
  pub measured_all : (heights : List ℕ) (done best : ℕ) → ref_count head.kind head.count ≤ done
      → ((k : ℕ) → k < done - keys → 0 < slice_index heights (slice_index values k)) × (best ≡ greatest (map (λ m. slice_index heights m) (take (done - keys) values)))
      → AreMeasured heights values best
  measured_all heights done best all m = record {
    each = λ k l. m.0 k (omega (arith, l, values_count, all, keys_few head.kind head.count));
    most = m.1 ∙ ap (λ xs. greatest (map (λ n. slice_index heights n) xs)) (take_all (done - keys) values (omega (arith, values_count, all)));
  }

-- what is true of a sum is true of a checked sum
pub of_checked : (made : Option ℕ) (fits : Type 0) (sum : ℕ) (P : ℕ → Type 0) → SomeIff made fits sum → P sum → IfSome made P
of_checked None fits sum P is p = tt
of_checked (Some x) fits sum P is p = subst P (sym is.1) p

-- the marked objects from number `from` on have good keys and least heights over their values. Before it only objects
-- without references have heights
pub record AreFinishedFrom (f : List ℕ) (F : Frame) (marks childless : List Bool) (heights : List ℕ) (from : ℕ) : Type 0 where
  pub good : (n : ℕ) → from ≤ n → Reach f F n → HasGoodKeys f F None n
  pub vouched : (n : ℕ) → 0 < slice_index heights n → IsMarked marks n × Least (refs_in views.Values f F) n (slice_index heights n)
  pub all : (n : ℕ) → from ≤ n → IsMarked marks n → 0 < slice_index heights n
  pub ones : (n : ℕ) → IsMarked childless n → 0 < slice_index heights n

marked_one : (childless : List Bool) (n : ℕ) → IsMarked childless n → 0 < get_or (map from_bool childless) n 0
marked_one [] n is = absurd (cc is)
marked_one (true ∷ bs) zero is = omega arith
marked_one (false ∷ bs) zero is = absurd (cc is)
marked_one (b ∷ bs) (suc n) is = marked_one bs n is

module _ (f : List ℕ) (F : Frame) (framed : IsFrame f F) (marks childless : List Bool) (marked : (n : ℕ) → IsMarked marks n ↔ Reach f F n) where
  outside : (n : ℕ) → F.objects ≤ n → Reach f F n → ⊥
  outside n high r = let low = reach_within f F (numbered framed).top n r in absurd (omega (arith, low, high))

  -- before the pass
  pub finished_first : AreChildless f F childless → AreFinishedFrom f F marks childless (map from_bool childless) F.objects
  finished_first are = record {
    good = λ n high r. absurd (outside n high r);
    vouched = λ n h. elim (first_is childless n) [
      | inl c ↦
          let leaf = are n c.0 in
          let none : length (refs_in views.Values f F n) ≡ 0 = ap length (none_in_view f F n views.Values leaf.1) in
          ((marked n).1 leaf.0, rw c.2 (above n [] (sym none) (λ i low. absurd (omega (arith, low, none)))))
      | inr c ↦ absurd (omega (arith, c.1, h))
    ];
    all = λ n high is. absurd (outside n high ((marked n).0 is));
    ones = marked_one childless;
  }

  -- a container more
  pub finished_more : (heights : List ℕ) (n height : ℕ) → n < length heights → IsMarked marks n → HasGoodKeys f F None n → HasHeight f F heights n height
      → AreFinishedFrom f F marks childless heights (n + 1) → AreFinishedFrom f F marks childless (set heights n height) n
  finished_more heights n height within is keys has before =
      let values = refs_in views.Values f F n in
      let high : 0 < height = omega (arith, has.2) in
      let new = at_set heights n height 0 in
      record {
        good = λ m from r. elim (cases_eq m n) [
          | inl e ↦ rw e keys
          | inr ne ↦ before.good m (omega (arith, from, ne)) r
        ];
        vouched = λ m h. elim (new m within) [
          | inl c ↦
              let to : height ≡ suc (greatest (map (λ k. slice_index heights k) values)) = omega (arith, has.2, has.1.most) in
              let least : Least (refs_in views.Values f F) n height = rw to (above n (map (λ k. slice_index heights k) values) (length-map values (λ k. slice_index heights k))
              (λ i low. rw (get_or-map (λ k. slice_index heights k) values i 0 0 low) (before.vouched _ (has.1.each i low)).1)) in
              (rw c.0 is, rw (c.0, rw c.0 at c.1) least)
          | inr c ↦ rw c.1 (before.vouched m (rw c.1 at h))
        ];
        all = λ m from marked_m. elim (new m within) [
          | inl c ↦ rw c.1 high
          | inr c ↦ rw c.1 (before.all m (omega (arith, from, c.0)) marked_m)
        ];
        ones = λ m leaf. elim (new m within) [
          | inl c ↦ rw c.1 high
          | inr c ↦ rw c.1 (before.ones m leaf)
        ];
      }

  -- another object more
  pub finished_over : (heights : List ℕ) (n : ℕ) → (Reach f F n → HasGoodKeys f F None n) → (IsMarked marks n → 0 < slice_index heights n)
      → AreFinishedFrom f F marks childless heights (n + 1) → AreFinishedFrom f F marks childless heights n
  finished_over heights n keys has before = record {
    good = λ m from r. elim (cases_eq m n) [
      | inl e ↦ rw e (keys (rw e at r))
      | inr ne ↦ before.good m (omega (arith, from, ne)) r
    ];
    vouched = before.vouched;
    all = λ m from is. elim (cases_eq m n) [
      | inl e ↦ rw e (has (rw e at is))
      | inr ne ↦ before.all m (omega (arith, from, ne)) is
    ];
    ones = before.ones;
  }

  -- after the pass
  pub finished_all : (heights : List ℕ) → AreFinishedFrom f F marks childless heights 0 → AreFinished f F marks heights
  finished_all heights done = record {
    good = λ n r. done.good n (omega arith) r;
    vouched = done.vouched;
    all = λ n is. done.all n (omega arith) is;
  }

  -- what they say about rules 21 and 22 and over all references
  pub finished_keys : (heights : List ℕ) → AreFinished f F marks heights → KeepReached f F (key_rules None) F.objects
  finished_keys heights done m low r = kept_by_good f F (Reach f F) [] m None (done.good m r)

  pub finished_least : KeepReached f F reach_rules F.objects → (heights : List ℕ) → AreFinished f F marks heights
      → AreLeast (refs_at f F) F.top.0 heights × (0 < slice_index heights F.top.0)
  finished_least kept heights done = (
    are_least_all f F framed kept marks marked (finished_keys heights done) heights (record { vouched = done.vouched; all = λ n is _. done.all n is }),
    done.all F.top.0 ((marked F.top.0).1 top),
  )
