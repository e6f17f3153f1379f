-- What the one walk over the reached objects knows between two visits, and at its end.
use Rattle.std.proofs.Common.{◌≡◌, ◌≢◌, ℕ, zero, suc, ◌+◌, ◌<◌, ◌≤◌, inl, inr, Bool, true, false, cond, List, [], ◌∷◌, ◌++◌, length, get_or, set, replicate, Contains, refl, sym, ap, ◌∙◌, subst, arith}
use Rattle.std.proofs.lemmas.Bool.{cases_eq, false≢true, false_from_ne_true}
use Rattle.std.proofs.lemmas.List.{get_or-set_same, get_or-set_other, length-set, length-replicate, get_or_default}
use Rattle.std.proofs.lemmas.List.Elements.{Contains-append_left, Contains-push, Contains-push_cases}
use Rattle.bplist_objects.specs.declared.frame.Frame.{Frame}
use Rattle.bplist_objects.specs.declared.head.Head.{Head}
use Rattle.bplist_objects.specs.Announced.{HasHead}
use Rattle.bplist_objects.specs.Frame.{off, IsFrame}
use Rattle.bplist_objects.specs.ObjectRules.{KeepsByObject, object_rules}
use Rattle.bplist_objects.specs.Reach.{Reach, top, next}
use Rattle.bplist_objects.specs.Extents.{Sums}
use Rattle.bplist_objects.specs.Rules.{KeepsAll}
use Rattle.bplist_objects.specs.Spelled.{refs_at}
use Rattle.bplist_objects.proofs.ExtentSums.{not_overfull}
use Rattle.bplist_objects.proofs.Lists.{none_in}
use Rattle.bplist_objects.proofs.ReachedObjects.{refs_iff}
use Rattle.bplist_keys.specs.Classes.{HasNamedKeys}
use Rattle.bplist_keys.specs.Marks.{IsMarked}
use Rattle.bplist_lint.specs.declared.tally.Tally.{Tally}
use Rattle.bplist_lint.specs.declared.walk.Reached.{Reached}
use Rattle.bplist_lint.specs.ReferenceGraph.{AreChildless}
use Rattle.bplist_lint.specs.KeyClasses.{AreSound}
use Rattle.bplist_lint.specs.ReachRules.{is_marked}
use Rattle.bplist_lint.specs.Tallies.{IsTalliedWith}
use Rattle.bplist_lint.specs.ReachWalk.{AreApart, Noted, extent, extents_below, IsVisited, IsWalkState, IsWalked, AreNamed}
use Rattle.bplist_lint.proofs.ExtentBytes.{sums_at}
use Rattle.bplist_lint.proofs.KeptRules.{both_rules}
use Rattle.bplist_lint.proofs.MarkSteps.{or_then, apart_none, apart_push, apart_front, apart_last, fresh-set}
use Rattle.bplist_lint.proofs.RangeSums.{sum_below, sum_most, sum_next, sum_none, sum_on, extent_is, references_of, references_are, extents_sum, references_sum}
use Rattle.bplist_lint.proofs.ReachSteps.{marked_within}
use Rattle.bplist_lint.proofs.ListWrites.{seen-set, unwritten}

-- ---- sums below a number
sum_alike : (g k : ℕ → ℕ) (n : ℕ) → ((m : ℕ) → m < n → g m ≡ k m) → sum_below g n ≡ sum_below k n
sum_alike g k n same =
    let most = sum_most k g n (λ m low. omega (arith, same m low)) in
    let least = sum_most g k n (λ m low. omega (arith, same m low)) in
    omega arith

-- one more number, with what is added for it
sum_turned : (g k : ℕ → ℕ) (n i : ℕ) → i < n → ((m : ℕ) → m ≢ i → g m ≡ k m) → k i ≡ 0 → sum_below g n ≡ sum_below k n + g i
sum_turned g k zero i low same none = absurd (omega arith)
sum_turned g k (suc n) i low same none = elim (cases_eq i n) [
  | inl e ↦
      let before = sum_alike g k n (λ m l. same m (omega arith)) in
      let here : k n ≡ 0 = rw e at none in
      rw e (omega (arith, sum_next g n, sum_next k n))
  | inr ne ↦
      let before = sum_turned g k n i (omega arith) same none in
      let here = same n (λ q. ne (sym q)) in
      omega (arith, sum_next g n, sum_next k n)
]

-- the sum over what is marked, with one more mark
sum_marked : (g : ℕ → ℕ) (marks : List Bool) (n i : ℕ) → i < n → i < length marks → (IsMarked marks i → ⊥) → sum_below (λ m. cond (is_marked (set marks i true) m) (g m) 0) n ≡ sum_below (λ m. cond (is_marked marks m) (g m) 0) n + g i
sum_marked g marks n i low within new =
    let here : get_or (set marks i true) i false ≡ true = get_or-set_same marks i true false within in
    let before : get_or marks i false ≡ false = false_from_ne_true (get_or marks i false) new in
    let one = sum_turned (λ m. cond (is_marked (set marks i true) m) (g m) 0) (λ m. cond (is_marked marks m) (g m) 0) n i low
    (λ m other. ap (λ b. cond b (g m) 0) (get_or-set_other marks i m true false other)) (ap (λ b. cond b (g i) 0) before) in
    let last : cond (is_marked (set marks i true) i) (g i) 0 ≡ g i = ap (λ b. cond b (g i) 0) here in
    omega (arith, one, last)

pub same_mark : (a b : Bool) → (a ≡ true → b ≡ true) → (b ≡ true → a ≡ true) → a ≡ b
same_mark true b to from = sym (to refl)
same_mark false true to from = absurd (false≢true (from refl))
same_mark false false to from = refl

module _ (f : List ℕ) (F : Frame) where
  -- ---- the beginning
  pub walking_start : F.top.0 < F.objects → (keys : List Bool) → IsWalkState f F 0 [] (set (replicate F.objects false) F.top.0 true) (replicate F.objects false) keys (record { reached = 0; used = record { octets = 0 }; references = 0 })
  walking_start within keys =
      let none : (m : ℕ) → is_marked (replicate F.objects false) m ≡ false = λ m. unwritten F.objects m false in
      let no1 : (m : ℕ) → IsMarked (replicate F.objects false) m → ⊥ = λ m h. false≢true (sym (none m) ∙ h) in
      let sum : (g : ℕ → ℕ) → sum_below (λ m. cond (is_marked (replicate F.objects false) m) (g m) 0) F.objects ≡ 0 =
      λ g. sum_none _ F.objects (λ m. ap (λ b. cond b (g m) 0) (none m)) in
      record {
        visited = replicate F.objects false;
        all_visited = length-replicate F.objects false;
        begun = get_or-set_same (replicate F.objects false) F.top.0 true false (rw length-replicate within);
        sound = λ m h. elim (fresh-set (replicate F.objects false) F.top.0 m h) [
          | inl old ↦ absurd (no1 m old)
          | inr e ↦ rw e top
        ];
        waiting = λ m c. absurd (none_in m c);
        apart = apart_none;
        closed = λ m h. inl (omega arith);
        each = λ m h. absurd (no1 m h);
        childless_known = λ m h. absurd (no1 m h);
        reached = sym (sum (λ m. 1));
        used = sym (extents_sum f F _ F.objects ∙ sum (extent f F));
        references = sym (references_sum f F _ F.objects ∙ sum (references_of f F));
      }

  -- ---- between visits
  -- later marks and names leave what was visited so
  visited_more : (marks marks' keys keys' : List Bool) (n : ℕ) → ((m : ℕ) → IsMarked marks m → IsMarked marks' m) → ((m : ℕ) → IsMarked keys m → IsMarked keys' m) → IsVisited f F marks keys n → IsVisited f F marks' keys' n
  visited_more marks marks' keys keys' n keeps more v = record { head = v.head; has = v.has; kept = v.kept; all = λ i low. keeps _ (v.all i low); named = λ head has dict k low. more _ (v.named head has dict k low) }

  module _ (n : ℕ) (marks childless keys : List Bool) (tally : Tally) (w : IsWalkState f F n [] marks childless keys tally) where
    -- object n is passed: if it is marked, it waits on the stack, and nothing else does
    passed : (stack : List ℕ) → ((m : ℕ) → Contains stack m → m ≡ n) → AreApart stack → (Contains stack n → IsMarked marks n)
        → (IsMarked marks n → Contains stack n) → IsWalkState f F (n + 1) stack marks childless keys tally
    passed stack alone apart marked on = record {
      visited = w.visited;
      all_visited = w.all_visited;
      begun = w.begun;
      sound = w.sound;
      waiting = λ m c. let e = alone m c in rw e (marked (rw e at c), (λ h. let l = (w.each n h).1 in omega arith), omega arith);
      apart = apart;
      closed = λ m h. elim (w.closed m h) [
        | inl from ↦ elim (cases_eq m n) [
          | inl e ↦ inr (inl (rw e (on (rw e at h))))
          | inr ne ↦ inl (omega arith)
        ]
        | inr later ↦ elim later [ inl none ↦ absurd (none_in m none) | inr visited ↦ inr (inr visited) ]
      ];
      each = λ m h. let v = w.each m h in (v.0, (let l = v.1 in omega arith), v.2);
      childless_known = w.childless_known;
      reached = w.reached;
      used = w.used;
      references = w.references;
    }

    -- object n is not marked
    pub walking_over : get_or marks n false ≡ false → IsWalkState f F (n + 1) [] marks childless keys tally
    walking_over unmarked = passed [] (λ m c. absurd (none_in m c)) w.apart (λ c. absurd (none_in n c)) (λ is. absurd (false≢true (sym unmarked ∙ is)))

    -- object n is marked, and is about to be visited
    pub walking_on : IsMarked marks n → IsWalkState f F (n + 1) ([] ++ n ∷ []) marks childless keys tally
    walking_on marked =
        passed ([] ++ n ∷ []) (λ m c. elim (Contains-push_cases [] n m c) [ inl none ↦ absurd (none_in m none) | inr e ↦ sym e ])
        (apart_push [] n apart_none (none_in n)) (λ _. marked) (λ _. Contains-push [] n)

  -- object n of the stack is visited
  module _ (frame : IsFrame f F) (next0 n : ℕ) (within : n < F.objects) (stack : List ℕ) (marks childless keys : List Bool) (tally : Tally) (w : IsWalkState f F next0 (stack ++ n ∷ []) marks childless keys tally) where
    pub walking_visit : (head : Head) → HasHead f F n head → KeepsAll (KeepsByObject f F n) object_rules → (stack' : List ℕ) (marks' childless' keys' : List Bool) (tally' : Tally)
        → Noted (refs_at f F n) next0 (length (refs_at f F n)) marks stack marks' stack'
        → AreChildless f F childless' → ((m : ℕ) → IsMarked keys m → IsMarked keys' m) → HasNamedKeys f F keys' n → IsTalliedWith tally (off f F n) head tally' → IsWalkState f F next0 stack' marks' childless' keys' tally'
    walking_visit head has kept stack' marks' childless' keys' tally' s known more named t =
        let here : n < length w.visited = omega (arith, w.all_visited) in
        let on = w.waiting n (Contains-push stack n) in
        let at_n : Reach f F n = w.sound n on.0 in
        let own : IsVisited f F marks' keys' n = record { head = head; has = has; kept = kept; all = s.all; named = named } in
        record {
          visited = set w.visited n true;
          all_visited = length-set w.visited n true ∙ w.all_visited;
          begun = s.keeps_marks F.top.0 w.begun;
          sound = λ m h. elim (s.fresh m h) [ inl old ↦ w.sound m old | inr new ↦ next at_n ((refs_iff f F n m).1 new.0) ];
          waiting = λ m c. elim (s.waiting m c) [
            | inl old ↦
                let v = w.waiting m (Contains-append_left stack (n ∷ []) m old) in
                (s.keeps_marks m v.0, (λ h. elim (fresh-set w.visited n m h) [ inl before ↦ v.1 before | inr e ↦ apart_last stack n m w.apart old e ]), v.2)
            | inr new ↦ (new.0, (λ h. elim (fresh-set w.visited n m h) [ inl before ↦ new.1 (w.each m before).0 | inr e ↦ new.1 (rw e on.0) ]), new.2)
          ];
          apart = s.apart (λ m c. (w.waiting m (Contains-append_left stack (n ∷ []) m c)).0) (apart_front stack n w.apart);
          closed = λ m h. elim (s.fresh m h) [
            | inl old ↦ or_then (w.closed m old) (λ later. elim later [
              | inl waits ↦ elim (Contains-push_cases stack n m waits) [
                | inl rest ↦ inl (s.keeps_stack m rest)
                | inr e ↦ inr (rw (← e) (get_or-set_same w.visited n true false here))
              ]
              | inr before ↦ inr (seen-set w.visited n m here before)
            ])
            | inr new ↦ or_then new.1 (λ waits. inl waits)
          ];
          each = λ m h. elim (fresh-set w.visited n m h) [
            | inl before ↦ let v = w.each m before in (s.keeps_marks m v.0, v.1, visited_more _ _ _ _ m s.keeps_marks more v.2)
            | inr e ↦ rw e (s.keeps_marks n on.0, on.2, own)
          ];
          childless_known = known;
          reached = let sum = sum_marked (λ m. 1) w.visited F.objects n within here on.1 in omega (arith, sum, t.reached, w.reached);
          used = let sum = sum_marked (extent f F) w.visited F.objects n within here on.1 in let one = extent_is f F n head has in omega (arith, extents_sum f F (is_marked w.visited) F.objects, extents_sum f F (is_marked (set w.visited n true)) F.objects, sum, one, t.used, w.used);
          references = let sum = sum_marked (references_of f F) w.visited F.objects n within here on.1 in let one = references_are f F n head has in omega (arith, references_sum f F (is_marked w.visited) F.objects, references_sum f F (is_marked (set w.visited n true)) F.objects, sum, one, t.references, w.references);
        }

  -- ---- the end
  module _ (frame : IsFrame f F) (reached : Reached) (all_marks : length reached.marks.items ≡ F.objects) (keys : List Bool) (w : IsWalkState f F F.objects [] reached.marks.items reached.childless.items keys reached.tally) (room : reached.tally.used.octets + 8 ≤ F.table) where
    visited_as : (m : ℕ) → IsMarked reached.marks.items m → IsMarked w.visited m
    visited_as m h = elim (w.closed m h) [
      | inl above ↦ absurd (let low = marked_within reached.marks.items m h in omega arith)
      | inr later ↦ elim later [ inl on ↦ absurd (none_in m on) | inr visited ↦ visited ]
    ]

    reach_marked : (n : ℕ) → Reach f F n → IsMarked reached.marks.items n
    reach_marked n top = w.begun
    reach_marked n (next {n = k} r e) =
        let v = (w.each k (visited_as k (reach_marked k r))).2 in
        let c = (refs_iff f F k n).0 e in
        rw (← c.2) (rw (get_or_default (refs_at f F k) c.0 n 0 c.1) (v.all c.0 c.1))

    same_sum : (g : ℕ → ℕ) → sum_below (λ m. cond (is_marked w.visited m) (g m) 0) F.objects ≡ sum_below (λ m. cond (is_marked reached.marks.items m) (g m) 0) F.objects
    same_sum g = sum_alike _ _ F.objects (λ m low. ap (λ b. cond b (g m) 0) (same_mark (is_marked w.visited m) (is_marked reached.marks.items m) (λ h. (w.each m h).0) (visited_as m)))

    used_below : (n : ℕ) → n ≤ F.objects → extents_below f F (is_marked reached.marks.items) n + 8 ≤ F.table
    used_below n low =
        let part = sum_on (λ m. cond (is_marked reached.marks.items m) (extent f F m) 0) n F.objects low in
        let whole = same_sum (extent f F) in
        omega (arith, extents_sum f F (is_marked reached.marks.items) n, extents_sum f F (is_marked w.visited) F.objects, part, whole, w.used, room)

    -- what is marked keeps rules 14 to 20
    sound_marks : AreSound f F reached.marks.items
    sound_marks = record {
      framed = frame;
      kept = λ m is. (w.each m (visited_as m is)).2.kept;
      closed = λ n m is r. reach_marked m (next (w.sound n is) r);
    }

    sums_to : (n : ℕ) → n ≤ F.objects → Sums f F (Reach f F) n (extents_below f F (is_marked reached.marks.items) n)
    sums_to = sums_at f F reached.marks.items sound_marks (λ m. (w.sound m, reach_marked m))

    walked : IsWalked f F reached
    walked = record {
      marked = λ n. (w.sound n, reach_marked n);
      childless = w.childless_known;
      tallied = record {
        kept = λ m low r. both_rules f F m (sound_marks.kept m (reach_marked m r)) (not_overfull f F (Reach f F) m _ (sums_to (suc m) low) (used_below (suc m) low));
        sums = subst (Sums f F (Reach f F) F.objects) (sym (w.used ∙ extents_sum f F _ F.objects ∙ same_sum (extent f F) ∙ sym (extents_sum f F _ F.objects))) (sums_to F.objects (omega arith));
        reached = w.reached ∙ same_sum (λ m. 1);
        references = w.references ∙ references_sum f F _ F.objects ∙ same_sum (references_of f F) ∙ sym (references_sum f F _ F.objects);
      };
    }

    pub walking_end : IsWalked f F reached × AreNamed f F keys
    walking_end = (walked, λ n r. (w.each n (visited_as n (reach_marked n r))).2.named)
