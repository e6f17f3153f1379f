-- What the search for the reached objects keeps true.
use Rattle.std.proofs.Common.{◌≡◌, ℕ, zero, suc, ◌+◌, ◌-◌, ◌*◌, ◌/◌, ◌%◌, ◌∙◌, ◌<◌, ◌≤◌, ◌↔◌, inl, inr, Bool, true, false, not, Option, Some, None, MatchOption, is_some, All, Vec, Global, List, [], ◌∷◌, ◌++◌, length, get_or, set, count_by, replicate, Contains, refl, sym, ap, ap₂, subst, arith}
use Rattle.std.proofs.Math.Nat.{add-mul, div-mul-le_self, le-div_iff_mul-le, mod-lt}
use Rattle.std.proofs.lemmas.Nat.{div-mul-add, mod-mul-add, div-add-mod', mul-add-lt}
use Rattle.std.proofs.lemmas.Grind.{elements}
use Rattle.std.proofs.lemmas.Bool.{false≢true, cases_eq, cases_lt}
use Rattle.std.proofs.lemmas.List.{get_or-set_same, get_or-set_other, get_or_default, length-replicate, length-set, length_push}
use Rattle.std.proofs.lemmas.List.Sums.{count_by-le-length}
use Rattle.std.proofs.lemmas.List.Elements.{Contains-append_left, Contains-push, Contains-push_cases}
use Rattle.bplist_objects.specs.declared.frame.Frame.{Frame}
use Rattle.bplist_objects.specs.declared.head.Head.{Head}
use Rattle.bplist_objects.specs.Heads.{content_at, refs}
use Rattle.bplist_objects.specs.Numbers.{num_at}
use Rattle.bplist_objects.specs.Reach.{Reach, top, next}
use Rattle.bplist_objects.specs.Safe.{IsSafeFrame, IsSafeHead, ref_count}
use Rattle.bplist_objects.specs.Scan.{AreBelow, nth_number}
use Rattle.bplist_objects.specs.Spelled.{refs_at}
use Rattle.bplist_objects.proofs.Bounds.{place_fits}
use Rattle.bplist_objects.proofs.Lists.{none_in}
use Rattle.bplist_objects.proofs.ReachedObjects.{refs_iff}
use Rattle.bplist_objects.proofs.References.{length-refs, nth-refs}
use Rattle.bplist_keys.specs.Marks.{IsMarked}
use Rattle.bplist_lint.specs.ReachSearch.{IsReady, HasMarks, row_length, place_index, index_count, reference_at, AreGood, AreFollowed, Looked, IsSearching}
use Rattle.bplist_lint.specs.BitSets.{IsIn, count_in}
use Rattle.bplist_lint.specs.declared.bit_set.BitSet.{BitSet}
use Rattle.bplist_lint.specs.declared.reach.ReachSearch.{ReachSearch}
use Rattle.bplist_lint.proofs.BitCounts.{count_few}
use Rattle.bplist_lint.proofs.ListWrites.{seen-set, unwritten, count-set}
use Rattle.bplist_lint.proofs.MarkSteps.{or_then, fresh-set, none_marked}

pub marked_within : (marks : List Bool) (n : ℕ) → IsMarked marks n → n < length marks
marked_within [] n h = absurd (false≢true h)
marked_within (x ∷ marks) zero h = omega arith
marked_within (x ∷ marks) (suc n) h = let r = marked_within marks n h in omega arith

-- ---- places by numbers
-- there are few more numbers than places
pub size_small : (F : Frame) → index_count F ≤ F.table + F.ref_size
size_small F =
    omega (arith, div-mul-le_self F.table F.ref_size, add-mul (F.table / F.ref_size) 1 F.ref_size)

-- the places of both sets cost no more than the table allows
pub places_few : {size : ℕ} (F : Frame) → IsSafeFrame size F → (good followed : List ℕ) → 8 * (count_in good (index_count F) + count_in followed (index_count F)) ≤ 16 * F.table + 128
places_few F safe good followed = omega (arith, count_few good (index_count F), count_few followed (index_count F), size_small F, safe.safe.ref_high)

pub number_low : (F : Frame) (place : ℕ) → 1 ≤ F.ref_size → place ≤ F.table → place_index F place < index_count F
number_low F place some within =
    let part = div-mul-le_self place F.ref_size in
    let low = (le-div_iff_mul-le {k = F.ref_size} {x = place / F.ref_size} {y = F.table} some).1 (omega (arith, part, within)) in
    let below : place / F.ref_size < row_length F = omega (arith, low) in
    mul-add-lt (place % F.ref_size) (row_length F) (place / F.ref_size) F.ref_size (mod-lt place some) below

-- what was found, if something was
pub some_there : {X : Type 0} (A : Type 0) (B : X → Type 0) (found : Option X) (none : Bool) → is_some found ≡ not none → none ≡ false → MatchOption found A B → (x : X) × B x
some_there A B (Some x) none e some h = (x, h)
some_there A B None none e some h = absurd (false≢true (e ∙ ap not some))

module _ (F : Frame) (some : 1 ≤ F.ref_size) (place k : ℕ) (within : place + (k + 1) * F.ref_size ≤ F.table) where
  column : place / F.ref_size + k < row_length F
  column =
      let part = div-add-mod' place F.ref_size in
      let sum = add-mul (place / F.ref_size) k F.ref_size in
      let more = add-mul k 1 F.ref_size in
      let low = (le-div_iff_mul-le {k = F.ref_size} {x = place / F.ref_size + k} {y = F.table} some).1 (omega (arith, part, sum, more, within)) in
      omega (arith, low)

  number_is : place_index F place + k ≡ place % F.ref_size * row_length F + (place / F.ref_size + k)
  number_is = omega arith

  -- the numbers of the references of a body are consecutive
  pub place_back : (place_index F place + k) % row_length F * F.ref_size + (place_index F place + k) / row_length F ≡ place + k * F.ref_size
  place_back =
      let low = ap (λ x. x % row_length F) number_is ∙ mod-mul-add (place % F.ref_size) (row_length F) (place / F.ref_size + k) column in
      let high = ap (λ x. x / row_length F) number_is ∙ div-mul-add (place % F.ref_size) (row_length F) (place / F.ref_size + k) column in
      let sum = add-mul (place / F.ref_size) k F.ref_size in
      ap₂ (λ a b. a * F.ref_size + b) low high ∙ omega (arith, div-add-mod' place F.ref_size, sum)

  -- each of them is a number of the set
  pub number_fits : place_index F place + k < index_count F
  number_fits =
      let fit = mul-add-lt (place % F.ref_size) (row_length F) (place / F.ref_size + k) F.ref_size (mod-lt place some) column in
      omega (arith, number_is, fit)

-- the object on top of the stack was taken, and places were looked at
pub ready_popped : (F : Frame) (search : ReachSearch) (stack : Vec ℕ Global) (good : BitSet) (n : ℕ) → IsReady F search → search.stack.items ≡ stack.items ++ n ∷ [] → good.size ≡ search.good.size → IsReady F (record search { stack = stack; good = good })
ready_popped F search stack good n r popped size =
    let all = r.stack_in in
    record {
      all_marks = r.all_marks;
      stack_in = grind (arith, elements);
      good_size = size ∙ r.good_size;
      followed_size = r.followed_size;
    }

-- what was looked at so far
module _ (references : List ℕ) (marks : List Bool) (stack : List ℕ) where
  pub looked_none : Looked references marks stack marks stack
  looked_none = record { keeps_marks = λ m h. h; keeps_stack = λ m h. h; fresh = λ m h. inl h; waiting = λ m h. inl h }

  -- a reference to an object that was not marked
  pub looked_more : (marks' : List Bool) (stack' : List ℕ) (m : ℕ) → Looked references marks stack marks' stack' → Contains references m → m < length marks' → Looked references marks stack (set marks' m true) (stack' ++ m ∷ [])
  looked_more marks' stack' m s among fits = record {
    keeps_marks = λ n h. seen-set marks' m n fits (s.keeps_marks n h);
    keeps_stack = λ n h. Contains-append_left stack' (m ∷ []) n (s.keeps_stack n h);
    fresh = λ n h. elim (cases_eq n m) [
      | inl e ↦ inr (rw e among, rw e (Contains-push stack' m))
      | inr d ↦ or_then (s.fresh n (rw (get_or-set_other marks' m n true false d) at h)) (λ new. (new.0, Contains-append_left stack' (m ∷ []) n new.1))
    ];
    waiting = λ n h. elim (Contains-push_cases stack' m n h) [
      | inl w ↦ or_then (s.waiting n w) (seen-set marks' m n fits)
      | inr e ↦ rw (← e) (inr (get_or-set_same marks' m true false fits))
    ];
  }

-- at the start as many objects are left as there are: one is marked, and waits
pub work_first : (size first : ℕ) → first < size → count_by not (set (replicate size false) first true) + 1 ≤ size
work_first size first low =
    let long = length-replicate {A = Bool} size false in
    let less = rw (unwritten size first false) at (count-set not (replicate size false) first true false (omega (arith, low, long))) in
    omega (arith, less, count_by-le-length not (replicate size false), long)

-- object m is marked, and went onto the stack if it was not marked before
pub record Takes (m : ℕ) (marks : List Bool) (stack : List ℕ) (marks' : List Bool) (stack' : List ℕ) : Type 0 where
  pub all : length marks' ≡ length marks
  pub marked : IsMarked marks' m
  pub keeps : (k : ℕ) → IsMarked marks k → IsMarked marks' k
  pub stack_in : (size : ℕ) → m < size → All (λ k. k < size) stack → All (λ k. k < size) stack'
  pub work : count_by not marks' + length stack' ≤ count_by not marks + length stack
  pub looked : (references : List ℕ) (first : List Bool) (begun : List ℕ) → Contains references m → Looked references first begun marks stack → Looked references first begun marks' stack'

pub takes_new : (m : ℕ) (marks : List Bool) (stack : List ℕ) → m < length marks → get_or marks m false ≡ false → Takes m marks stack (set marks m true) (stack ++ m ∷ [])
takes_new m marks stack fits unmarked = record {
  all = length-set marks m true;
  marked = get_or-set_same marks m true false fits;
  keeps = λ k h. seen-set marks m k fits h;
  stack_in = λ size low all. grind (arith, elements);
  work = omega (arith, rw unmarked at (count-set not marks m true false fits), length_push stack m);
  looked = λ references first begun among s. looked_more references first begun marks stack m s among fits;
}

pub takes_old : (m : ℕ) (marks : List Bool) (stack : List ℕ) → IsMarked marks m → Takes m marks stack marks stack
takes_old m marks stack marked = record {
  all = refl;
  marked = marked;
  keeps = λ k h. h;
  stack_in = λ size low all. all;
  work = omega arith;
  looked = λ references first begun among s. s;
}

module _ (f : List ℕ) (F : Frame) where
  -- one object of the stack was looked at
  pub searching_step : (n : ℕ) (stack : List ℕ) (marks : List Bool) (good followed : List ℕ) (stack' : List ℕ) (marks' : List Bool) (good' followed' : List ℕ) → IsSearching f F (stack ++ n ∷ []) marks good followed
      → Looked (refs_at f F n) marks stack marks' stack' → HasMarks marks' (refs_at f F n) → AreGood f F good' → AreFollowed f F followed' marks' → IsSearching f F stack' marks' good' followed'
  searching_step n stack marks good followed stack' marks' good' followed' w s all known_good known_followed =
      let at_n : Reach f F n = w.sound n (w.on_stack n (Contains-push stack n)) in
      record {
        begun = s.keeps_marks F.top.0 w.begun;
        sound = λ m h. elim (s.fresh m h) [ inl old ↦ w.sound m old | inr new ↦ next at_n ((refs_iff f F n m).1 new.0) ];
        on_stack = λ m c. elim (s.waiting m c) [
          | inl old ↦ s.keeps_marks m (w.on_stack m (Contains-append_left stack (n ∷ []) m old))
          | inr new ↦ new
        ];
        closed = λ m h. elim (s.fresh m h) [
          | inl old ↦ elim (w.closed m old) [
            | inl on ↦ elim (Contains-push_cases stack n m on) [ inl rest ↦ inl (s.keeps_stack m rest) | inr e ↦ inr (rw (← e) all) ]
            | inr marked ↦ inr (λ i low. s.keeps_marks _ (marked i low))
          ]
          | inr new ↦ inl new.1
        ];
        known_good = known_good;
        known_followed = known_followed;
      }

  -- an object without references was looked at
  pub searching_none : (n : ℕ) (stack : List ℕ) (marks : List Bool) (good followed good' : List ℕ) → IsSearching f F (stack ++ n ∷ []) marks good followed → refs_at f F n ≡ [] → AreGood f F good' → IsSearching f F stack marks good' followed
  searching_none n stack marks good followed good' w none known_good =
      searching_step n stack marks good followed stack marks good' followed w (looked_none (refs_at f F n) marks stack) (λ i low. absurd (let z = ap length none in omega (arith, low, z))) known_good w.known_followed

  -- the top is marked
  pub searching_start : (good followed : List ℕ) → F.top.0 < F.objects → ((k : ℕ) → IsIn good k → ⊥) → ((k : ℕ) → IsIn followed k → ⊥) → IsSearching f F ([] ++ F.top.0 ∷ []) (set (replicate F.objects false) F.top.0 true) good followed
  searching_start good followed within no_good none_followed =
      let begun : IsMarked (set (replicate F.objects false) F.top.0 true) F.top.0 = get_or-set_same (replicate F.objects false) F.top.0 true false (rw length-replicate within) in
      let is_top : (m : ℕ) → IsMarked (set (replicate F.objects false) F.top.0 true) m → m ≡ F.top.0 =
      λ m h. elim (fresh-set (replicate F.objects false) F.top.0 m h) [ inl old ↦ absurd (none_marked F.objects m old) | inr e ↦ e ] in
      record {
        begun = begun;
        sound = λ m h. rw (is_top m h) top;
        on_stack = λ m c. elim (Contains-push_cases [] F.top.0 m c) [ inl none ↦ absurd (none_in m none) | inr e ↦ rw (← e) begun ];
        closed = λ m h. inl (rw (is_top m h) (Contains-push [] F.top.0));
        known_good = λ k i. absurd (no_good k i);
        known_followed = λ k i. absurd (none_followed k i);
      }

  -- the stack is empty
  module _ (marks : List Bool) (good followed : List ℕ) (w : IsSearching f F [] marks good followed) where
    reach_marked : (n : ℕ) → Reach f F n → IsMarked marks n
    reach_marked n top = w.begun
    reach_marked n (next {n = k} r e) = elim (w.closed k (reach_marked k r)) [
      | inl on ↦ absurd (none_in k on)
      | inr all ↦ let c = (refs_iff f F k n).0 e in rw (← c.2) (rw (get_or_default (refs_at f F k) c.0 n 0 c.1) (all c.0 c.1))
    ]

    pub searching_end : (n : ℕ) → IsMarked marks n ↔ Reach f F n
    searching_end n = (w.sound n, reach_marked n)

  -- ---- what follows from a body whose places were all followed
  module _ (head : Head) (some : 1 ≤ F.ref_size) (safe : IsSafeHead F head) where
    -- reference k is at this number
    pub reference_at_k : (k : ℕ) → k < ref_count head.kind head.count → reference_at f F (place_index F head.body + k) ≡ nth_number f head.body F.ref_size k
    reference_at_k k low = ap (λ p. num_at f p F.ref_size) (place_back F some head.body k (place_fits F head safe k low))

    pub numbers_low : place_index F head.body + ref_count head.kind head.count ≤ index_count F
    numbers_low = elim (cases_lt 0 (ref_count head.kind head.count)) [
      | inl has ↦ let last = number_fits F some head.body (ref_count head.kind head.count - 1) (place_fits F head safe _ (omega arith)) in omega (arith, last, has)
      | inr none ↦ let first = number_low F head.body some (omega (arith, safe.body, safe.table)) in omega (arith, first, none)
    ]

    pub all_good : (good : List ℕ) → AreGood f F good → ((k : ℕ) → k < ref_count head.kind head.count → IsIn good (place_index F head.body + k)) → AreBelow f head.body F.ref_size (ref_count head.kind head.count) F.objects
    all_good good known all k low = rw (reference_at_k k low) at (known _ (all k low))

    pub all_marked : (followed : List ℕ) (marks : List Bool) → AreFollowed f F followed marks → ((k : ℕ) → k < ref_count head.kind head.count → IsIn followed (place_index F head.body + k)) → HasMarks marks (refs (content_at f F head))
    all_marked followed marks known all k low =
        let below : k < ref_count head.kind head.count = omega (arith, low, length-refs f F head.kind head.count head.body) in
        subst (IsMarked marks) (reference_at_k k below ∙ sym (nth-refs f F head.kind head.count head.body k below)) (known _ (all k below))
