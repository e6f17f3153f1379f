-- Each object of a finite graph is reached or not, and founded or not. If the top is not founded there is a circle.
use Rattle.std.proofs.Common.{◌≡◌, ℕ, zero, suc, ◌+◌, ◌-◌, ◌<◌, ◌⊎◌, inl, inr, Bool, true, false, not, cond, List, length, get_or, set, map, replicate, count_by, Contains, refl, sym, ap, ◌∙◌, subst, arith}
use Rattle.std.specs.List.{range_with_len}
use Rattle.std.proofs.lemmas.Bool.{cases_eq, cases_Bool, false≢true, false_from_ne_true}
use Rattle.std.proofs.lemmas.List.{length-set, length-replicate, get_or_default}
use Rattle.std.proofs.lemmas.List.FromFn.{get_or-map-range_with_len, length-map-range_with_len}
use Rattle.std.proofs.lemmas.List.Elements.{Contains-get_or}
use Rattle.bplist_objects.proofs.Lists.{Either, all_or_first}
use Rattle.bplist_keys.specs.Marks.{IsMarked}
use Rattle.bplist_cert.proofs.AllNumbers.{onto}
use Rattle.bplist_lint.specs.Graph.{Reaches, Ends, IsFirstUnfoundedIn, IsCircleOf}
use Rattle.bplist_lint.specs.Graph.Reaches.{start, onward}
use Rattle.bplist_lint.specs.Graph.Ends.{ends}
use Rattle.bplist_lint.proofs.FirstWithout.{first_at}
use Rattle.bplist_lint.proofs.ListWrites.{at_set, count-set}
use Rattle.bplist_lint.proofs.MarkSteps.{or_then, none_marked}

-- there is a number below a bound with P, or there is none
pub some_or_none : (Q : ℕ → Type 0) → ((k : ℕ) → Either (Q k)) → (bound : ℕ) → ((i : ℕ) × (i < bound) × Q i) ⊎ ((k : ℕ) → k < bound → Q k → ⊥)
some_or_none Q each bound = elim (all_or_first (λ k. Q k → ⊥) Q (λ k. elim (each k) [ inl q ↦ inr q | inr n ↦ inl n ]) bound) [
  | inl none ↦ inr none
  | inr some ↦ inl (some.0, some.1, some.2)
]

marked_decided : (marks : List Bool) (n : ℕ) → Either (IsMarked marks n)
marked_decided marks n = elim (cases_Bool (get_or marks n false)) [
  | inl yes1 ↦ inl yes1
  | inr no1 ↦ inr (λ is. false≢true (sym no1 ∙ is))
]

member_decided : (xs : List ℕ) (m : ℕ) → Either (Contains xs m)
member_decided xs m = or_then (some_or_none (λ k. get_or xs k m ≡ m) (λ k. cases_eq (get_or xs k m) m) (length xs)) (λ none c. none c.0 c.1 c.2)

-- ---- a set that is found step by step
-- the marks are those of a set that Rule adds nothing to
record IsClosed (P : ℕ → Type 0) (size : ℕ) (Rule : List Bool → ℕ → Type 0) (marks : List Bool) : Type 0 where
  right : (n : ℕ) → IsMarked marks n → P n
  done : (n : ℕ) → n < size → (IsMarked marks n → ⊥) → Rule marks n → ⊥

module _ (P : ℕ → Type 0) (size : ℕ) (Rule : List Bool → ℕ → Type 0) (decided : (marks : List Bool) (n : ℕ) → Either (Rule marks n))
    (sound : (marks : List Bool) → ((m : ℕ) → IsMarked marks m → P m) → (n : ℕ) → n < size → Rule marks n → P n) where
  abbrev IsFresh : List Bool → ℕ → Type 0
  IsFresh marks n = (IsMarked marks n → ⊥) × Rule marks n

  fresh_decided : (marks : List Bool) (n : ℕ) → Either (IsFresh marks n)
  fresh_decided marks n = elim (marked_decided marks n) [
    | inl is ↦ inr (λ h. h.0 is)
    | inr off ↦ elim (decided marks n) [
      | inl rule ↦ inl (off, rule)
      | inr never ↦ inr (λ h. never h.1)
    ]
  ]

  -- with one more mark
  module _ (marks : List Bool) (all : length marks ≡ size) (n : ℕ) (lt : n < size) where
    right_one : ((m : ℕ) → IsMarked marks m → P m) → Rule marks n → (m : ℕ) → IsMarked (set marks n true) m → P m
    right_one right rule m is = elim (at_set marks n true false m (omega (arith, lt, all))) [
      | inl same ↦ subst P (sym same.0) (sound marks right n lt rule)
      | inr other ↦ right m (sym other.1 ∙ is)
    ]

    fewer : (IsMarked marks n → ⊥) → count_by not (set marks n true) + 1 ≡ count_by not marks
    fewer off =
        let off1 : get_or marks n false ≡ false = false_from_ne_true (get_or marks n false) off in
        let one : 0 + cond (not (get_or marks n false)) 1 0 ≡ 1 = ap (λ b. 0 + cond (not b) 1 0) off1 in
        omega (arith, count-set not marks n true false (omega (arith, lt, all)), one)

  -- marks are added until none is missing
  close : (fuel : ℕ) (marks : List Bool) → length marks ≡ size → ((n : ℕ) → IsMarked marks n → P n) → count_by not marks < fuel → (marks' : List Bool) × IsClosed P size Rule marks'
  close zero marks all right few = absurd (omega (arith, few))
  close (suc fuel) marks all right few = elim (some_or_none (IsFresh marks) (fresh_decided marks) size) [
    | inr none ↦ (marks, record { right = right; done = λ n lt off rule. none n lt (off, rule) })
    | inl some ↦ close fuel (set marks some.0 true) (length-set marks some.0 true ∙ all) (right_one marks all some.0 some.1 right some.2.1) (omega (arith, fewer marks all some.0 some.1 some.2.0, few))
  ]

  closed : (marks : List Bool) × IsClosed P size Rule marks
  closed = close (suc (count_by not (replicate size false))) (replicate size false) (length-replicate size false) (λ n is. absurd (none_marked size n is)) (omega arith)

-- ---- a finite graph
module _ (graph : ℕ → List ℕ) (size : ℕ) (inside : (n m : ℕ) → Contains (graph n) m → m < size) where
  -- ---- what is reached
  module _ (top : ℕ) (lt_top : top < size) where
    -- the top, or what a marked object refers to
    abbrev IsNext : List Bool → ℕ → Type 0
    IsNext marks n = (n ≡ top) ⊎ ((m : ℕ) × (m < size) × (IsMarked marks m × Contains (graph m) n))

    next_decided : (marks : List Bool) (n : ℕ) → Either (IsNext marks n)
    next_decided marks n = elim (cases_eq n top) [
      | inl e ↦ inl (inl e)
      | inr ne ↦ elim (some_or_none (λ m. IsMarked marks m × Contains (graph m) n) (λ m. both (marked_decided marks m) (member_decided (graph m) n)) size) [
        | inl some ↦ inl (inr some)
        | inr none ↦ inr (λ h. elim h [ inl e ↦ ne e | inr some ↦ none some.0 some.1 some.2 ])
      ]
    ]
      where
        both : {A B : Type 0} → Either A → Either B → Either (A × B)
        both (inl a) (inl b) = inl (a, b)
        both (inl a) (inr b) = inr (λ h. b h.1)
        both (inr a) b = inr (λ h. a h.0)

    next_reached : (marks : List Bool) → ((m : ℕ) → IsMarked marks m → Reaches graph top m) → (n : ℕ) → n < size → IsNext marks n → Reaches graph top n
    next_reached marks right n lt (inl e) = subst (Reaches graph top) (sym e) start
    next_reached marks right n lt (inr some) = onward some.0 n (right some.0 some.2.0) some.2.1

    reached_marks : (marks : List Bool) × IsClosed (Reaches graph top) size IsNext marks
    reached_marks = closed (Reaches graph top) size IsNext next_decided next_reached

    reach_inside : (n : ℕ) → Reaches graph top n → n < size
    reach_inside _ start = lt_top
    reach_inside _ (onward n m r c) = inside n m c

    reached_marked : (n : ℕ) → Reaches graph top n → IsMarked reached_marks.0 n
    reached_marked _ start = elim (marked_decided reached_marks.0 top) [
      | inl is ↦ is
      | inr off ↦ absurd (reached_marks.1.done top lt_top off (inl refl))
    ]
    reached_marked _ (onward n m r c) = elim (marked_decided reached_marks.0 m) [
      | inl is ↦ is
      | inr off ↦ absurd (reached_marks.1.done m (inside n m c) off (inr (n, reach_inside n r, (reached_marked n r, c))))
    ]

    pub reach_decided : (n : ℕ) → Either (Reaches graph top n)
    reach_decided n = elim (marked_decided reached_marks.0 n) [
      | inl is ↦ inl (reached_marks.1.right n is)
      | inr off ↦ inr (λ r. off (reached_marked n r))
    ]

  -- ---- what is founded
  abbrev AllMarked : List Bool → ℕ → Type 0
  AllMarked marks n = (i : ℕ) → i < length (graph n) → IsMarked marks (get_or (graph n) i 0)

  -- the first reference that is not marked
  abbrev FirstOff : List Bool → ℕ → Type 0
  FirstOff marks n = (i : ℕ) × (i < length (graph n)) × (IsMarked marks (get_or (graph n) i 0) → ⊥) × ((k : ℕ) → k < i → IsMarked marks (get_or (graph n) k 0))

  marked_or_first : (marks : List Bool) (n : ℕ) → AllMarked marks n ⊎ FirstOff marks n
  marked_or_first marks n =
      all_or_first (λ i. IsMarked marks (get_or (graph n) i 0)) (λ i. IsMarked marks (get_or (graph n) i 0) → ⊥) (λ i. marked_decided marks (get_or (graph n) i 0)) (length (graph n))

  all_marked_decided : (marks : List Bool) (n : ℕ) → Either (AllMarked marks n)
  all_marked_decided marks n = or_then (marked_or_first marks n) (λ first all. first.2 (all first.0 first.1))

  founded_marks : (marks : List Bool) × IsClosed (Ends graph) size AllMarked marks
  founded_marks =
      closed (Ends graph) size AllMarked all_marked_decided (λ marks right n lt all. ends n (λ m c. subst (Ends graph) (sym (get_or_default (graph n) c.0 m 0 c.1) ∙ c.2) (right (get_or (graph n) c.0 0) (all c.0 c.1))))

  abbrev IsFound : ℕ → Type 0
  IsFound n = IsMarked founded_marks.0 n

  found_or_first : (n : ℕ) → n < size → (IsFound n → ⊥) → FirstOff founded_marks.0 n
  found_or_first n lt off = elim (marked_or_first founded_marks.0 n) [
    | inl all ↦ absurd (founded_marks.1.done n lt off all)
    | inr first ↦ first
  ]

  not_found : (n : ℕ) → n < size → (IsFound n → ⊥) → Ends graph n → ⊥
  not_found _ lt off (ends n each) =
      let f = found_or_first n lt off in
      let c = Contains-get_or (graph n) f.0 0 f.1 in
      not_found (get_or (graph n) f.0 0) (inside n (get_or (graph n) f.0 0) c) f.2 (each (get_or (graph n) f.0 0) c)

  -- ---- the walk along first references that are not founded
  record OffObject : Type 0 where
    at : ℕ
    within : at < size
    off : IsFound at → ⊥

  next_off : (n : OffObject) → (m : OffObject) × IsFirstUnfoundedIn graph n.at m.at
  next_off n =
      let f = found_or_first n.at n.within n.off in
      let m = get_or (graph n.at) f.0 0 in
      let lt = inside n.at m (Contains-get_or (graph n.at) f.0 0 f.1) in
      (record { at = m; within = lt; off = f.2 }, first_at (Ends graph) (graph n.at) m f.0 f.1 refl (not_found m lt f.2) (λ k l. founded_marks.1.right (get_or (graph n.at) k 0) (f.3 k l)))

  abbrev walk : OffObject → ℕ → OffObject
  walk top zero = top
  walk top (suc k) = (next_off (walk top k)).0

  module _ (top : OffObject) where
    abbrev x : ℕ → ℕ
    x k = (walk top k).at

    abbrev Meets : ℕ → Type 0
    Meets j = (i : ℕ) × (i < j) × (x i ≡ x j)

    meets_decided : (j : ℕ) → ((i : ℕ) → i < j → x i ≡ x j → ⊥) ⊎ Meets j
    meets_decided j = elim (some_or_none (λ i. x i ≡ x j) (λ i. cases_eq (x i) (x j)) j) [
      | inl some ↦ inr some
      | inr none ↦ inl none
    ]

    first_meet : (j : ℕ) × (j < suc size) × Meets j × ((l : ℕ) → l < j → (i : ℕ) → i < l → x i ≡ x l → ⊥)
    first_meet = elim (all_or_first (λ j. (i : ℕ) → i < j → x i ≡ x j → ⊥) Meets meets_decided (suc size)) [
      | inl none ↦
          let last = onto size x (λ j l. (walk top j).within) (λ i j l k. none j (omega (arith, k)) i l) (x size) (walk top size).within in
          absurd (none size (omega arith) last.0 last.1 last.2)
      | inr some ↦ some
    ]

    there_is_circle : (circle : List ℕ) × IsCircleOf graph top.at circle
    there_is_circle =
        let m = first_meet in
        let j = m.0 in
        let i = m.2.0 in
        let long = length-map-range_with_len x i (j - i) in
        let end : i + length (map x (range_with_len i (j - i))) ≡ j = omega (arith, long, m.2.1) in (
          map x (range_with_len i (j - i)),
          record {
            x = x;
            i = i;
            begins = refl;
            leads = λ k l. (next_off (walk top k)).1;
            some = omega (arith, long, m.2.1);
            meets = m.2.2 ∙ ap x (sym end);
            least = λ k l lt below. m.3 l (omega (arith, below, end)) k lt;
            listed = λ k l. get_or-map-range_with_len x i (j - i) k (i + k) 0 (omega (arith, l, long)) refl;
          },
        )

  -- an object is founded, or first references that are not founded lead from it to a circle
  pub founded_or_circle : (top : ℕ) → top < size → Ends graph top ⊎ ((circle : List ℕ) × IsCircleOf graph top circle)
  founded_or_circle top lt = elim (marked_decided founded_marks.0 top) [
    | inl is ↦ inl (founded_marks.1.right top is)
    | inr off ↦ inr (there_is_circle (record { at = top; within = lt; off = off }))
  ]
