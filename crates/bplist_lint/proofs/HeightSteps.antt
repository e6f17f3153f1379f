-- Steps of the walk that finds the least heights.
use Rattle.std.proofs.Common.{◌≡◌, ◌≢◌, ℕ, zero, suc, ◌+◌, ◌*◌, ◌<◌, ◌≤◌, max, ◌⊎◌, inl, inr, Bool, true, false, cond, List, [], ◌∷◌, ◌++◌, length, get_or, map, set, take, slice_index, count_by, Contains, refl, sym, ◌∙◌, ap, arith, add-one}
use Rattle.std.specs.Int.{from_bool}
use Rattle.std.proofs.Math.ListN.{get_or-eq_default}
use Rattle.std.proofs.lemmas.Bool.{cases_eq, cases_lt}
use Rattle.std.proofs.lemmas.List.{get_or-set_same, get_or-set_other, get_or_append_left, get_or_push, get_or_default, get_or-map, length-set, length-map, length_push, map-append, take_more}
use Rattle.std.proofs.lemmas.List.Sums.{count_by-le-length}
use Rattle.std.proofs.lemmas.List.Elements.{Contains-get_or, Contains-append_left, Contains-push, Contains-push_cases}
use Rattle.bplist_lint.specs.Graph.{Ends, Least, greatest, IsPart}
use Rattle.bplist_lint.specs.Graph.Ends.{ends}
use Rattle.bplist_lint.specs.Graph.Least.{above}
use Rattle.bplist_keys.specs.Marks.{IsMarked}
use Rattle.bplist_lint.specs.HeightWalks.{state_at, is_founded, first_state, HasMet, Settles, Standing, IsHeightWalk, AreLeastOf}
use Rattle.bplist_lint.specs.declared.heights.HeightWalk.{HeightWalk}
use Rattle.bplist_lint.specs.declared.heights.State.{State}
use Rattle.bplist_lint.specs.declared.heights.State.TheVariants.{New, Open, Founded, Circular}
use Rattle.bplist_lint.proofs.MarkSteps.{apart_none, apart_push, apart_front, apart_last}
use Rattle.bplist_lint.proofs.ReferenceParts.{take_part}
use Rattle.bplist_lint.proofs.ListWrites.{count-set, push_cases, at_set}

-- ---- states
-- nothing is known of the object yet
abbrev pub is_new : State → Bool
is_new New = true
is_new _ = false

-- what is left to do: each object on the stack, and twice each object of which nothing is known
abbrev pub work : List State → List ℕ → ℕ
work states stack = 2 * count_by is_new states + length stack

-- an object of which something is known is one of those that have a state
state_within : (states : List State) (n : ℕ) → state_at states n ≢ New → n < length states
state_within states n known = elim (cases_lt n (length states)) [
  | inl low ↦ low
  | inr high ↦ absurd (known (get_or-eq_default states New high))
]

-- what is known about an object stays known when a state is written, its own or another
pub stays_known : (states : List State) (n : ℕ) (state : State) → n < length states → state ≢ New → (m : ℕ) → state_at states m ≢ New → state_at (set states n state) m ≢ New
stays_known states n state within old m known e = elim (at_set states n state New m within) [
  | inl c ↦ old (sym c.1 ∙ e)
  | inr c ↦ known (sym c.1 ∙ e)
]

-- another state than the one that is written stands at another place, as before
unset : (states : List State) (m n : ℕ) (v state : State) → m < length states → state ≢ v
    → state_at (set states m v) n ≡ state → (n ≢ m) × (state_at states n ≡ state)
unset states m n v state within differ is = elim (at_set states m v New n within) [
  | inl c ↦ absurd (differ (sym is ∙ c.1))
  | inr c ↦ (c.0, sym c.1 ∙ is)
]

-- no object loses its state when one is written
pub settles_more : (n : ℕ) (before after now : HeightWalk) (m : ℕ) (state : State) → m < length after.states.items → state ≢ New
    → now.states.items ≡ set after.states.items m state → Settles n before after → Settles n before now
settles_more n before after now m state within known is s = record {
  sees = rw is (stays_known after.states.items m state within known n s.sees);
  keeps = λ k old. rw is (stays_known after.states.items m state within known k (s.keeps k old));
}

-- a scan that found a new object, which is opened then, has met it too
pub met_on : (references : List ℕ) (states : List State) (i next : ℕ) → next < length states → i < length references → next ≡ slice_index references i
    → ((k : ℕ) → k < i → state_at states (slice_index references k) ≢ New) → HasMet references (set states next Open) (i + 1)
met_on references states i next within inside there before = (
  omega (arith, inside),
  λ k low. elim (cases_eq k i) [
    | inl last ↦ rw (last, ← there, get_or-set_same states next Open New within) (λ e. cc e)
    | inr ne ↦ stays_known states next Open within (λ e. cc e) _ (before k (omega (arith, low, ne)))
  ],
)

-- the states and heights before the walk
pub first_is : (childless : List Bool) (n : ℕ) → (IsMarked childless n × (state_at (map first_state childless) n ≡ Founded) × (get_or (map from_bool childless) n 0 ≡ 1)) ⊎ ((state_at (map first_state childless) n ≡ New) × (get_or (map from_bool childless) n 0 ≡ 0))
first_is [] n = inr (refl, refl)
first_is (true ∷ bs) zero = inl (refl, refl, refl)
first_is (true ∷ bs) (suc n) = first_is bs n
first_is (false ∷ bs) zero = inr (refl, refl)
first_is (false ∷ bs) (suc n) = first_is bs n

first_other : (childless : List Bool) (n : ℕ) (state : State) → state ≢ Founded → state ≢ New → state_at (map first_state childless) n ≢ state
first_other childless n state founded new is = elim (first_is childless n) [
  | inl c ↦ founded (sym is ∙ c.1)
  | inr c ↦ new (sym is ∙ c.0)
]

-- a founded object is counted
counted : (states : List State) (n : ℕ) → state_at states n ≡ Founded → 0 < count_by is_founded states
counted states n is =
    let within = state_within states n (λ e. absurd (cc (sym is ∙ e))) in
    omega (arith, rw is at (count-set is_founded states n New New within))

pub standing_first : (size : ℕ) (childless : List Bool) → length childless ≡ size → Standing size (map first_state childless) (map from_bool childless) []
standing_first size childless long = record {
  all_states = length-map childless first_state ∙ long;
  all_heights = length-map childless from_bool ∙ long;
  are_open = λ k h. absurd (omega arith);
  apart = apart_none;
  on_stack = λ n is. absurd (first_other childless n Open (λ e. cc e) (λ e. cc e) is);
  low = λ n is. elim (first_is childless n) [
    | inl c ↦ let some = counted (map first_state childless) n c.1 in omega (arith, c.2, some)
    | inr c ↦ absurd (cc (sym c.0 ∙ is))
  ];
  known = λ n h. elim (first_is childless n) [
    | inl c ↦ inl c.1
    | inr c ↦ absurd (omega (arith, c.1, h))
  ];
}

module _ (size : ℕ) (states : List State) (heights stack : List ℕ) where
  -- what is on the stack is open
  open_on : Standing size states heights stack → (n : ℕ) → Contains stack n → state_at states n ≡ Open
  open_on s n c = rw (sym (get_or_default stack c.0 n 0 c.1) ∙ c.2) at (s.are_open c.0 c.1)

  -- a new object has no height
  pub no_height : Standing size states heights stack → (n : ℕ) → state_at states n ≡ New → slice_index heights n ≡ 0
  no_height s n new = elim (cases_lt 0 (slice_index heights n)) [
    | inl some ↦ absurd (elim (s.known n some) [ inl is ↦ cc (sym new ∙ is) | inr is ↦ cc (sym new ∙ is) ])
    | inr none ↦ omega (arith, none)
  ]

  -- a new object is opened, on top of the stack
  pub standing_open : (m : ℕ) → Standing size states heights stack → m < size → state_at states m ≡ New → Standing size (set states m Open) heights (stack ++ m ∷ [])
  standing_open m s in' new =
      let within : m < length states = omega (arith, s.all_states) in
      let same = count-set is_founded states m Open New within in
      let opened : (n : ℕ) → state_at states n ≡ Open → state_at (set states m Open) n ≡ Open = λ n is. elim (at_set states m Open New n within) [
        | inl c ↦ c.1
        | inr c ↦ c.1 ∙ is
      ] in
      record {
        all_states = length-set states m Open ∙ s.all_states;
        all_heights = s.all_heights;
        are_open = λ k h. elim (push_cases stack m 0 k h) [
          | inl c ↦ rw c.1 (opened _ (s.are_open k c.0))
          | inr c ↦ rw c.1 (get_or-set_same states m Open New within)
        ];
        apart = apart_push stack m s.apart (λ c. absurd (cc (sym new ∙ open_on s m c)));
        on_stack = λ n is. elim (at_set states m Open New n within) [
          | inl c ↦ rw c.0 (Contains-push stack m)
          | inr c ↦ Contains-append_left stack (m ∷ []) n (s.on_stack n (sym c.1 ∙ is))
        ];
        low = λ n is. let l = s.low n (unset states m n Open Founded within (λ e. cc e) is).1 in omega (arith, l, rw new at same);
        known = λ n h. elim (s.known n h) [
          | inl is ↦ elim (at_set states m Open New n within) [
            | inl c ↦ inr c.1
            | inr c ↦ inl (c.1 ∙ is)
          ]
          | inr is ↦ inr (opened n is)
        ];
      }

-- ---- the object on top of the stack
module _ (size : ℕ) (states : List State) (heights stack : List ℕ) (n : ℕ) (s : Standing size states heights (stack ++ n ∷ [])) where
  pub top_open : state_at states n ≡ Open
  top_open = rw (get_or_push stack n 0 (length stack) refl) at (s.are_open (length stack) (let l = length_push stack n in omega arith))

  pub top_within : n < size
  top_within = let l = state_within states n (λ e. absurd (cc (sym top_open ∙ e))) in omega (arith, l, s.all_states)

  -- the object on top has no height yet, so there is room for one more
  pub top_room : count_by is_founded states < size
  top_room =
      let within : n < length states = omega (arith, top_within, s.all_states) in
      let more = rw top_open at (count-set is_founded states n Founded New within) in
      let most = count_by-le-length is_founded (set states n Founded) in
      omega (arith, more, most, length-set states n Founded, s.all_states)

  -- the object on top waits again; its height slot holds the index at which its scan resumes
  pub standing_back : (heights' : List ℕ) → length heights' ≡ length heights → ((m : ℕ) → m ≢ n → get_or heights' m 0 ≡ get_or heights m 0) → Standing size states heights' (stack ++ n ∷ [])
  standing_back heights' long same = record {
    all_states = s.all_states;
    all_heights = long ∙ s.all_heights;
    are_open = s.are_open;
    apart = s.apart;
    on_stack = s.on_stack;
    low = λ m is. rw (same m (λ e. let o : state_at states m ≡ Open = rw e top_open in absurd (cc (sym is ∙ o)))) (s.low m is);
    known = λ m h. elim (cases_eq m n) [
      | inl e ↦ inr (rw e top_open)
      | inr ne ↦ s.known m (rw (same m ne) at h)
    ];
  }

  -- the object on top is settled
  pub standing_settle : (state : State) (h : ℕ) → state ≢ Open → is_new state ≡ false → (state ≡ Founded → h ≤ count_by is_founded states + 1) → (0 < h → state ≡ Founded) → Standing size (set states n state) (set heights n h) stack
  standing_settle state h closed old low high =
      let within : n < length states = omega (arith, top_within, s.all_states) in
      let within' : n < length heights = omega (arith, top_within, s.all_heights) in
      let more = rw top_open at (count-set is_founded states n state New within) in
      record {
        all_states = length-set states n state ∙ s.all_states;
        all_heights = length-set heights n h ∙ s.all_heights;
        are_open = λ k l.
            let was = s.are_open k (let long = length_push stack n in omega arith) in
            let other = apart_last stack n (slice_index stack k) s.apart (Contains-get_or stack k 0 l) in
            get_or-set_other states n (slice_index stack k) state New other ∙ rw (get_or_append_left stack (n ∷ []) 0 k l) at was;
        apart = apart_front stack n s.apart;
        on_stack = λ m is.
            let c = unset states n m state Open within (λ e. closed (sym e)) is in
            elim (Contains-push_cases stack n m (s.on_stack m c.1)) [ inl on ↦ on | inr e ↦ absurd (c.0 (sym e)) ];
        low = λ m is. elim (at_set states n state New m within) [
          | inl c ↦
              let founded : state ≡ Founded = sym c.1 ∙ is in
              rw (c.0, get_or-set_same heights n h 0 within') (let l = low founded in omega (arith, l, ap {B = ℕ} (λ (x : State). cond (is_founded x) 1 0) founded, more))
          | inr c ↦ rw (get_or-set_other heights n m h 0 c.0) (let l = s.low m (sym c.1 ∙ is) in omega (arith, l, more))
        ];
        known = λ m l. elim (at_set heights n h 0 m within') [
          | inl c ↦ inl (rw c.0 (get_or-set_same states n state New within ∙ high (rw c.1 at l)))
          | inr c ↦ rw (get_or-set_other states n m state New c.0) (s.known m (rw c.1 at l))
        ];
      }

  pub work_settle : (state : State) → is_new state ≡ false → work (set states n state) stack < work states (stack ++ n ∷ [])
  work_settle state old =
      let within : n < length states = omega (arith, top_within, s.all_states) in
      omega (arith, length_push stack n, rw (top_open, old) at (count-set is_new states n state New within))

-- ---- circles
-- nothing on a circle is founded: objects j from k to last, each with the next one among its references, and the last
-- with that at k
pub no_circle : (refs : ℕ → List ℕ) (at : ℕ → ℕ) (k last : ℕ) → ((j : ℕ) → k ≤ j → j < last → Contains (refs (at j)) (at (suc j))) → Contains (refs (at last)) (at k) → (x : ℕ) → Ends refs x → (j : ℕ) → k ≤ j → j ≤ last → x ≡ at j → ⊥
no_circle refs at k last next back _ (ends x f) j low high is =
    elim (cases_eq j last) [
      | inl e ↦ no_circle refs at k last next back (at k) (f (at k) (rw (is, e) back)) k (omega arith) (omega arith) refl
      | inr ne ↦ let below : j < last = omega arith in
          no_circle refs at k last next back (at (suc j)) (f (at (suc j)) (rw is (next j low below))) (suc j) (omega arith) (omega arith) refl
    ]

-- an object with a reference that is not founded is not founded
ends_reference : (refs : ℕ → List ℕ) (n m : ℕ) → Ends refs n → Contains (refs n) m → Ends refs m
ends_reference refs _ m (ends n f) among = f m among

-- ---- heights
pub greatest-push : (hs : List ℕ) (h : ℕ) → greatest (hs ++ h ∷ []) ≡ max (greatest hs) h
greatest-push [] h = omega arith
greatest-push (x ∷ xs) h = omega (arith, greatest-push xs h)

pub height_over : (refs : ℕ → List ℕ) (n h : ℕ) → Least refs n h → 0 < h
height_over refs _ _ (above n heights long each) = omega arith

pub among_at : (xs : List ℕ) (i m : ℕ) → i < length xs → m ≡ get_or xs i 0 → Contains xs m
among_at xs i m in' is = rw is (Contains-get_or xs i 0 in')

-- the greatest height of the first objects, with one more
pub greatest_more : (heights objects : List ℕ) (i best m : ℕ) → i < length objects → m ≡ get_or objects i 0 → best ≡ greatest (map (λ x. slice_index heights x) (take i objects)) → max best (slice_index heights m) ≡ greatest (map (λ x. slice_index heights x) (take (i + 1) objects))
greatest_more heights objects i best m in' is so =
    let h : ℕ → ℕ = λ x. slice_index heights x in
    rw (take_more objects i 0 in', map-append h (take i objects) (get_or objects i 0 ∷ []), ← is, so) (sym (greatest-push (map h (take i objects)) (h m)))

greatest-append : (xs ys : List ℕ) → greatest (xs ++ ys) ≡ max (greatest xs) (greatest ys)
greatest-append [] ys = omega arith
greatest-append (x ∷ xs) ys = omega (arith, greatest-append xs ys)

-- the greatest height of the references before a block, and of those in it
pub greatest_part : (heights references block : List ℕ) (i count best height : ℕ) → i ≤ length references → IsPart references i block count → best ≡ greatest (map (λ x. slice_index heights x) (take i references)) → height ≡ greatest (map (λ x. slice_index heights x) (take count block)) → max best height ≡ greatest (map (λ x. slice_index heights x) (take (i + count) references))
greatest_part heights references block i count best height low part is here =
    let h : ℕ → ℕ = λ x. slice_index heights x in
    rw (take_part references block i count part low, map-append h (take i references) (take count block), is, here) (sym (greatest-append (map h (take i references)) (map h (take count block))))

-- ---- what is known of the references
pub walking_first : (refs : ℕ → List ℕ) (marks childless : List Bool) → ((n : ℕ) → IsMarked childless n → IsMarked marks n × (refs n ≡ [])) → IsHeightWalk refs marks (map first_state childless) (map from_bool childless) []
walking_first refs marks childless are = record {
  marked = λ n known. elim (first_is childless n) [
    | inl c ↦ (are n c.0).0
    | inr c ↦ absurd (known c.0)
  ];
  linked = λ k h. absurd (omega arith);
  measured = λ n is. elim (first_is childless n) [
    | inl c ↦
        let empty : length (refs n) ≡ 0 = ap length (are n c.0).1 in
        rw c.2 (above n [] (sym empty) (λ i low. absurd (omega (arith, low, empty))))
    | inr c ↦ absurd (cc (sym c.0 ∙ is))
  ];
  circular = λ n is. absurd (first_other childless n Circular (λ e. cc e) (λ e. cc e) is);
  met = λ n is. absurd (first_other childless n Open (λ e. cc e) (λ e. cc e) is);
}

module _ (refs : ℕ → List ℕ) (marks : List Bool) (states : List State) (heights stack : List ℕ) where
  -- a new object is opened, a reference of the one on top of the stack, if there is one
  pub walking_open : (m : ℕ) → IsHeightWalk refs marks states heights stack → IsMarked marks m → m < length states → slice_index heights m ≡ 0 → ((k : ℕ) → suc k ≡ length stack → Contains (refs (slice_index stack k)) m) → IsHeightWalk refs marks (set states m Open) heights (stack ++ m ∷ [])
  walking_open m w marked within slot among = record {
    marked = λ n h. elim (at_set states m Open New n within) [
      | inl c ↦ rw c.0 marked
      | inr c ↦ w.marked n (rw c.1 at h)
    ];
    linked = λ k h. elim (push_cases stack m 0 (suc k) h) [
      | inl c ↦ let low : k < length stack = omega arith in
          rw (c.1, get_or_append_left stack (m ∷ []) 0 k low) (w.linked k c.0)
      | inr c ↦ let low : k < length stack = omega arith in
          rw (c.1, get_or_append_left stack (m ∷ []) 0 k low) (among k c.0)
    ];
    measured = λ n is. w.measured n (unset states m n Open Founded within (λ e. cc e) is).1;
    circular = λ n is. w.circular n (unset states m n Open Circular within (λ e. cc e) is).1;
    met = λ n is. elim (at_set states m Open New n within) [
      | inl c ↦ rw (c.0, slot) (omega arith, λ k low. absurd (omega (arith, low)))
      | inr c ↦ let old = w.met n (sym c.1 ∙ is) in (old.0, λ k low. stays_known states m Open within (λ e. cc e) _ (old.1 k low))
    ];
  }

  -- the height slot of an open object says only what its scan has met
  pub walking_slot : (n : ℕ) (heights' : List ℕ) → IsHeightWalk refs marks states heights stack → state_at states n ≡ Open → ((m : ℕ) → m ≢ n → get_or heights' m 0 ≡ get_or heights m 0)
      → HasMet (refs n) states (slice_index heights' n) → IsHeightWalk refs marks states heights' stack
  walking_slot n heights' w opened same slot = record {
    marked = w.marked;
    linked = w.linked;
    measured = λ m is. rw (same m (λ e. let o : state_at states m ≡ Open = rw e opened in absurd (cc (sym is ∙ o)))) (w.measured m is);
    circular = w.circular;
    met = λ m is. elim (cases_eq m n) [
      | inl e ↦ rw e slot
      | inr ne ↦ rw (same m ne) (w.met m is)
    ];
  }

module _ (refs : ℕ → List ℕ) (marks : List Bool) (size : ℕ) (states : List State) (heights stack : List ℕ) (n : ℕ) (s : Standing size states heights (stack ++ n ∷ [])) (w : IsHeightWalk refs marks states heights (stack ++ n ∷ [])) where
  pub top_marked : IsMarked marks n
  top_marked = w.marked n (λ e. absurd (cc (sym (top_open size states heights stack n s) ∙ e)))

  -- the object on top is settled
  pub walking_settle : (state : State) (h : ℕ) → state ≢ Open → state ≢ New → (state ≡ Founded → Least refs n h) → (state ≡ Circular → Ends refs n → ⊥) → IsHeightWalk refs marks (set states n state) (set heights n h) stack
  walking_settle state h closed known least circular =
      let within : n < length states = let l = top_within size states heights stack n s in omega (arith, l, s.all_states) in
      let within' : n < length heights = let l = top_within size states heights stack n s in omega (arith, l, s.all_heights) in
      let long = length_push stack n in
      record {
        marked = λ m known. elim (at_set states n state New m within) [
          | inl c ↦ rw c.0 top_marked
          | inr c ↦ w.marked m (rw c.1 at known)
        ];
        linked = λ k h. let low : k < length stack = omega arith in
            rw (get_or_append_left stack (n ∷ []) 0 k low, get_or_append_left stack (n ∷ []) 0 (suc k) h) at (w.linked k (omega arith));
        measured = λ m is. elim (at_set states n state New m within) [
          | inl c ↦ rw (c.0, get_or-set_same heights n h 0 within') (least (sym c.1 ∙ is))
          | inr c ↦ rw (get_or-set_other heights n m h 0 c.0) (w.measured m (sym c.1 ∙ is))
        ];
        circular = λ m is. elim (at_set states n state New m within) [
          | inl c ↦ rw c.0 (circular (sym c.1 ∙ is))
          | inr c ↦ w.circular m (sym c.1 ∙ is)
        ];
        met = λ m is.
            let c = unset states n m state Open within (λ e. closed (sym e)) is in
            let old = w.met m c.1 in
            rw (get_or-set_other heights n m h 0 c.0) (old.0, λ k low. stays_known states n state within known _ (old.1 k low));
      }

  -- a reference to an open object closes a circle, and one to a circular object leads to one
  pub not_founded : (m : ℕ) → Contains (refs n) m → (state_at states m ≡ Open) ⊎ (state_at states m ≡ Circular) → Ends refs n → ⊥
  not_founded m among is ends_n = elim is [
    | inl opened ↦
        let long = length_push stack n in
        let last : slice_index (stack ++ n ∷ []) (length stack) ≡ n = get_or_push stack n 0 (length stack) refl in
        let on = s.on_stack m opened in
        let low = on.1 in
        let is_at : slice_index (stack ++ n ∷ []) on.0 ≡ m = sym (get_or_default (stack ++ n ∷ []) on.0 m 0 on.1) ∙ on.2 in
        no_circle refs (λ j. slice_index (stack ++ n ∷ []) j) on.0 (length stack)
        (λ j from to. w.linked j (omega arith))
        (rw (last, is_at) among)
        n ends_n (length stack) (omega arith) (omega arith) (sym last)
    | inr circular ↦ w.circular m circular (ends_reference refs n m ends_n among)
  ]

  -- all references lead to founded objects
  pub least_height : (best : ℕ) → ((k : ℕ) → k < length (refs n) → state_at states (slice_index (refs n) k) ≡ Founded) → best ≡ greatest (map (λ m. slice_index heights m) (refs n)) → Least refs n (best + 1)
  least_height best founded is =
      let h : ℕ → ℕ = λ m. slice_index heights m in
      let least : Least refs n (suc (greatest (map h (refs n)))) = above n (map h (refs n)) (length-map (refs n) h) (λ i low. rw (get_or-map h (refs n) i 0 0 low) (w.measured _ (founded i low))) in
      rw (add-one, is) least

-- the stack is empty, and every marked object is settled
pub are_least : (refs : ℕ → List ℕ) (marks : List Bool) (size : ℕ) (states : List State) (heights : List ℕ) → Standing size states heights [] → IsHeightWalk refs marks states heights [] → ((n : ℕ) → IsMarked marks n → state_at states n ≢ New) → AreLeastOf refs marks heights
are_least refs marks size states heights s w all = record {
  vouched = λ n h. elim (s.known n h) [
    | inl is ↦ (w.marked n (λ e. absurd (cc (sym is ∙ e))), w.measured n is)
    | inr is ↦ absurd (none_on n (s.on_stack n is))
  ];
  all = λ n marked is. go n is (state_at states n) refl (all n marked);
}
  where
    none_on : (n : ℕ) → Contains {X = ℕ} [] n → ⊥
    none_on n c = let low = c.1 in omega arith

    go : (n : ℕ) → Ends refs n → (state : State) → state_at states n ≡ state → state_at states n ≢ New → 0 < get_or heights n 0
    go n is New e known = absurd (known e)
    go n is Open e known = absurd (none_on n (s.on_stack n e))
    go n is Founded e known = height_over refs n _ (w.measured n e)
    go n is Circular e known = absurd (w.circular n e is)
