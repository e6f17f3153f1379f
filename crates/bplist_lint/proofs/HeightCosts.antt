-- What the walk that finds the least heights may ask for.
use Rattle.std.proofs.Common.{◌≡◌, ◌≢◌, ℕ, ◌+◌, ◌-◌, ◌*◌, ◌<◌, ◌≤◌, inl, inr, Bool, true, false, cond, List, length, replicate, set, slice_index, slice_index_or, refl, ap, ◌∙◌, arith}
use Rattle.std.proofs.Math.Nat.{add-mul, mul-add, mul-le-mul_right}
use Rattle.std.proofs.lemmas.Bool.{cases_Bool}
use Rattle.std.proofs.lemmas.List.{get_or-set_same, get_or-set_other}
use Rattle.bplist_keys.specs.Marks.{IsMarked}
use Rattle.bplist_lint.specs.Graph.{Graph}
use Rattle.bplist_lint.specs.HeightWalks.{state_at, resumed, left_for, left_of}
use Rattle.bplist_lint.specs.Trail.{trail_bytes}
use Rattle.bplist_lint.specs.declared.heights.State.{State}
use Rattle.bplist_lint.specs.declared.heights.State.TheVariants.{New, Open}
use Rattle.bplist_lint.proofs.ListWrites.{unwritten}
use Rattle.bplist_lint.proofs.MarkSteps.{fresh-set}
use Rattle.bplist_lint.proofs.RangeSums.{sum_less, sum_most, sum_none, sum_term}

-- ---- a scan
-- one more block, of which the next may be longer
pub scan_more : (start before after from done count portion next width : ℕ) → before + 192 ≤ start + 168 + 6 * portion + (done - from) * (3 + width)
    → after ≤ before + 36 + count * width → from ≤ done → portion ≤ next → 36 + 6 * portion ≤ 6 * next + 3 * portion
    → (after + 192 ≤ start + 204 + 6 * next + (done + count - from) * (3 + width))
    × (count ≡ portion → after + 192 ≤ start + 168 + 6 * next + (done + count - from) * (3 + width))
scan_more start before after from done count portion next width so_far block on longer grows =
    let e : done + count - from ≡ (done - from) + count = omega (arith, on) in
    let more : (done + count - from) * (3 + width) ≡ (done - from) * (3 + width) + (count * 3 + count * width) = ap (λ n. n * (3 + width)) e ∙ add-mul (done - from) count (3 + width) ∙ ap (λ n. (done - from) * (3 + width) + n) (mul-add count 3 width) in
    (omega (arith, so_far, block, more, longer), λ full. omega (arith, so_far, block, more, grows, full))

-- the last block
pub scan_block : (start before after from done count portion width : ℕ) → before + 192 ≤ start + 168 + 6 * portion + (done - from) * (3 + width)
    → after ≤ before + 36 + count * width → from ≤ done → portion ≤ 32 → after ≤ start + 204 + (done + count - from) * (3 + width)
scan_block start before after from done count portion width so_far block on few =
    let e : done + count - from ≡ (done - from) + count = omega (arith, on) in
    let more : (done + count - from) * (3 + width) ≡ (done - from) * (3 + width) + (count * 3 + count * width) = ap (λ n. n * (3 + width)) e ∙ add-mul (done - from) count (3 + width) ∙ ap (λ n. (done - from) * (3 + width) + n) (mul-add count 3 width) in
    omega (arith, so_far, block, more, few)

-- no more than for all references
pub scan_within : (start after from done count most width : ℕ) → after ≤ start + most + (done - from) * (3 + width) → done ≤ count → most ≤ 496
    → after ≤ start + (most + (count - from) * (3 + width))
scan_within start after from done count most width asked few low =
    let all : (done - from) * (3 + width) ≤ (count - from) * (3 + width) = mul-le-mul_right (3 + width) (omega (arith, few)) in
    omega (arith, asked, all)

-- one more block of up to 32 references, from the first on
pub block_more : (start before after done count width : ℕ) → before ≤ start + done * (3 + width) → after ≤ before + 36 + count * width
    → (after ≤ start + 36 + (done + count) * (3 + width)) × (count ≡ 32 → after ≤ start + (done + count) * (3 + width))
block_more start before after done count width so_far block =
    let more : (done + count) * (3 + width) ≡ done * (3 + width) + (count * 3 + count * width) = add-mul done count (3 + width) ∙ ap (λ n. done * (3 + width) + n) (mul-add count 3 width) in
    (omega (arith, so_far, block, more), λ full. omega (arith, so_far, block, more, full))

pub blocks_within : (start after done count most width : ℕ) → after ≤ start + most + done * (3 + width) → done ≤ count → most ≤ 292
    → after ≤ start + (292 + count * (3 + width))
blocks_within start after done count most width asked few low =
    let all : done * (3 + width) ≤ count * (3 + width) = mul-le-mul_right (3 + width) few in
    omega (arith, asked, all, low)

-- ---- the walk
module _ (graph : Graph) (marks : List Bool) where
  -- what is left because of a marked object, and because of any
  abbrev own : State → ℕ → ℕ → ℕ
  own state slot m = left_for graph.width state slot (length (graph.refs m))

  abbrev term : List State → List ℕ → ℕ → ℕ
  term states heights m = cond (slice_index_or marks m false) (own (state_at states m) (slice_index heights m) m) 0

  marked_term : (states : List State) (heights : List ℕ) (m : ℕ) (state : State) (slot : ℕ) → IsMarked marks m → state_at states m ≡ state → slice_index heights m ≡ slot
      → term states heights m ≡ own state slot m
  marked_term states heights m state slot is there here =
      ap (λ b. cond b (own (state_at states m) (slice_index heights m) m) 0) is ∙ ap (λ s. own s (slice_index heights m) m) there ∙ ap (λ h. own state h m) here

  -- one object gets another state or height slot
  left_less : (states states' : List State) (heights heights' : List ℕ) (m d : ℕ) → m < graph.size → term states' heights' m + d ≤ term states heights m
      → ((k : ℕ) → k ≢ m → state_at states' k ≡ state_at states k) → ((k : ℕ) → k ≢ m → slice_index heights' k ≡ slice_index heights k)
      → left_of graph marks states' heights' + d ≤ left_of graph marks states heights
  left_less states states' heights heights' m d low less same_state same_height =
      sum_less (term states heights) (term states' heights') m d graph.size low less (λ k ne.
      let same : term states' heights' k ≡ term states heights k = ap (λ s. cond (slice_index_or marks k false) (own s (slice_index heights' k) k) 0) (same_state k ne)
      ∙ ap (λ h. cond (slice_index_or marks k false) (own (state_at states k) h k) 0) (same_height k ne) in
      omega (arith, same))

  -- an object that is open
  pub left_open : (states : List State) (heights : List ℕ) (m : ℕ) → m < graph.size → IsMarked marks m → state_at states m ≡ Open
      → own Open (slice_index heights m) m ≤ left_of graph marks states heights
  left_open states heights m low is opened =
      let part : term states heights m ≤ left_of graph marks states heights = sum_term (term states heights) m graph.size low in
      omega (arith, part, marked_term states heights m Open (slice_index heights m) is opened refl)

  -- an object is settled
  pub left_settle : (states : List State) (heights : List ℕ) (m h : ℕ) (state : State) → m < graph.size → length states ≡ graph.size → IsMarked marks m → state_at states m ≡ Open
      → ((slot count : ℕ) → left_for graph.width state slot count ≡ 0)
      → left_of graph marks (set states m state) (set heights m h) + own Open (slice_index heights m) m ≤ left_of graph marks states heights
  left_settle states heights m h state low all is opened nothing =
      let slot = slice_index (set heights m h) m in
      let was = marked_term states heights m Open (slice_index heights m) is opened refl in
      let now = marked_term (set states m state) (set heights m h) m state slot is (get_or-set_same states m state New (omega (arith, low, all))) refl in
      left_less states (set states m state) heights (set heights m h) m (own Open (slice_index heights m) m) low
      (omega (arith, was, now, nothing slot (length (graph.refs m))))
      (λ k ne. get_or-set_other states m k state New ne) (λ k ne. get_or-set_other heights m k h 0 ne)

  -- an object is opened
  pub left_opens : (states : List State) (heights : List ℕ) (m : ℕ) → m < graph.size → length states ≡ graph.size → IsMarked marks m → state_at states m ≡ New → slice_index heights m ≡ 0
      → left_of graph marks (set states m Open) heights + 460 ≤ left_of graph marks states heights
  left_opens states heights m low all is new slot =
      let c = length (graph.refs m) in
      let first : (c - resumed 0) * (3 + graph.width) ≡ c * (3 + graph.width) = ap (λ n. n * (3 + graph.width)) (omega arith) in
      let was = marked_term states heights m New 0 is new slot in
      let now = marked_term (set states m Open) heights m Open 0 is (get_or-set_same states m Open New (omega (arith, low, all))) slot in
      left_less states (set states m Open) heights heights m 460 low (omega (arith, was, now, first)) (λ k ne. get_or-set_other states m k Open New ne) (λ k ne. refl)

  -- a scan goes on
  pub left_resumes : (states : List State) (heights heights' : List ℕ) (m i : ℕ) → m < graph.size → IsMarked marks m → state_at states m ≡ Open → i < length (graph.refs m) → slice_index heights m ≤ i → slice_index heights' m ≡ i + 1
      → ((k : ℕ) → k ≢ m → slice_index heights' k ≡ slice_index heights k)
      → left_of graph marks states heights' + (i - resumed (slice_index heights m)) * (3 + graph.width) ≤ left_of graph marks states heights
  left_resumes states heights heights' m i low is opened inside on slot others =
      let s = resumed (slice_index heights m) in
      let c = length (graph.refs m) in
      let rate = 3 + graph.width in
      let e : c - s ≡ (c - i) + (i - s) = omega (arith, inside, on) in
      let both : (c - s) * rate ≡ (c - i) * rate + (i - s) * rate = ap (λ n. n * rate) e ∙ add-mul (c - i) (i - s) rate in
      let here : (c - resumed (i + 1)) * rate ≡ (c - i) * rate = ap (λ n. n * rate) (omega arith) in
      let was = marked_term states heights m Open (slice_index heights m) is opened refl in
      let now = marked_term states heights' m Open (i + 1) is opened slot in
      left_less states states heights heights' m ((i - s) * rate) low (omega (arith, was, now, both, here)) (λ k ne. refl) others

-- ---- the circle
module _ (graph : Graph) where
  abbrev step : List Bool → ℕ → ℕ
  step met m = cond (slice_index_or met m false) (292 + length (graph.refs m) * (3 + graph.width)) 0

  step_is : (met : List Bool) (m : ℕ) (b : Bool) → slice_index_or met m false ≡ b → step met m ≡ cond b (292 + length (graph.refs m) * (3 + graph.width)) 0
  step_is met m b = ap (λ c. cond c (292 + length (graph.refs m) * (3 + graph.width)) 0)

  -- one more object is met
  pub trail_on : (met : List Bool) (x : ℕ) → x < graph.size → length met ≡ graph.size → slice_index_or met x false ≡ false
      → trail_bytes graph met + (292 + length (graph.refs x) * (3 + graph.width)) ≤ trail_bytes graph (set met x true)
  trail_on met x low all new =
      let now = step_is (set met x true) x true (get_or-set_same met x true false (omega (arith, low, all))) in
      sum_less (step (set met x true)) (step met) x (292 + length (graph.refs x) * (3 + graph.width)) graph.size low (omega (arith, step_is met x false new, now))
      (λ k ne. omega (arith, step_is (set met x true) k (slice_index_or met k false) (get_or-set_other met x k true false ne)))

  -- what is met is marked
  pub trail_marked : (met marks : List Bool) → ((n : ℕ) → IsMarked met n → IsMarked marks n) → trail_bytes graph met ≤ trail_bytes graph marks
  trail_marked met marks are = sum_most (step marks) (step met) graph.size (λ k _. elim (cases_Bool (slice_index_or met k false)) [
    | inl yes1 ↦ omega (arith, step_is met k true yes1, step_is marks k true (are k yes1))
    | inr no1 ↦ omega (arith, step_is met k false no1)
  ])

  -- one more object is met than so far, which is marked as well
  pub trail_step : (met marks : List Bool) (x start before after : ℕ) → x < graph.size → length met ≡ graph.size → slice_index_or met x false ≡ false → ((n : ℕ) → IsMarked met n → IsMarked marks n) → IsMarked marks x
      → before ≤ start + trail_bytes graph met → after ≤ before + (292 + length (graph.refs x) * (3 + graph.width)) → after ≤ start + trail_bytes graph marks
  trail_step met marks x start before after low all new are is so_far more =
      let few = trail_marked (set met x true) marks (λ n i. elim (fresh-set met x n i) [ inl old ↦ are n old | inr e ↦ rw e is ]) in
      omega (arith, so_far, more, trail_on met x low all new, few)

  -- nothing is met yet
  pub trail_zero : (size : ℕ) → trail_bytes graph (replicate size false) ≡ 0
  trail_zero size = sum_none (step (replicate size false)) graph.size (λ n. step_is (replicate size false) n false (unwritten size n false))
