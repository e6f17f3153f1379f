-- The states, heights and stack of the walk that finds the least heights, and what is true of them throughout.
-- Source: profile.
use Rattle.std.specs.Prelude.{◌≡◌, ◌≢◌, ◌⊎◌, ℕ, suc, ◌+◌, ◌-◌, ◌*◌, ◌<◌, ◌≤◌, Bool, true, false, cond, List, [], length, map, slice_index_or, slice_index, sum_by, count_by, vec_len, Contains, ⊤}
use Rattle.std.specs.List.{range_with_len}
use Rattle.bplist_lint.specs.Graph.{Graph, IsWhole, Ends, Least, greatest}
use Rattle.bplist_keys.specs.Marks.{IsMarked}
use Rattle.bplist_lint.specs.ReachSearch.{HasMarks}
use Rattle.bplist_lint.specs.ReachWalk.{AreApart}
use Rattle.bplist_lint.specs.declared.heights.HeightWalk.{HeightWalk}
use Rattle.bplist_lint.specs.declared.heights.State.{State}
use Rattle.bplist_lint.specs.declared.heights.State.TheVariants.{New, Open, Founded, Circular}
use Rattle.bplist_lint.specs.declared.heights.ScanResult.{ScanResult}
use Rattle.bplist_lint.specs.declared.heights.ScanResult.TheVariants as looks

-- the state of object n
abbrev pub state_at : List State → ℕ → State
state_at states n = slice_index_or states n New

-- the object is known to be founded
abbrev pub is_founded : State → Bool
is_founded Founded = true
is_founded _ = false

-- the state of an object before the walk: founded if it is known to have no references
abbrev pub first_state : Bool → State
first_state true = Founded
first_state false = New

-- states, heights and stack agree, whatever the references are
pub record Standing (size : ℕ) (states : List State) (heights stack : List ℕ) : Type 0 where
  pub all_states : length states ≡ size
  pub all_heights : length heights ≡ size
  pub are_open : (k : ℕ) → k < length stack → state_at states (slice_index stack k) ≡ Open
  pub apart : AreApart stack
  pub on_stack : (n : ℕ) → state_at states n ≡ Open → Contains stack n
  pub low : (n : ℕ) → state_at states n ≡ Founded → slice_index heights n ≤ count_by is_founded states
  pub known : (n : ℕ) → 0 < slice_index heights n → (state_at states n ≡ Founded) ⊎ (state_at states n ≡ Open)

-- no object is open: the walk is between two searches
pub record Rests (size : ℕ) (walk : HeightWalk) : Type 0 where
  pub empty : vec_len walk.stack ≡ 0
  pub standing : Standing size walk.states.items walk.heights.items []

-- no object lost its state, and object n has one
pub record Settles (n : ℕ) (before after : HeightWalk) : Type 0 where
  pub sees : state_at after.states.items n ≢ New
  pub keeps : (m : ℕ) → state_at before.states.items m ≢ New → state_at after.states.items m ≢ New

-- the scan of an object with this height slot has met no object of which nothing is known still
abbrev pub HasMet : List ℕ → List State → ℕ → Type 0
HasMet references states slot =
    (slot ≤ length references) × ((k : ℕ) → k < slot → state_at states (slice_index references k) ≢ New)

-- what states, heights and stack say about the references
pub record IsHeightWalk (refs : ℕ → List ℕ) (marks : List Bool) (states : List State) (heights stack : List ℕ) : Type 0 where
  pub marked : (n : ℕ) → state_at states n ≢ New → IsMarked marks n
  pub linked : (k : ℕ) → suc k < length stack → Contains (refs (slice_index stack k)) (slice_index stack (suc k))
  pub measured : (n : ℕ) → state_at states n ≡ Founded → Least refs n (slice_index heights n)
  pub circular : (n : ℕ) → state_at states n ≡ Circular → Ends refs n → ⊥
  pub met : (n : ℕ) → state_at states n ≡ Open → HasMet (refs n) states (slice_index heights n)

-- what a scan finds, whatever the references are: an object about which nothing is known, or a height that is at most
-- the greatest of founded objects
abbrev pub Finds : ℕ → List State → List ℕ → ScanResult → Type 0
Finds size states heights (looks.New i m) = (m < size) × (state_at states m ≡ New)
Finds size states heights looks.Circular = ⊤
Finds size states heights (looks.Founded best) =
    (bound : ℕ) → ((n : ℕ) → state_at states n ≡ Founded → slice_index heights n ≤ bound) → best ≤ bound

-- what a scan shows about the references from number `from` on; if it began at 0, the height is the greatest of all
abbrev pub Shows : List ℕ → List State → List ℕ → ℕ → ScanResult → Type 0
Shows references states heights from (looks.New i m) = (i < length references) × (m ≡ slice_index references i)
Shows references states heights from looks.Circular =
    (m : ℕ) × Contains references m × ((state_at states m ≡ Open) ⊎ (state_at states m ≡ Circular))
Shows references states heights from (looks.Founded best) = from ≡ 0
    → ((k : ℕ) → k < length references → state_at states (slice_index references k) ≡ Founded)
    × (best ≡ greatest (map (λ m. slice_index heights m) references))

-- what a scan of references from number `from` on has passed: founded objects only, and all that come before a new one
abbrev pub Passes : List ℕ → List State → ℕ → ScanResult → Type 0
Passes references states from (looks.New i m) =
    (from ≤ i) × ((k : ℕ) → from ≤ k → k < i → state_at states (slice_index references k) ≡ Founded)
Passes references states from looks.Circular = ⊤
Passes references states from (looks.Founded best) =
    (k : ℕ) → from ≤ k → k < length references → state_at states (slice_index references k) ≡ Founded

-- how many references are before the one at which the scan of an object with this height slot resumes
abbrev pub resumed : ℕ → ℕ
resumed slot = slot - 1

-- a resumed scan that finds a new object has met all before that
abbrev pub GoesOn : List ℕ → List State → ℕ → ScanResult → Type 0
GoesOn references states slot (looks.New i m) =
    (slot ≤ i) × ((k : ℕ) → k < i → state_at states (slice_index references k) ≢ New)
GoesOn references states slot _ = ⊤

-- how many bytes a scan asks for that finds this, from number `from` on of `count` references of this width
abbrev pub scan_bytes : ℕ → ℕ → ℕ → ScanResult → ℕ
scan_bytes width from count (looks.New i m) = 460 + (i - from) * (3 + width)
scan_bytes width from count _ = 204 + (count - from) * (3 + width)

-- the same of a scan that resumes, and of the one of all references after it
abbrev pub turn_bytes : ℕ → ℕ → ℕ → ScanResult → ℕ
turn_bytes width slot count (looks.New i m) = 460 + (i - resumed slot) * (3 + width)
turn_bytes width slot count _ = 408 + ((count - resumed slot) * (3 + width) + count * (3 + width))

-- how many bytes the walk may still ask for because of an object with this state, height slot and number of references
abbrev pub left_for : ℕ → State → ℕ → ℕ → ℕ
left_for width New slot count = 868 + (count * (3 + width) + count * (3 + width))
left_for width Open slot count = 408 + ((count - resumed slot) * (3 + width) + count * (3 + width))
left_for width _ slot count = 0

-- and because of all marked objects
abbrev pub left_of : Graph → List Bool → List State → List ℕ → ℕ
left_of graph marks states heights =
    sum_by
    (λ m. cond (slice_index_or marks m false) (left_for graph.width (state_at states m) (slice_index heights m) (length (graph.refs m))) 0)
    (range_with_len 0 graph.size)

-- each marked object has all references that it announces, these are marked, and a height slot can count them
abbrev pub AreClosed : Graph → List Bool → Type 0
AreClosed graph marks =
    (n : ℕ) → IsMarked marks n → IsWhole graph n × HasMarks marks (graph.refs n) × (length (graph.refs n) < 4294967296)

-- what the walk says about the references while no object is open
abbrev pub Walks : (ℕ → List ℕ) → List Bool → HeightWalk → Type 0
Walks refs marks walk = IsHeightWalk refs marks walk.states.items walk.heights.items []

-- the least heights of the objects that are marked and founded, and 0 for all others
pub record AreLeastOf (refs : ℕ → List ℕ) (marks : List Bool) (heights : List ℕ) : Type 0 where
  pub vouched : (n : ℕ) → 0 < slice_index heights n → IsMarked marks n × Least refs n (slice_index heights n)
  pub all : (n : ℕ) → IsMarked marks n → Ends refs n → 0 < slice_index heights n
