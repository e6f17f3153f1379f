-- The search for the reached objects: places by numbers, marks, and what is known about the references looked at.
-- Source: profile.
use Rattle.std.specs.Prelude.{◌≡◌, ◌⊎◌, ℕ, ◌+◌, ◌*◌, ◌/◌, ◌%◌, ◌<◌, Bool, All, List, length, slice_index, vec_len, Contains}
use Rattle.bplist_objects.specs.declared.frame.Frame.{Frame}
use Rattle.bplist_objects.specs.Numbers.{num_at}
use Rattle.bplist_objects.specs.Reach.{Reach}
use Rattle.bplist_objects.specs.Spelled.{refs_at}
use Rattle.bplist_keys.specs.Marks.{IsMarked}
use Rattle.bplist_lint.specs.BitSets.{IsIn}
use Rattle.bplist_lint.specs.declared.reach.ReachSearch.{ReachSearch}

-- the references of an object are marked
abbrev pub HasMarks : List Bool → List ℕ → Type 0
HasMarks marks references = (i : ℕ) → i < length references → IsMarked marks (slice_index references i)

-- ---- places by numbers
-- the number of references that fit one after the other before the table
abbrev pub row_length : Frame → ℕ
row_length F = F.table / F.ref_size + 1

-- the number of a place; references one after the other have consecutive numbers
abbrev pub place_index : Frame → ℕ → ℕ
place_index F place = place % F.ref_size * row_length F + place / F.ref_size

-- the number of all such numbers
abbrev pub index_count : Frame → ℕ
index_count F = row_length F * F.ref_size

-- the reference at the place with this number
abbrev pub reference_at : List ℕ → Frame → ℕ → ℕ
reference_at f F number = num_at f (number % row_length F * F.ref_size + number / row_length F) F.ref_size

-- each place in this set has the number of an object
abbrev pub AreGood : List ℕ → Frame → List ℕ → Type 0
AreGood f F words = (k : ℕ) → IsIn words k → reference_at f F k < F.objects

-- the object that each place in this set names is marked
abbrev pub AreFollowed : List ℕ → Frame → List ℕ → List Bool → Type 0
AreFollowed f F words marks = (k : ℕ) → IsIn words k → IsMarked marks (reference_at f F k)

-- ---- the search
-- whatever the source gives: each object has a mark, the stack has objects only, and the sets are for all places
pub record IsReady (F : Frame) (search : ReachSearch) : Type 0 where
  pub all_marks : vec_len search.marks ≡ F.objects
  pub stack_in : All (λ m. m < F.objects) search.stack.items
  pub good_size : search.good.size ≡ index_count F
  pub followed_size : search.followed.size ≡ index_count F

-- what is marked now was marked before, or is one of these references and on the stack; nothing else was added to the
-- stack
pub record Looked (references : List ℕ) (marks : List Bool) (stack : List ℕ) (marks' : List Bool) (stack' : List ℕ) : Type 0 where
  pub keeps_marks : (m : ℕ) → IsMarked marks m → IsMarked marks' m
  pub keeps_stack : (m : ℕ) → Contains stack m → Contains stack' m
  pub fresh : (m : ℕ) → IsMarked marks' m → IsMarked marks m ⊎ (Contains references m × Contains stack' m)
  pub waiting : (m : ℕ) → Contains stack' m → Contains stack m ⊎ IsMarked marks' m

module _ (f : List ℕ) (F : Frame) where
  -- the marked objects are reached; each is on the stack, or its references are marked
  pub record IsSearching (stack : List ℕ) (marks : List Bool) (good followed : List ℕ) : Type 0 where
    pub begun : IsMarked marks F.top.0
    pub sound : (m : ℕ) → IsMarked marks m → Reach f F m
    pub on_stack : (m : ℕ) → Contains stack m → IsMarked marks m
    pub closed : (m : ℕ) → IsMarked marks m → Contains stack m ⊎ HasMarks marks (refs_at f F m)
    pub known_good : AreGood f F good
    pub known_followed : AreFollowed f F followed marks

  -- the marked objects of this search, with this stack, are reached
  abbrev pub Searching : List ℕ → ReachSearch → Type 0
  Searching stack search = IsSearching stack search.marks.items search.good.words.items search.followed.words.items
