-- The trail of the walk to the circle. Source: profile.
use Rattle.std.specs.Prelude.{◌≡◌, ◌≢◌, ℕ, suc, ◌+◌, ◌*◌, ◌<◌, Bool, false, cond, List, [], ◌∷◌, ◌++◌, length, slice_index, slice_index_or, sum_by, Contains}
use Rattle.std.specs.List.{range_with_len}
use Rattle.bplist_objects.specs.declared.frame.ObjectNo.{ObjectNo}
use Rattle.bplist_keys.specs.Marks.{IsMarked}
use Rattle.bplist_lint.specs.Graph.{Graph, Reaches, Ends, IsFirstUnfoundedIn}

-- the number of an object
abbrev pub number : ObjectNo → ℕ
number n = n.0

-- the object with a number
abbrev pub object : ℕ → ObjectNo
object n = record { 0 = n }

-- the first i of these objects have heights
abbrev pub AllHave : List ℕ → List ℕ → ℕ → Type 0
AllHave heights references i = (k : ℕ) → k < i → 0 < slice_index heights (slice_index references k)

-- the first index of x in the list
pub record IsFirstIndex (trail : List ℕ) (x index : ℕ) : Type 0 where
  pub within : index < length trail
  pub here : slice_index trail index ≡ x
  pub before : (k : ℕ) → k < index → slice_index trail k ≢ x

-- how many bytes the walk asks for because of the marked objects
abbrev pub trail_bytes : Graph → List Bool → ℕ
trail_bytes graph marks =
    sum_by (λ m. cond (slice_index_or marks m false) (292 + length (graph.refs m) * (3 + graph.width)) 0) (range_with_len 0 graph.size)

-- exactly the objects of the trail are marked, and each is on it once
pub record IsTrail (size : ℕ) (met : List Bool) (trail : List ℕ) : Type 0 where
  pub all_met : length met ≡ size
  pub on_trail : (n : ℕ) → IsMarked met n → Contains trail n
  pub marked : (k : ℕ) → k < length trail → IsMarked met (slice_index trail k)
  pub differ : (j k : ℕ) → j < k → k < length trail → slice_index trail j ≢ slice_index trail k

-- the trail leads from top to x, by first references that are not founded
pub record Leading (refs : ℕ → List ℕ) (top : ℕ) (trail : List ℕ) (x : ℕ) : Type 0 where
  pub begins : slice_index (trail ++ x ∷ []) 0 ≡ top
  pub next : (k : ℕ) → k < length trail
      → IsFirstUnfoundedIn refs (slice_index (trail ++ x ∷ []) k) (slice_index (trail ++ x ∷ []) (suc k))
  pub reached : Reaches refs top x
  pub not_founded : Ends refs x → ⊥
