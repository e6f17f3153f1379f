-- Objects with references, whatever they are read from: which are reached, which are founded, and their least heights.
-- Source: the reader of CFBinaryPList.c, which refuses circles; heights and circles as lists are profile.
use Rattle.std.specs.Prelude.{◌≡◌, ℕ, suc, ◌+◌, ◌-◌, ◌<◌, min, max, List, [], ◌∷◌, length, slice_index, Contains}
use Rattle.bplist_objects.specs.Claims.{FailsAt}

-- the number of objects, the bytes of a reference, the references of each object in written order, and how many of them
-- it announces; if the graph is read through a borrow, `through` is the ghost name of the borrow
pub record Graph : Type 0 where
  pub through : ℕ
  pub size : ℕ
  pub width : ℕ
  pub refs : ℕ → List ℕ
  pub announced : ℕ → ℕ

-- object n has as many references as it announces
abbrev pub IsWhole : Graph → ℕ → Type 0
IsWhole graph n = graph.announced n ≡ length (graph.refs n)

-- the first `count` of these are numbers of objects
abbrev pub AreObjects : ℕ → ℕ → List ℕ → Type 0
AreObjects size count block = (k : ℕ) → k < count → slice_index block k < size

-- the first `count` numbers of the block are the references from number i on: all that there are, or as many as fit
abbrev pub IsPart : List ℕ → ℕ → List ℕ → ℕ → Type 0
IsPart references i block count =
    (count ≡ min (length block) (length references - i)) × ((k : ℕ) → k < count → slice_index block k ≡ slice_index references (i + k))

-- a reached object is the top, or what a reached object refers to
pub data Reaches (refs : ℕ → List ℕ) (top : ℕ) : ℕ → Type 0 where
  start : Reaches refs top top
  onward : (n m : ℕ) → Reaches refs top n → Contains (refs n) m → Reaches refs top m

-- each object that top reaches has as many references as it announces
abbrev pub AreWhole : Graph → ℕ → Type 0
AreWhole graph top = (n : ℕ) → Reaches graph.refs top n → IsWhole graph n

-- the object is founded: every chain of references from it ends
pub data Ends (refs : ℕ → List ℕ) : ℕ → Type 0 where
  ends : (n : ℕ) → ((m : ℕ) → Contains (refs n) m → Ends refs m) → Ends refs n

-- the greatest of these heights, or 0 if there are none
abbrev pub greatest : List ℕ → ℕ
greatest [] = 0
greatest (h ∷ hs) = max h (greatest hs)

-- the least height of n is one more than the greatest of its references' least heights
pub data Least (refs : ℕ → List ℕ) : ℕ → ℕ → Type 0 where
  above : (n : ℕ) (heights : List ℕ) → length heights ≡ length (refs n) → ((i : ℕ) → i < length (refs n) → Least refs (slice_index (refs n) i) (slice_index heights i)) → Least refs n (suc (greatest heights))

-- m is the first of these numbers for which P does not hold
abbrev pub IsFirstWithout : (ℕ → Type 0) → List ℕ → ℕ → Type 0
IsFirstWithout P ns m =
    (i : ℕ) × FailsAt (λ many. (k : ℕ) → k < many → P (slice_index ns k)) (length ns) i × (slice_index ns i ≡ m)

-- m is the first reference of n that is not founded
abbrev pub IsFirstUnfoundedIn : (ℕ → List ℕ) → ℕ → ℕ → Type 0
IsFirstUnfoundedIn refs n m = IsFirstWithout (Ends refs) (refs n) m

-- the circle that following `next` from top leads to: from the first object met twice up to its second meeting
pub record IsCircleBy (next : ℕ → ℕ → Type 0) (top : ℕ) (circle : List ℕ) : Type 0 where
  pub x : ℕ → ℕ
  pub i : ℕ
  pub begins : x 0 ≡ top
  pub leads : (k : ℕ) → k < i + length circle → next (x k) (x (suc k))
  pub some : 0 < length circle
  pub meets : x i ≡ x (i + length circle)
  pub least : (k l : ℕ) → k < l → l < i + length circle → x k ≡ x l → ⊥
  pub listed : (k : ℕ) → k < length circle → slice_index circle k ≡ x (i + k)

-- the circle that first unfounded references lead to
abbrev pub IsCircleOf : (ℕ → List ℕ) → ℕ → List ℕ → Type 0
IsCircleOf refs top circle = IsCircleBy (IsFirstUnfoundedIn refs) top circle

-- the least heights of the objects that are reached and founded, and 0 for all others
pub record AreLeast (refs : ℕ → List ℕ) (top : ℕ) (heights : List ℕ) : Type 0 where
  pub vouched : (n : ℕ) → 0 < slice_index heights n → Reaches refs top n × Least refs n (slice_index heights n)
  pub all : (n : ℕ) → Reaches refs top n → Ends refs n → 0 < slice_index heights n
