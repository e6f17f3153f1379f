-- Consecutive numbers of one size, and the first of them that is too large. Source: profile.
use Rattle.std.specs.Prelude.{◌≡◌, ℕ, ◌+◌, ◌*◌, ◌<◌, List, length, slice_index, slice_index_or}
use Rattle.bplist_objects.specs.declared.frame.Frame.{Frame}
use Rattle.bplist_objects.specs.declared.head.Head.{Head}
use Rattle.bplist_objects.specs.Numbers.{num_at}
use Rattle.bplist_objects.specs.Claims.{FailsAt}

-- number k of consecutive numbers of one size
abbrev pub nth_number : List ℕ → ℕ → ℕ → ℕ → ℕ
nth_number f place size k = num_at f (place + k * size) size

-- these are consecutive numbers of one size
abbrev pub AreNumbers : List ℕ → ℕ → ℕ → List ℕ → Type 0
AreNumbers f place size xs = (k : ℕ) → k < length xs → slice_index xs k ≡ nth_number f place size k

-- these values mean consecutive numbers of one size, cut to the type of the values
abbrev pub MeanNumbers : {T : Type 0} → (T → ℕ) → (ℕ → ℕ) → List ℕ → ℕ → ℕ → List T → Type 0
MeanNumbers means cut f place size xs = (k : ℕ) (d : _) → k < length xs → means (slice_index_or xs k d) ≡ cut (nth_number f place size k)

-- the first `count` of these numbers are below a bound
abbrev pub AreBelow : List ℕ → ℕ → ℕ → ℕ → ℕ → Type 0
AreBelow f place size count bound = (k : ℕ) → k < count → nth_number f place size k < bound

-- number i is the first that is not below the bound
abbrev pub IsFirstNotBelow : List ℕ → ℕ → ℕ → ℕ → ℕ → ℕ → Type 0
IsFirstNotBelow f place size count bound i =
    FailsAt (λ many. AreBelow f place size many bound) count i

-- reference i of an object with this head
abbrev pub ref : List ℕ → Frame → Head → ℕ → ℕ
ref f F head i = nth_number f head.body F.ref_size i
