-- What C is given of members. Source: profile.
use Rattle.std.specs.Prelude.{◌≡◌, ℕ, ◌+◌, ◌%◌, ◌^◌, ◌<◌, ◌≤◌, List, length, slice_get, slice_index, Result, Ok, Err}
use Rattle.bplist_objects.specs.declared.frame.Frame.{Frame}
use Rattle.bplist_objects.specs.declared.head.Head.{Head}
use Rattle.bplist_objects.specs.Heads.{Content}
use Rattle.bplist_objects.specs.Scan.{ref}
use Rattle.bplist_cursor.specs.Members.{IsNumberOf, member_reference}
use Rattle.bplist_c.specs.declared.status.Status.{Status}

-- these are the references of the members from one on, in 32 bits, as the bytes at the head spell them
abbrev pub AreSpelled : List ℕ → Frame → Head → ℕ → List ℕ → Type 0
AreSpelled f F head from objects = (k number : ℕ) → k < length objects → IsNumberOf head.kind head.count (from + k) number
    → slice_index objects k ≡ ref f F head number % 2 ^ 32

-- the objects of the members from one on, as many as there are and as fit
abbrev pub MembersSay : ℕ → ℕ → Content → Result (List ℕ) Status → Type 0
MembersSay from room content (Ok objects) = (length objects ≤ room)
    × ((k : ℕ) → k < room → slice_get objects k ≡ member_reference content (from + k))
MembersSay from room content (Err why) = ⊥
