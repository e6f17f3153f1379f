-- The least heights as an equation that a table of heights meets. Source: profile.
use Rattle.std.specs.Prelude.{◌≡◌, ℕ, ◌+◌, List, map, length, slice_index}
use Rattle.bplist_objects.specs.declared.frame.Frame.{Frame}
use Rattle.bplist_objects.specs.Heads.{Content, refs, Spells}
use Rattle.bplist_objects.specs.Reach.{Reach}
use Rattle.bplist_cert.specs.Valid.{IsVouchedBy}
use Rattle.bplist_lint.specs.Graph.{greatest}

-- each reached object without references has height 1; every other has one more than the greatest of theirs
abbrev pub StandLeast : List ℕ → Frame → List ℕ → Type 0
StandLeast f F heights =
    (n : ℕ) → Reach f F n
    → (c : Content) × Spells f F n c × (slice_index heights n ≡ 1 + greatest (map (slice_index heights) (refs c)))

-- each reached object has its least height, and every other object 0
pub record AreLeastHeights (f : List ℕ) (F : Frame) (heights : List ℕ) : Type 0 where
  pub count : length heights ≡ F.objects
  pub least : StandLeast f F heights
  pub only : (n : ℕ) → IsVouchedBy heights n → Reach f F n
