-- The value that a file holds. Source: the format comment of CFBinaryPList.c; the bound on the sum of extents is
-- profile.
use Rattle.std.specs.Prelude.{ℕ, List}
use Rattle.bplist_objects.specs.declared.frame.Frame.{Frame}
use Rattle.bplist_objects.specs.Frame.{IsFrame}
use Rattle.bplist_objects.specs.Value.{Value}
use Rattle.bplist_objects.specs.Holds.{Holds}
use Rattle.bplist_objects.specs.Reach.{Reach}
use Rattle.bplist_objects.specs.Extents.{HaveRoom}

-- the file has a frame, its top holds v, and the reachable objects fit before the table
pub record FileHolds (f : List ℕ) (v : Value) : Type 0 where
  pub frame : Frame
  pub is : IsFrame f frame
  pub holds : Holds f frame frame.top.0 v
  pub room : HaveRoom f frame (Reach f frame)
