-- What holds over honest sources, and what a source with a frame means. Source: profile.
use Rattle.std.specs.Prelude.{ℕ, List, [], ◌∷◌, length, get_or, IsTrue}
use Rattle.bplist_octets.specs.Meaning.{Meaning}
use Rattle.bplist_objects.specs.declared.frame.Frame.{Frame}
use Rattle.bplist_objects.specs.Frame.{IsFrame}
use Rattle.bplist_objects.specs.Safe.{IsSafeFrame}

-- if the source is honest and the frame is that of its bytes, P holds of both
abbrev pub HonestlyBy : Meaning → Frame → (List ℕ → Frame → Type 0) → Type 0
HonestlyBy m F P = IsTrue m.honest → IsFrame m.octets F → P m.octets F

-- the frame with these numbers
abbrev pub frame_by : List ℕ → Frame
frame_by (a ∷ b ∷ c ∷ d ∷ e ∷ _) = record { offset_size = a; ref_size = b; objects = c; top = record { 0 = d }; table = e }
frame_by _ = record { offset_size = 0; ref_size = 0; objects = 0; top = record { 0 = 0 }; table = 0 }

-- the frame that a source has
abbrev pub frame_in : Meaning → Frame
frame_in m = frame_by (get_or m.extra 0 [])

-- the meaning of a source that also has this frame, as its five numbers
abbrev pub with_frame : Frame → Meaning → Meaning
with_frame F m = record m { extra = (F.offset_size ∷ F.ref_size ∷ F.objects ∷ F.top.0 ∷ F.table ∷ []) ∷ m.extra }

-- the source can be read with its frame, which is that of its bytes if it is honest
pub record IsFramed (m : Meaning) : Type 0 where
  pub safe : IsSafeFrame (length m.octets) (frame_in m)
  pub framed : IsTrue m.honest → IsFrame m.octets (frame_in m)

-- if the source is honest, P holds of its bytes and its frame
abbrev pub HonestlyIn : Meaning → (List ℕ → Frame → Type 0) → Type 0
HonestlyIn m P = IsTrue m.honest → P m.octets (frame_in m)
