use Rattle.std.proofs.Common.{inl, inr}
use Rattle.bplist_objects.specs.Frame.{trailer}
use Rattle.bplist_objects.specs.ObjectRules.{object_rules}
use Rattle.bplist_objects.proofs.FrameTies.{trailer_is_frame}
use Rattle.bplist_objects.proofs.HeadTies.{keeps_iff}
use Rattle.bplist_objects.proofs.KeptOrBroken.{frame_kept_or_fault, object_kept_or_fault}
use Rattle.bplist_objects.proofs.laws.kept_or_fault.Goals as goal

pub returns-clause-file : goal.returns-clause-file
returns-clause-file c = λ f. elim (frame_kept_or_fault f) [
  | inl kept ↦ inl (trailer f, trailer_is_frame f kept)
  | inr fault ↦ inr fault
]

pub returns-clause-object : goal.returns-clause-object
returns-clause-object c = λ f F frame n lt. elim (object_kept_or_fault f F n object_rules) [
  | inl kept ↦ inl ((keeps_iff f F n frame lt).0 kept)
  | inr fault ↦ inr fault
]
