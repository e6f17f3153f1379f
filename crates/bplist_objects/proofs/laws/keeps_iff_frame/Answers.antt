use Rattle.bplist_objects.specs.Frame.{trailer}
use Rattle.bplist_objects.proofs.FrameTies.{trailer_is_frame}
use Rattle.bplist_objects.proofs.laws.keeps_iff_frame.Goals as goal

pub returns : goal.returns
returns c = λ f. ((λ kept. (trailer f, trailer_is_frame f kept)), λ h. h.1.kept)
