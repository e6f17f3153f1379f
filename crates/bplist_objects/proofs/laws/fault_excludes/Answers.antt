use Rattle.bplist_objects.proofs.FirstFaults.{no_frame, no_shape, no_content}
use Rattle.bplist_objects.proofs.laws.fault_excludes.Goals as goal

pub returns-clause-frame : goal.returns-clause-frame
returns-clause-frame c = no_frame

pub returns-clause-shape : goal.returns-clause-shape
returns-clause-shape c = no_shape

pub returns-clause-content : goal.returns-clause-content
returns-clause-content c = λ f F frame n lt. no_content f F n frame lt
