use Rattle.bplist_objects.proofs.FirstFaults.{no_shape}
use Rattle.bplist_objects.proofs.HeadTies.{shape_tie}
use Rattle.bplist_lint.proofs.graph.shape_there.Goals as goal

pub returns-in-Ok-clause-shape : goal.returns-in-Ok-clause-shape
returns-in-Ok-clause-shape g c = λ honest.
    (shape_tie _ _ _ (c.frame-frame.ensures.framed.framed honest) c.requires c.in-Ok.head).0 (c.in-Ok.ensures.rules honest)

pub returns-in-Err-Fault-clause-shape : goal.returns-in-Err-Fault-clause-shape
returns-in-Err-Fault-clause-shape g c = λ honest h. no_shape _ _ _ _ h (rw c.in-Err-Fault.field-0-is at (c.in-Err-Fault.ensures.rules honest))
