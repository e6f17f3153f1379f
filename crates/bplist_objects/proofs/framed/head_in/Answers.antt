use Rattle.bplist_objects.proofs.framed.head_in.Goals as goal

pub returns-clause-rules : goal.returns-clause-rules
returns-clause-rules g c = λ honest. (rw c.frame-frame.ensures.frame at c.head_at.ensures.rules) honest (c.frame-frame.ensures.framed.framed honest)
