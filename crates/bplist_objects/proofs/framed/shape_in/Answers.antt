use Rattle.bplist_objects.proofs.HeadAnswers.{shape_exact}
use Rattle.bplist_objects.proofs.framed.shape_in.Goals as goal

pub returns-clause-rules : goal.returns-clause-rules
returns-clause-rules g c = λ honest. (rw c.frame-frame.ensures.frame at c.shape_at.ensures.rules) honest (c.frame-frame.ensures.framed.framed honest)

pub returns-clause-exact : goal.returns-clause-exact
returns-clause-exact g c = λ honest at.
    shape_exact _ _ _ (c.frame-frame.ensures.framed.framed honest) c.requires c.shape_at.result (returns-clause-rules g c honest at)
