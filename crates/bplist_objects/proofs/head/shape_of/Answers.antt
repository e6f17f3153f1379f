use Rattle.bplist_objects.proofs.HeadAnswers.{shape_exact, shape_answered}
use Rattle.bplist_objects.proofs.head.shape_of.Goals as goal

pub returns-clause-rules : goal.returns-clause-rules
returns-clause-rules g c = λ honest frame.
    let rules = rw c.in_ok-place.ensures.reads at c.shape_at.ensures.rules in
    rules honest frame (c.in_ok-place.ensures.value honest)

pub returns-clause-exact : goal.returns-clause-exact
returns-clause-exact g c = λ honest frame.
    shape_exact _ _ _ frame c.requires.within c.shape_at.result (returns-clause-rules g c honest frame)

pub returns-clause-shaped : goal.returns-clause-shaped
returns-clause-shaped g c = λ honest frame.
    shape_answered _ _ _ frame c.requires.within c.shape_at.result (returns-clause-rules g c honest frame)
