use Rattle.bplist_objects.proofs.HeadAnswers.{head_exact, content_answered}
use Rattle.bplist_objects.proofs.body.head_of.Goals as goal

pub returns-clause-rules : goal.returns-clause-rules
returns-clause-rules g c = λ honest frame.
    let rules = rw c.in_ok-place.ensures.reads at c.head_at.ensures.rules in
    rules honest frame (c.in_ok-place.ensures.value honest)

pub returns-clause-exact : goal.returns-clause-exact
returns-clause-exact g c = λ honest frame.
    head_exact _ _ _ frame c.requires.within c.head_at.result (returns-clause-rules g c honest frame)

pub returns-clause-spelled : goal.returns-clause-spelled
returns-clause-spelled g c = λ honest frame.
    content_answered _ _ _ frame c.requires.within c.head_at.result (returns-clause-rules g c honest frame)
