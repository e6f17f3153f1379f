use Rattle.bplist_objects.specs.Reach.{top}
use Rattle.bplint_engine.proofs.LintAnswers.{line_says, lint_refused}
use Rattle.bplint_engine.proofs.lint.lint_output.Goals as goal

pub returns-in-Ok-clause-exact : goal.returns-in-Ok-clause-exact
returns-in-Ok-clause-exact g c = λ honest.
    let yes = (c.in-Ok.ensures.exact honest).0 in
    let (content, spells, _) = yes.least.least _ top in
    let made = (rw c.in-Ok.ensures.handed at c.yes_output-made.ensures.exact) honest content spells yes.valid.top in
    line_says _ _ _ content spells c.yes_output-made.result yes.valid.frame yes made

pub returns-in-Err-clause-exact : goal.returns-in-Err-clause-exact
returns-in-Err-clause-exact g c = λ honest. rw c.from.ensures (lint_refused _ c.in-Err.refusal (c.in-Err.ensures.exact honest))
