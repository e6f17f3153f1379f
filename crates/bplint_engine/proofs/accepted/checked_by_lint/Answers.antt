use Rattle.bplint_engine.proofs.LintAnswers.{lint_refused}
use Rattle.bplint_engine.proofs.accepted.checked_by_lint.Goals as goal

pub returns-in-Err-clause-exact : goal.returns-in-Err-clause-exact
returns-in-Err-clause-exact g c = λ honest. rw c.from.ensures (lint_refused _ c.in-Err.refusal (c.in-Err.ensures.exact honest))
