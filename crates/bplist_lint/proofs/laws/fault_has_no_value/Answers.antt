use Rattle.bplist_lint.proofs.LintAnswers.{fault_not_held, circle_not_held}
use Rattle.bplist_lint.proofs.laws.fault_has_no_value.Goals as goal

pub returns-clause-fault : goal.returns-clause-fault
returns-clause-fault c = fault_not_held

pub returns-clause-circle : goal.returns-clause-circle
returns-clause-circle c = circle_not_held
