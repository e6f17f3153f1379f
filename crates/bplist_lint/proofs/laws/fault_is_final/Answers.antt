use Rattle.bplist_lint.proofs.LintAnswers.{fault_not_valid, circle_not_valid}
use Rattle.bplist_lint.proofs.laws.fault_is_final.Goals as goal

pub returns-clause-fault : goal.returns-clause-fault
returns-clause-fault c = fault_not_valid

pub returns-clause-circle : goal.returns-clause-circle
returns-clause-circle c = circle_not_valid
