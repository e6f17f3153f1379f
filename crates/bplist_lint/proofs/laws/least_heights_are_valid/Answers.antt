use Rattle.bplist_lint.proofs.LintAnswers.{least_heights_valid, least_heights_one, stand_one}
use Rattle.bplist_lint.proofs.laws.least_heights_are_valid.Goals as goal

pub returns-clause-valid : goal.returns-clause-valid
returns-clause-valid c = least_heights_valid

pub returns-clause-one : goal.returns-clause-one
returns-clause-one c = least_heights_one

pub returns-clause-reached : goal.returns-clause-reached
returns-clause-reached c = stand_one
