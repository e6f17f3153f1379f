use Rattle.bplist_lint.proofs.LintAnswers.{least_lowest}
use Rattle.bplist_lint.proofs.laws.least_is_least.Goals as goal

pub returns : goal.returns
returns c = least_lowest
