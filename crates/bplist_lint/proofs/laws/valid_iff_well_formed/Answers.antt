use Rattle.bplist_lint.proofs.LintAnswers.{valid_iff}
use Rattle.bplist_lint.proofs.laws.valid_iff_well_formed.Goals as goal

pub returns : goal.returns
returns c = valid_iff
