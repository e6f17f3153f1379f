use Rattle.bplist_lint.proofs.LintAnswers.{formed_iff}
use Rattle.bplist_lint.proofs.laws.well_formed_iff_kept.Goals as goal

pub returns : goal.returns
returns c = formed_iff
