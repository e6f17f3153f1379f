use Rattle.bplist_lint.proofs.ValueOrFault.{ends_or_circle}
use Rattle.bplist_lint.proofs.OneCircle.{circle_not_founded}
use Rattle.bplist_lint.proofs.laws.circle_iff_not_founded.Goals as goal

pub returns-clause-either : goal.returns-clause-either
returns-clause-either c = ends_or_circle

pub returns-clause-never : goal.returns-clause-never
returns-clause-never c = circle_not_founded
