use Rattle.bplist_lint.proofs.ValueOrFault.{value_or_fault}
use Rattle.bplist_lint.proofs.laws.value_or_fault.Goals as goal

pub returns : goal.returns
returns c = value_or_fault
