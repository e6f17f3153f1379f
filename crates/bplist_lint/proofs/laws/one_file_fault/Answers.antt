use Rattle.bplist_lint.proofs.FirstFaults.{one_file_fault, one_file_circle, fault_or_circle}
use Rattle.bplist_lint.proofs.laws.one_file_fault.Goals as goal

pub returns-clause-fault : goal.returns-clause-fault
returns-clause-fault c = one_file_fault

pub returns-clause-circle : goal.returns-clause-circle
returns-clause-circle c = one_file_circle

pub returns-clause-either : goal.returns-clause-either
returns-clause-either c = fault_or_circle
