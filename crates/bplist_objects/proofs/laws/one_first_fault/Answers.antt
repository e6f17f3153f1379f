use Rattle.bplist_objects.proofs.FirstFaults.{one_frame_fault, one_object_fault}
use Rattle.bplist_objects.proofs.laws.one_first_fault.Goals as goal

pub returns-clause-file : goal.returns-clause-file
returns-clause-file c = one_frame_fault

pub returns-clause-object : goal.returns-clause-object
returns-clause-object c = one_object_fault
