use Rattle.bplist_cert.proofs.VouchedObjects.{object_holds, file_holds}
use Rattle.bplist_cert.proofs.laws.vouched_values.Goals as goal

pub returns-clause-object : goal.returns-clause-object
returns-clause-object c = object_holds

pub returns-clause-file : goal.returns-clause-file
returns-clause-file c = file_holds
