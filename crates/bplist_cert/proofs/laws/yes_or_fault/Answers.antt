use Rattle.bplist_cert.proofs.DecidedObjects.{yes_or_fault}
use Rattle.bplist_cert.proofs.laws.yes_or_fault.Goals as goal

pub returns : goal.returns
returns c = yes_or_fault
