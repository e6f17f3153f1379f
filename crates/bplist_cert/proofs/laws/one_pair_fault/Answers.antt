use Rattle.bplist_cert.proofs.OneFault.{one_pair_fault}
use Rattle.bplist_cert.proofs.laws.one_pair_fault.Goals as goal

pub returns : goal.returns
returns c = one_pair_fault
