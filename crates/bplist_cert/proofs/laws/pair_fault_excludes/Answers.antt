use Rattle.bplist_cert.proofs.AcceptedCertificates.{fault_refutes}
use Rattle.bplist_cert.proofs.laws.pair_fault_excludes.Goals as goal

pub returns : goal.returns
returns c = fault_refutes
