use Rattle.bplist_cert.proofs.VouchedObjects.{references_lower}
use Rattle.bplist_cert.proofs.laws.vouched_references.Goals as goal

pub returns : goal.returns
returns c = references_lower
