use Rattle.bplist_cert.proofs.TextKeys.{ordered_differ}
use Rattle.bplist_cert.proofs.laws.ordered_keys_differ.Goals as goal

pub returns : goal.returns
returns c = ordered_differ
