use Rattle.bplist_cert.proofs.RepeatedKeys.{repeated_unlisted}
use Rattle.bplist_cert.proofs.laws.repeated_key_has_no_list.Goals as goal

pub returns : goal.returns
returns c = repeated_unlisted
