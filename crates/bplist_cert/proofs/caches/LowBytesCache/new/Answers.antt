use Rattle.bplist_cert.proofs.LowBytes.{low_none}
use Rattle.bplist_cert.proofs.caches.LowBytesCache.new.Goals as goal

pub returns : goal.returns
returns c = λ f. low_none f 256
