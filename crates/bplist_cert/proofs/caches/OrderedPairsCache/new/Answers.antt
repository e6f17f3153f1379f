use Rattle.std.proofs.Common.{refl}
use Rattle.bplist_cert.proofs.KeyPairs.{pairs_none}
use Rattle.bplist_cert.proofs.caches.OrderedPairsCache.new.Goals as goal

pub returns : goal.returns
returns c = λ f F. (pairs_none f F _ refl, c.new.ensures f, c.new-2.ensures f F)
