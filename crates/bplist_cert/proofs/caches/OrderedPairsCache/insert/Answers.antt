use Rattle.std.proofs.Common.{◌%◌, set, sym, subst, arith}
use Rattle.bplist_cert.specs.KeyPairs.{ArePairs}
use Rattle.bplist_cert.proofs.KeyPairs.{pairs_more}
use Rattle.bplist_cert.proofs.caches.OrderedPairsCache.insert.Goals as goal

pub returns : goal.returns
returns c = λ f F known asc.
    let slot = c.pair_of-pair.result % 2039 in (
      subst (λ p. ArePairs f F (set c.args.self.now.slots slot p)) (sym c.pair_of-pair.ensures)
          (pairs_more f F c.args.self.now.slots slot c.args.a c.args.b (omega arith) c.ranges.b.fits known.0 asc),
      known.1,
      known.2,
    )
