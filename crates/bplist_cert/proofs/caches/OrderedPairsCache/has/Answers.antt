use Rattle.std.proofs.Common.{◌%◌, sym, ◌∙◌, arith}
use Rattle.bplist_keys.proofs.Groups.{less as lt_less}
use Rattle.bplist_cert.proofs.KeyPairs.{ranked_units}
use Rattle.bplist_cert.proofs.caches.OrderedPairsCache.has.Goals as goal

pub returns-then-self-pair : goal.returns-then-self-pair
returns-then-self-pair c = λ f F known good.
    known.0 (c.pair_of-pair.result % 2039) c.args.a c.args.b c.ranges.b.fits (omega arith) (omega (arith, c.pair_of-pair.ensures))

pub returns-in-Some : goal.returns-in-Some
returns-in-Some c = λ f F known less.
    let r = (rw c.in-Some.is at c.known.ensures) f F known.2 in
    let units = ranked_units f F c.args.a c.args.b c.in-Some.order r in
    (r.0, r.1, sym units ∙ lt_less c.in-Some.order (sym c.is_lt.ensures ∙ less))
