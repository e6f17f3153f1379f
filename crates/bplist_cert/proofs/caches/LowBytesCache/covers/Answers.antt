use Rattle.std.proofs.Common.{refl, sym, arith, ◌∙◌, ◌/◌, ◌%◌}
use Rattle.bplist_cert.specs.LowBytes.{IsLow, stretch_at}
use Rattle.bplist_cert.proofs.LowBytes.{none_high, low_filled, low_put}
use Rattle.bplist_cert.proofs.caches.LowBytesCache.covers.Goals as goal

pub returns-clause-exact : goal.returns-clause-exact
returns-clause-exact g c = λ honest low.
    let f = (g.S.Source.means c.args.src.now).octets in
    let slot = c.args.from / c.max.result % 256 in
    let known = stretch_at c.args.self.now.slots slot in
    let front = none_high f c.args.from c.min-begin.result c.in_ok-first_high_in.field-0 (sym c.is_some.ensures ∙ c.if-is_some.false) (c.in_ok-first_high_in.ensures.found honest) in
    let back = none_high f c.min-end.result c.args.to c.in_ok-first_high_in-2.field-0 (sym c.is_some-else-is_some.ensures ∙ c.if-is_some-2.false) ((rw c.in_ok-first_high_in.ensures.reads at c.in_ok-first_high_in-2.ensures.found) honest) in
    let all : IsLow f c.args.from c.args.to = low_filled f known c.args.from c.args.to c.min-begin.result c.min-end.result (low slot) front back (λ l. omega arith) (λ l. omega arith) in
    (low_put f c.args.self.now.slots slot c.joined.result (omega arith) low (c.joined.ensures f (low slot) all), (λ _. all, λ _. refl))
