use Rattle.std.proofs.Common.{arith, rules, ◌≡◌, [], Err, ap}
use Rattle.std.proofs.lemmas.Grind.{common_steps}
use Rattle.bplist_octets.specs.Sending.{Sending}
use Rattle.bplist_ascii.specs.declared.printer.PrintFault.TheVariants.{Write}
use Rattle.bplist_octets.proofs.SinkSteps.{cut_bounded}
use Rattle.bplist_ascii.proofs.PrintSteps.{cut_of_flush, most_of_flush, put_failed}
use Rattle.bplist_ascii.proofs.printer.print.Goals as goal

pub returns-in_err-print_into-clause-exact : goal.returns-in_err-print_into-clause-exact
returns-in_err-print_into-clause-exact g c = λ honest vouched v h.
    let is : c.from_residual.result ≡ Err c.in_err-print_into.field-0.0 = search rules in
    let sent : c.new-sink.result.sent ≡ 0 = ap (λ (s : Sending). s.sent) c.new-sink.ensures in
    let held : c.new-sink.result.held ≡ [] = ap (λ (s : Sending). s.held) c.new-sink.ensures in
    rw is (put_failed _ _ c.new-sink.result c.print_into.new.sink _ _ _ v c.args.limit c.in_err-print_into.field-0.0 sent held (c.in_err-print_into.ensures.exact honest vouched v h))

pub returns-in_err-flush-clause-exact : goal.returns-in_err-flush-clause-exact
returns-in_err-flush-clause-exact g c = λ honest vouched v h.
    let is : c.from_residual-in_err-flush.result ≡ Err (Write c.in_err-flush.field-0.0.sent) = search rules in
    let sent : c.new-sink.result.sent ≡ 0 = ap (λ (s : Sending). s.sent) c.new-sink.ensures in
    let held : c.new-sink.result.held ≡ [] = ap (λ (s : Sending). s.held) c.new-sink.ensures in
    let p = c.in_ok-print_into.ensures.exact honest vouched v h in
    rw is (p.0, p.1, p.2, p.3, cut_of_flush _ _ _ c.new-sink.result c.print_into.new.sink p.0 _ sent held p.4 c.in_err-flush.ensures.part)

pub returns-in_err-flush-clause-bounded : goal.returns-in_err-flush-clause-bounded
returns-in_err-flush-clause-bounded g c =
    let sent : c.new-sink.result.sent ≡ 0 = ap (λ (s : Sending). s.sent) c.new-sink.ensures in
    let held : c.new-sink.result.held ≡ [] = ap (λ (s : Sending). s.held) c.new-sink.ensures in
    let p = c.in_ok-print_into.ensures.fits in
    cut_bounded _ _ p.0 c.args.limit _ p.2 (cut_of_flush (g.W.Write.contents c.args.out.now) (g.W.Write.contents c.print_into.new.out) (g.W.Write.contents c.flush.new.out) c.new-sink.result c.print_into.new.sink p.0 _ sent held p.1 c.in_err-flush.ensures.part)

pub returns-clause-bounded : goal.returns-clause-bounded
returns-clause-bounded g c =
    let sent : c.new-sink.result.sent ≡ 0 = ap (λ (s : Sending). s.sent) c.new-sink.ensures in
    let held : c.new-sink.result.held ≡ [] = ap (λ (s : Sending). s.held) c.new-sink.ensures in
    most_of_flush _ _ _ c.new-sink.result c.print_into.new.sink c.flush.new.self c.args.limit sent held c.in_ok-print_into.ensures.fits c.in_ok-flush.ensures.taken

pub returns-clause-exact : goal.returns-clause-exact
returns-clause-exact g c = grind (arith, common_steps)
