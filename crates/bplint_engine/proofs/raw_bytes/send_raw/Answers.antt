use Rattle.std.proofs.Common.{rules, ◌≡◌, Err}
use Rattle.std.proofs.lemmas.Result.{err_from_is_err_and}
use Rattle.bplint_lines.specs.declared.fault.RunFault.TheVariants.{Write}
use Rattle.bplint_engine.proofs.Puts.{fails_begun, flush_cut, flushed}
use Rattle.bplint_engine.proofs.raw_bytes.send_raw.Goals as goal

pub returns-in_err-put_raw-clause-exact : goal.returns-in_err-put_raw-clause-exact
returns-in_err-put_raw-clause-exact g c = λ honest paired.
    let p = err_from_is_err_and c.from_residual.result c.from_residual.ensures.1 in
    rw (p.1, p.2) (fails_begun _ _ _ _ _ c.new-sink.ensures (c.in_err-put_raw.ensures.exact honest paired))

pub returns-in_err-flush-clause-exact : goal.returns-in_err-flush-clause-exact
returns-in_err-flush-clause-exact g c = λ honest paired.
    let is : c.from_residual-in_err-flush.result ≡ Err (Write c.in_err-flush.field-0.0.sent) = search rules in
    rw is (flush_cut _ _ _ _ _ _ _ c.new-sink.ensures (c.in_ok-put_raw.ensures.exact honest paired) c.in_err-flush.ensures.part)

pub returns-clause-exact : goal.returns-clause-exact
returns-clause-exact g c = λ honest paired.
    flushed c.new-sink.ensures (c.in_ok-put_raw.ensures.exact honest paired) c.in_ok-flush.ensures.taken c.in_ok-flush.ensures.empty
