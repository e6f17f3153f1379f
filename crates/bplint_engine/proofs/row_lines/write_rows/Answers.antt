use Rattle.std.proofs.Common.{◌≡◌, Err, rules}
use Rattle.std.proofs.lemmas.Result.{err_from_is_err_and}
use Rattle.bplint_lines.specs.declared.fault.RunFault.TheVariants.{Write}
use Rattle.bplint_engine.proofs.Puts.{fails_begun, flush_cut, flushed}
use Rattle.bplint_engine.proofs.row_lines.write_rows.Goals as goal

pub returns-in_err-put_rows-clause-exact : goal.returns-in_err-put_rows-clause-exact
returns-in_err-put_rows-clause-exact g c = λ honest left stands.
    let p = err_from_is_err_and c.from_residual.result c.from_residual.ensures.1 in
    rw (p.1, p.2) (fails_begun _ _ _ _ _ c.requires.begun (c.in_err-put_rows.ensures.exact honest left stands))

pub returns-in_err-flush-clause-exact : goal.returns-in_err-flush-clause-exact
returns-in_err-flush-clause-exact g c = λ honest left stands.
    let is : c.from_residual-in_err-flush.result ≡ Err (Write c.in_err-flush.field-0.0.sent) = search rules in
    rw is (flush_cut _ _ _ _ _ _ _ c.requires.begun (c.in_ok-put_rows.ensures.exact honest left stands) c.in_err-flush.ensures.part)

pub returns-clause-exact : goal.returns-clause-exact
returns-clause-exact g c = λ honest left stands.
    flushed c.requires.begun (c.in_ok-put_rows.ensures.exact honest left stands) c.in_ok-flush.ensures.taken c.in_ok-flush.ensures.empty
