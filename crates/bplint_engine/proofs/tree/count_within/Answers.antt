use Rattle.std.proofs.lemmas.Result.{err_from_is_err_and}
use Rattle.bplint_engine.proofs.LowerFaults.{cursor_excused}
use Rattle.bplint_engine.proofs.SentAnswers.{excused_refuses}
use Rattle.bplint_engine.proofs.tree.count_within.Goals as goal

pub returns-in_err-count-clause-exact : goal.returns-in_err-count-clause-exact
returns-in_err-count-clause-exact g c = λ honest vouched w holds.
    let p = err_from_is_err_and c.from_residual.result c.from_residual.ensures.1 in
    rw (p.1, p.2) (excused_refuses w c.args.limit _ (cursor_excused _ (c.in_err-count.ensures.exact honest vouched w holds)))
