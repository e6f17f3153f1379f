use Rattle.std.proofs.Common.{add-one, arith}
use Rattle.std.proofs.lemmas.Result.{err_from_is_err_and}
use Rattle.bplint_engine.proofs.PathQueries.{one_more, text_refused}
use Rattle.bplint_engine.proofs.get.queries_of.Goals as goal

pub returns-in_err-path : goal.returns-in_err-path
returns-in_err-path c =
    let p = err_from_is_err_and c.from_residual.result c.from_residual.ensures.1 in
    let wrong = rw c.as_str.ensures.value at c.in_err-path.ensures.wrong in
    rw (p.1, p.2) (text_refused _ _ _ _ _ (omega arith) c.text-item.is c.loop-text.invariant wrong)

pub loop-text-preserved : goal.loop-text-preserved
loop-text-preserved c =
    let pushed = c.in_ok-push.ensures.items in
    let steps = rw c.as_str.ensures.value at c.in_ok-path.ensures.steps in
    rw (pushed, add-one) (one_more _ _ _ _ _ (omega arith) c.text-item.is c.loop-text.invariant steps)
