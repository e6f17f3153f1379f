use Rattle.std.proofs.lemmas.Result.{err_from_is_err_and}
use Rattle.bplist_cursor.proofs.SameFiles.{same_file}
use Rattle.bplint_engine.proofs.sorting.pays_to_sort.Goals as goal

pub returns-in_err-made-clause-unchanged : goal.returns-in_err-made-clause-unchanged
returns-in_err-made-clause-unchanged g c = λ honest.
    let p = err_from_is_err_and c.from_residual.result c.from_residual.ensures.1 in
    rw (p.1, p.2) ((rw c.loop-query.invariant.same at c.in_err-made.ensures.unchanged) honest)

pub loop-query-preserved : goal.loop-query-preserved
loop-query-preserved g c = record { same = same_file c.args.checked.now c.in_ok-made.ensures.reads c.loop-query.invariant.same }
