use Rattle.std.proofs.Common.{◌≡◌, refl}
use Rattle.std.proofs.lemmas.Result.{err_from_is_err_and}
use Rattle.bplist_objects.proofs.Fronts.{one_shape}
use Rattle.bplint_engine.proofs.LowerFaults.{unread_excused}
use Rattle.bplint_engine.proofs.lint.yes_output.Goals as goal

pub returns-in_err-head-clause-exact : goal.returns-in_err-head-clause-exact
returns-in_err-head-clause-exact g c = λ honest content spells vouched.
    let p = err_from_is_err_and c.from_residual.result c.from_residual.ensures.1 in
    rw (p.1, p.2) (unread_excused c.in_err-head.field-0.0 ((rw c.frame-frame.ensures.frame at c.in_err-head.ensures.exact) honest vouched content spells))

pub returns-clause-exact : goal.returns-clause-exact
returns-clause-exact g c = λ honest content spells vouched.
    let shape = (rw c.frame-frame.ensures.frame at c.in_ok-head.ensures.shape) honest in
    let same : c.in_ok-head.head ≡ spells.shape = one_shape _ _ _ c.in_ok-head.head spells.shape shape spells.has in
    let height = rw (c.in_ok-head.ensures.reads, c.frame-frame.ensures.frame) at c.height.ensures in
    (refl, rw (height, same) at c.in_ok-bytes.ensures)
