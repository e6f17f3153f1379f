use Rattle.bplist_cert.proofs.AcceptedCertificates.{valid_seen}
use Rattle.bplist_cert.proofs.CheckSteps.{on_err}
use Rattle.bplist_lint.proofs.UpgradeSteps.{check_no_change}
use Rattle.bplist_lint.proofs.upgrader.list_vouched.Goals as goal

pub returns-in_err-named-clause-exact : goal.returns-in_err-named-clause-exact
returns-in_err-named-clause-exact g c = λ honest valid.
    on_err _ _ _ _ c.from_residual.ensures.1 (check_no_change c.in_err-named.field-0.0 ((rw c.deref.ensures.value at c.in_err-named.ensures.exact) honest (valid_seen _ _ c.args.heights.items valid)))

pub returns-in_err-list_by_ranks-clause-exact : goal.returns-in_err-list_by_ranks-clause-exact
returns-in_err-list_by_ranks-clause-exact g c = λ honest valid.
    let named = (rw c.deref.ensures.value at c.in_ok-named.ensures.exact) honest (valid_seen _ _ c.args.heights.items valid) in
    let ranks = (rw c.in_ok-named.ensures.reads at c.in_ok-ranks.ensures.exact) honest in
    on_err _ _ _ _ c.from_residual-in_err-list_by_ranks.ensures.1 (check_no_change c.in_err-list_by_ranks.field-0.0 ((rw (c.in_ok-ranks.ensures.reads, c.in_ok-named.ensures.reads) at c.in_err-list_by_ranks.ensures.exact) honest valid (_, ranks, named)))

pub returns-clause-exact : goal.returns-clause-exact
returns-clause-exact g c = λ honest valid.
    let named = (rw c.deref.ensures.value at c.in_ok-named.ensures.exact) honest (valid_seen _ _ c.args.heights.items valid) in
    let ranks = (rw c.in_ok-named.ensures.reads at c.in_ok-ranks.ensures.exact) honest in
    (rw (c.in_ok-ranks.ensures.reads, c.in_ok-named.ensures.reads) at c.in_ok-list_by_ranks.ensures.exact) honest valid (_, ranks, named)
