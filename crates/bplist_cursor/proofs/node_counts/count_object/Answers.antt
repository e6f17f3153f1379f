use Rattle.std.proofs.Common.{arith, ◌∙◌}
use Rattle.bplist_cert.proofs.CheckSteps.{on_err}
use Rattle.bplist_cursor.proofs.CountSteps.{read_weaker, value_counted}
use Rattle.bplist_cursor.proofs.PassSteps.{refs_fit}
use Rattle.bplist_cursor.proofs.StepReferences.{content_of_value}
use Rattle.bplist_cursor.proofs.node_counts.count_object.Goals as goal

pub returns-in_err-head-clause-exact : goal.returns-in_err-head-clause-exact
returns-in_err-head-clause-exact g c = λ honest v h counted.
    let x = content_of_value c.args.checked.now.source.octets c.args.checked.now.frame v c.args.n.0 h in
    on_err _ _ _ _ c.from_residual.ensures.1 (c.in_err-head.ensures.exact honest x.0 x.1)

pub returns-clause-exact : goal.returns-clause-exact
returns-clause-exact g c = λ honest v h counted.
    let f = c.args.checked.now.source.octets in
    let F = c.args.checked.now.frame in
    let total = (rw c.in_ok-head.ensures.reads at c.count_refs.ensures.exact) honest in
    read_weaker _ _ c.count_refs.result (λ x e. e ∙ value_counted f F c.args.counts.now v c.args.n.0 c.in_ok-head.head h (c.in_ok-head.ensures.exact honest) counted) total

pub returns-clause-asks : goal.returns-clause-asks
returns-clause-asks g c = λ honest e takes.
    let f = c.args.checked.now.source.octets in
    let F = c.args.checked.now.frame in
    let fits = refs_fit f F c.args.n.0 e c.in_ok-head.head (c.in_ok-head.ensures.shape honest) takes in
    omega (arith, fits, c.in_ok-head.ensures.asks, rw c.in_ok-head.ensures.reads at c.count_refs.ensures.asks)
