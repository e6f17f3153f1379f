use Rattle.std.proofs.lemmas.Result.{err_from_is_err_and}
use Rattle.bplint_engine.specs.Print.{PathSays}
use Rattle.bplint_engine.proofs.LeftBytes.{sent}
use Rattle.bplint_engine.proofs.PrintAnswers.{cursor_stopped, at_node, missing_says}
use Rattle.bplint_engine.proofs.print.print_path.Goals as goal

pub returns-in_err-node-clause-exact : goal.returns-in_err-node-clause-exact
returns-in_err-node-clause-exact g c =
    λ honest v holds. let p = err_from_is_err_and c.from_residual.result c.from_residual.ensures.1 in
    rw (p.1, p.2) (cursor_stopped (PathSays c.args.checked.now.source.octets c.args.checked.now.frame c.args.limit c.args.path.now v) c.args.limit
    (g.W.Write.contents c.args.out.now) _ (c.in_err-node.ensures.unchanged honest))

pub returns-in-At-clause-exact : goal.returns-in-At-clause-exact
returns-in-At-clause-exact g c =
    λ honest v holds. let same = c.in_ok-node.ensures.reads in
    let found = rw c.in-At.is at (c.in_ok-node.ensures.exact honest v holds) in
    let left = rw same at c.print_node.ensures.exact in
    at_node c.args.checked.now v c.args.path.now c.in-At.node c.args.limit _ _ _ found (λ w held. left honest held.0 w held.1)

pub returns-in-Missing-clause-exact : goal.returns-in-Missing-clause-exact
returns-in-Missing-clause-exact g c =
    λ honest v holds. let found = rw c.in-Missing.is at (c.in_ok-node.ensures.exact honest v holds) in
    let file = c.args.checked.now in
    sent (PathSays file.source.octets file.frame c.args.limit c.args.path.now v) c.args.limit _ _ _ _
    (missing_says file.source.octets file.frame c.args.limit c.args.path.now v _ _ _ found c.missing_output.ensures.made c.missing_output.ensures.refused) c.send_output.ensures.sent
