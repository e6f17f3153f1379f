use Rattle.std.proofs.Common.{ap, subst, sym}
use Rattle.std.proofs.lemmas.Result.{err_from_is_err_and}
use Rattle.bplint_lines.specs.declared.fault.Said.TheVariants.{SomeMissing}
use Rattle.bplint_lines.specs.Answers.{gives}
use Rattle.bplint_engine.specs.Print.{PathSays}
use Rattle.bplint_engine.proofs.LeftBytes.{kept_self, refused}
use Rattle.bplint_engine.proofs.PrintAnswers.{FoundSays, at_node, cursor_stopped, missing_says, text_written}
use Rattle.bplint_engine.proofs.print.text_path.Goals as goal

pub returns-in_err-node-clause-exact : goal.returns-in_err-node-clause-exact
returns-in_err-node-clause-exact g c =
    λ honest v holds. let p = err_from_is_err_and c.from_residual.result c.from_residual.ensures.1 in
    rw (p.1, p.2) (cursor_stopped (PathSays c.args.checked.now.source.octets c.args.checked.now.frame c.args.limit c.args.path.now v) c.args.limit
    (g.W.Write.contents c.args.out.now) _ (c.in_err-node.ensures.unchanged honest))

pub returns-in_err-print_node-in-At-clause-exact : goal.returns-in_err-print_node-in-At-clause-exact
returns-in_err-print_node-in-At-clause-exact g c =
    λ honest v holds. let same = c.in_ok-node.ensures.reads in
    let found = rw c.in-At.is at (c.in_ok-node.ensures.exact honest v holds) in
    let left = rw same at c.print_node.ensures.exact in
    let p = err_from_is_err_and c.from_residual-in_err-print_node-in-At.result c.from_residual-in_err-print_node-in-At.ensures.1 in
    let says = at_node c.args.checked.now v c.args.path.now c.in-At.node c.args.limit (g.W.Write.contents c.args.out.now) (g.W.Write.contents c.print_node.new.out) c.print_node.result
    found (λ w held. left honest held.0 w held.1) in
    rw (p.1, p.2) (rw c.in_err-print_node-in-At.was at says)

pub returns-in_ok-print_node-in-At-clause-exact : goal.returns-in_ok-print_node-in-At-clause-exact
returns-in_ok-print_node-in-At-clause-exact g c =
    λ honest v holds. let same = c.in_ok-node.ensures.reads in
    let found = rw c.in-At.is at (c.in_ok-node.ensures.exact honest v holds) in
    let left = rw same at c.in_ok-print_node-in-At.ensures.exact in
    text_written c.args.checked.now v c.args.path.now c.in-At.node c.args.limit _ _ _ found (λ w held. left honest held.0 w held.1)

pub returns-in_err-missing_output-in-Missing-clause-exact : goal.returns-in_err-missing_output-in-Missing-clause-exact
returns-in_err-missing_output-in-Missing-clause-exact g c =
    λ honest v holds. let found = rw c.in-Missing.is at (c.in_ok-node.ensures.exact honest v holds) in
    let file = c.args.checked.now in
    let p = err_from_is_err_and c.from_residual-in_err-missing_output-in-Missing.result c.from_residual-in_err-missing_output-in-Missing.ensures.1 in
    let says = missing_says file.source.octets file.frame c.args.limit c.args.path.now v _ _ _ found c.missing_output.ensures.made c.missing_output.ensures.refused in
    rw (p.1, p.2) (refused (PathSays file.source.octets file.frame c.args.limit c.args.path.now v) c.args.limit _ _ _ (rw c.in_err-missing_output-in-Missing.was at says) (kept_self _))

pub returns-in_ok-missing_output-in-Missing-clause-exact : goal.returns-in_ok-missing_output-in-Missing-clause-exact
returns-in_ok-missing_output-in-Missing-clause-exact g c =
    λ honest v holds. let found = rw c.in-Missing.is at (c.in_ok-node.ensures.exact honest v holds) in
    let file = c.args.checked.now in (
      subst (FoundSays file.source.octets file.frame c.args.limit c.args.path.now (gives SomeMissing c.in_ok-missing_output-in-Missing.field-0.bytes.items)) (sym found)
          (ap (gives SomeMissing) c.in_ok-missing_output-in-Missing.ensures.made.1),
      kept_self _,
    )
