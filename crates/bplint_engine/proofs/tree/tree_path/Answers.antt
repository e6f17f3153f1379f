use Rattle.std.proofs.Common.{◌≡◌, None, Err, subst, sym}
use Rattle.std.specs.Prelude.{MatchResult}
use Rattle.std.proofs.lemmas.Result.{err_from_is_err_and}
use Rattle.bplint_lines.specs.declared.fault.Said.TheVariants.{SomeMissing}
use Rattle.bplint_lines.specs.Answers.{gives}
use Rattle.bplint_engine.specs.Get.{found_line}
use Rattle.bplint_engine.specs.Tree.{NodeLists, PathLists}
use Rattle.bplint_engine.proofs.LeftBytes.{sent_within}
use Rattle.bplint_engine.proofs.SentAnswers.{cursor_leaves, missing_made, some_as}
use Rattle.bplint_engine.proofs.tree.tree_path.Goals as goal

pub returns-in_err-node-clause-exact : goal.returns-in_err-node-clause-exact
returns-in_err-node-clause-exact g c = λ honest v holds.
    let branch = c.args.branch.now in
    let p = err_from_is_err_and c.from_residual.result c.from_residual.ensures.1 in
    rw (p.1, p.2) (cursor_leaves (PathLists branch.style branch.limit branch.path.now c.args.steps.now v) (g.W.Write.contents c.args.out.now) _ (c.in_err-node.ensures.unchanged honest))

pub returns-in-At-clause-exact : goal.returns-in-At-clause-exact
returns-in-At-clause-exact g c = λ honest v holds.
    let branch = c.args.branch.now in
    let found = rw c.in-At.is at (c.in_ok-node.ensures.exact honest v holds) in
    let left = rw c.in_ok-node.ensures.reads at c.tree_node.ensures.exact in
    let w = found.2.0 in
    some_as (NodeLists branch.style branch.limit branch.path.now w) (PathLists branch.style branch.limit branch.path.now c.args.steps.now v) _ _ _
    (λ a h. subst (λ r. MatchResult r (λ x. NodeLists branch.style branch.limit branch.path.now x a) (λ missing. a ≡ gives SomeMissing (found_line branch.style (Err missing)))) (sym found.2.1) h)
    (left honest found.1 w found.2.2)

pub returns-in-Missing-clause-exact : goal.returns-in-Missing-clause-exact
returns-in-Missing-clause-exact g c = λ honest v holds.
    let branch = c.args.branch.now in
    let found = rw c.in-Missing.is at (c.in_ok-node.ensures.exact honest v holds) in
    let says = missing_made (PathLists branch.style branch.limit branch.path.now c.args.steps.now v) _ _ _
    (λ a h. subst (λ r. MatchResult r (λ x. NodeLists branch.style branch.limit branch.path.now x a) (λ missing. a ≡ gives SomeMissing (found_line branch.style (Err missing)))) (sym found) h)
    c.missing_output.ensures.made c.missing_output.ensures.refused in
    (sent_within (PathLists branch.style branch.limit branch.path.now c.args.steps.now v) None _ _ _ _ says c.send_output.ensures.sent)
