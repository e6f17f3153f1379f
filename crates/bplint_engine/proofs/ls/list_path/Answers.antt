use Rattle.std.proofs.Common.{◌∙◌, ◌∷◌, [], None, Ok, ap, sym}
use Rattle.std.proofs.lemmas.Result.{err_from_is_err_and}
use Rattle.bplint_lines.specs.declared.fault.Said.TheVariants.{All}
use Rattle.bplint_lines.specs.Answers.{gives}
use Rattle.bplint_engine.specs.Get.{said_of}
use Rattle.bplint_engine.specs.Ls.{PathListed, listed}
use Rattle.bplint_engine.proofs.LeftBytes.{sent_within}
use Rattle.bplint_engine.proofs.SentAnswers.{cursor_leaves, missing_made, some_failed}
use Rattle.bplint_engine.proofs.ls.list_path.Goals as goal

pub returns-in_err-node-clause-exact : goal.returns-in_err-node-clause-exact
returns-in_err-node-clause-exact g c = λ honest v holds.
    let p = err_from_is_err_and c.from_residual.result c.from_residual.ensures.1 in
    rw (p.1, p.2) (cursor_leaves (PathListed c.args.title.style c.args.title.path.now c.args.steps.now v) (g.W.Write.contents c.args.out.now) _ (c.in_err-node.ensures.unchanged honest))

pub returns-in_err-list_node-in-At-clause-exact : goal.returns-in_err-list_node-in-At-clause-exact
returns-in_err-list_node-in-At-clause-exact g c = λ honest v holds.
    let found = rw c.in-At.is at (c.in_ok-node.ensures.exact honest v holds) in
    let p = err_from_is_err_and c.from_residual-in_err-list_node-in-At.result c.from_residual-in_err-list_node-in-At.ensures.1 in
    let sends = (rw c.in_ok-node.ensures.reads at c.in_err-list_node-in-At.ensures.exact) honest found.1 found.2.0 found.2.2 in
    let lines = listed c.args.title.style c.args.title.path.now in
    rw (p.1, p.2) (some_failed (PathListed c.args.title.style c.args.title.path.now c.args.steps.now v) All (lines (Ok found.2.0)) _ _ _
    (ap (λ r. gives (said_of (r ∷ [])) (lines r)) (sym found.2.1)) sends)

pub returns-in_ok-list_node-in-At-clause-exact : goal.returns-in_ok-list_node-in-At-clause-exact
returns-in_ok-list_node-in-At-clause-exact g c = λ honest v holds.
    let found = rw c.in-At.is at (c.in_ok-node.ensures.exact honest v holds) in
    let sends = (rw c.in_ok-node.ensures.reads at c.in_ok-list_node-in-At.ensures.exact) honest found.1 found.2.0 found.2.2 in
    let lines = listed c.args.title.style c.args.title.path.now in
    (lines (Ok found.2.0), ap (λ r. gives (said_of (r ∷ [])) (lines r)) (sym found.2.1), sends)

pub returns-in-Missing-clause-exact : goal.returns-in-Missing-clause-exact
returns-in-Missing-clause-exact g c = λ honest v holds.
    let found = rw c.in-Missing.is at (c.in_ok-node.ensures.exact honest v holds) in
    let lines = listed c.args.title.style c.args.title.path.now in
    let says = missing_made (PathListed c.args.title.style c.args.title.path.now c.args.steps.now v) _ _ _
    (λ a h. h ∙ ap (λ r. gives (said_of (r ∷ [])) (lines r)) (sym found))
    c.missing_output.ensures.made c.missing_output.ensures.refused in
    (sent_within (PathListed c.args.title.style c.args.title.path.now c.args.steps.now v) None _ _ _ _ says c.send_output.ensures.sent)
