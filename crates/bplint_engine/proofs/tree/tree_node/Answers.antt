use Rattle.std.proofs.Common.{◌+◌, ◌≤◌, ap, arith, length, refl}
use Rattle.std.specs.Prelude.{true}
use Rattle.std.proofs.lemmas.Result.{err_from_is_err_and}
use Rattle.bplint_lines.specs.declared.fault.Said.TheVariants.{All}
use Rattle.bplint_engine.specs.Tree.{NodeLists, joined_lines, tree_lines}
use Rattle.bplint_engine.specs.Walks.{walked_lines}
use Rattle.bplint_engine.proofs.SentAnswers.{cursor_leaves, some_failed, uncounted}
use Rattle.bplint_engine.proofs.TreeLines.{tree_few}
use Rattle.bplint_engine.proofs.WalkSteps.{walked_tree}
use Rattle.bplint_engine.proofs.tree.tree_node.Goals as goal

pub returns-in_err-nodes-clause-exact : goal.returns-in_err-nodes-clause-exact
returns-in_err-nodes-clause-exact g c = λ honest vouched w holds.
    let branch = c.args.branch.now in
    let p = err_from_is_err_and c.from_residual.result c.from_residual.ensures.1 in
    rw (p.1, p.2) (uncounted branch.style branch.limit branch.path.now w (g.W.Write.contents c.args.out.now) _ (c.in_err-nodes.ensures.exact honest vouched w holds))

pub returns-in_err-walk-clause-exact : goal.returns-in_err-walk-clause-exact
returns-in_err-walk-clause-exact g c = λ honest vouched w holds.
    let branch = c.args.branch.now in
    let path = branch.path.now in
    let counted = c.in_ok-nodes.ensures.exact honest vouched w holds in
    let few : length (walked_lines branch.style true path w) ≤ c.in_ok-nodes.nodes + 1 = omega (arith, counted.0, tree_few branch.style path w, ap length (walked_tree branch.style path w)) in
    let p = err_from_is_err_and c.from_residual-in_err-walk.result c.from_residual-in_err-walk.ensures.1 in
    let stops = (rw c.in_ok-nodes.ensures.reads at c.in_err-walk.ensures.exact) honest branch.style (refl, refl) w (vouched, holds) (λ _. few) in
    rw (p.1, p.2) (cursor_leaves (NodeLists branch.style branch.limit path w) _ _ stops)

pub write_rows-requires-clause-ready : goal.write_rows-requires-clause-ready
write_rows-requires-clause-ready g c = rw c.in_ok-walk.ensures.reads c.in_ok-walk.ensures.ready

pub returns-in_err-write_rows-clause-exact : goal.returns-in_err-write_rows-clause-exact
returns-in_err-write_rows-clause-exact g c = λ honest vouched w holds.
    let branch = c.args.branch.now in
    let path = branch.path.now in
    let counted = c.in_ok-nodes.ensures.exact honest vouched w holds in
    let few : length (walked_lines branch.style true path w) ≤ c.in_ok-nodes.nodes + 1 = omega (arith, counted.0, tree_few branch.style path w, ap length (walked_tree branch.style path w)) in
    let left = (rw c.in_ok-nodes.ensures.reads at c.in_ok-walk.ensures.exact) honest branch.style (refl, refl) w (vouched, holds) (λ _. few) in
    let sends = (rw (c.in_ok-walk.ensures.reads, c.in_ok-nodes.ensures.reads, c.new.ensures.0) at c.in_err-write_rows.ensures.exact) honest (walked_lines branch.style true path w) left in
    let p = err_from_is_err_and c.from_residual-in_err-write_rows.result c.from_residual-in_err-write_rows.ensures.1 in
    rw (p.1, p.2) (some_failed (NodeLists branch.style branch.limit path w) All (joined_lines (tree_lines branch.style path w)) (g.W.Write.contents c.args.out.now) (g.W.Write.contents c.write_rows.new.out) _
    (counted.1, refl, refl) (rw (walked_tree branch.style path w) at sends))

pub returns-clause-exact : goal.returns-clause-exact
returns-clause-exact g c = λ honest vouched w holds.
    let branch = c.args.branch.now in
    let path = branch.path.now in
    let counted = c.in_ok-nodes.ensures.exact honest vouched w holds in
    let few : length (walked_lines branch.style true path w) ≤ c.in_ok-nodes.nodes + 1 = omega (arith, counted.0, tree_few branch.style path w, ap length (walked_tree branch.style path w)) in
    let left = (rw c.in_ok-nodes.ensures.reads at c.in_ok-walk.ensures.exact) honest branch.style (refl, refl) w (vouched, holds) (λ _. few) in
    let sends = (rw (c.in_ok-walk.ensures.reads, c.in_ok-nodes.ensures.reads, c.new.ensures.0) at c.in_ok-write_rows.ensures.exact) honest (walked_lines branch.style true path w) left in
    (joined_lines (tree_lines branch.style path w), (counted.1, refl, refl), rw (walked_tree branch.style path w) at sends)
