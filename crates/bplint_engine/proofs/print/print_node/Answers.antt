use Rattle.std.proofs.lemmas.Result.{err_from_is_err_and}
use Rattle.bplint_engine.specs.Print.{NodeSays}
use Rattle.bplint_engine.proofs.PrintAnswers.{cursor_stopped, print_refused, end_failed, printed}
use Rattle.bplint_engine.proofs.print.print_node.Goals as goal

pub returns-in_err-measures-clause-exact : goal.returns-in_err-measures-clause-exact
returns-in_err-measures-clause-exact g c =
    λ honest vouched w holds. let file = c.args.checked.now in
    let p = err_from_is_err_and c.from_residual.result c.from_residual.ensures.1 in
    rw (p.1, p.2) (cursor_stopped (NodeSays file.source.octets file.frame c.args.limit c.args.node.object.0 w) c.args.limit
    (g.W.Write.contents c.args.out.now) c.in_err-measures.field-0.0 (c.in_err-measures.ensures.exact honest))

pub returns-in_err-print_into-clause-exact : goal.returns-in_err-print_into-clause-exact
returns-in_err-print_into-clause-exact g c =
    λ honest vouched w holds. let same = c.in_ok-measures.ensures.reads in
    let p = err_from_is_err_and c.from_residual-in_err-print_into.result c.from_residual-in_err-print_into.ensures.1 in
    let fails = rw same at c.print_into.ensures.exact in
    let file = c.args.checked.now in
    rw (p.1, p.2) (print_refused (g.W.Write.contents c.args.out.now) (g.W.Write.contents c.print_into.new.out) c.new-sink.result c.print_into.new.sink file.source.octets file.frame
    c.args.node.object.0 w c.args.limit c.print_into.result _ c.in_err-print_into.was c.new-sink.ensures (fails honest vouched w holds) c.in_err-print_into.ensures.bounded)

pub returns-in_err-end_line-clause-exact : goal.returns-in_err-end_line-clause-exact
returns-in_err-end_line-clause-exact g c =
    λ honest vouched w holds. let same = c.in_ok-measures.ensures.reads in
    let p = err_from_is_err_and c.from_residual-in_err-end_line.result c.from_residual-in_err-end_line.ensures.1 in
    let prints = rw same at c.in_ok-print_into.ensures.exact in
    let file = c.args.checked.now in
    rw (p.1, p.2) (end_failed _ _ _ c.new-sink.result c.print_into.new.sink file.source.octets file.frame c.args.node.object.0 w c.args.limit _
    c.new-sink.ensures (prints honest vouched w holds) c.in_err-end_line.ensures.part)

pub returns-clause-exact : goal.returns-clause-exact
returns-clause-exact g c =
    λ honest vouched w holds. let same = c.in_ok-measures.ensures.reads in
    let prints = rw same at c.in_ok-print_into.ensures.exact in
    let file = c.args.checked.now in
    printed _ _ _ c.new-sink.result c.print_into.new.sink _ file.source.octets file.frame c.args.node.object.0 w c.args.limit
    c.new-sink.ensures (prints honest vouched w holds) c.in_ok-end_line.ensures.taken c.in_ok-end_line.ensures.empty
