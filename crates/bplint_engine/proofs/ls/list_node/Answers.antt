use Rattle.std.proofs.Common.{Ok, refl}
use Rattle.std.proofs.lemmas.Result.{err_from_is_err_and}
use Rattle.bplint_engine.specs.Ls.{listed}
use Rattle.bplint_engine.specs.Streams.{begun}
use Rattle.bplint_engine.specs.Walks.{walked_lines}
use Rattle.std.specs.Prelude.{false}
use Rattle.bplint_engine.proofs.Puts.{cursor_stops}
use Rattle.bplint_engine.proofs.RowSteps.{walked_listed}
use Rattle.bplint_engine.proofs.ls.list_node.Goals as goal

pub returns-in_err-walk-clause-exact : goal.returns-in_err-walk-clause-exact
returns-in_err-walk-clause-exact g c = λ honest vouched w holds.
    let style = c.args.title.style in
    let p = err_from_is_err_and c.from_residual.result c.from_residual.ensures.1 in
    rw (p.1, p.2) (cursor_stops (g.W.Write.contents c.args.out.now) begun (listed style c.args.title.path.now (Ok w)) _
    (c.in_err-walk.ensures.exact honest style (refl, refl) w (vouched, holds) (λ deep. cc deep)))

pub write_rows-requires-clause-ready : goal.write_rows-requires-clause-ready
write_rows-requires-clause-ready g c = rw c.in_ok-walk.ensures.reads c.in_ok-walk.ensures.ready

pub returns-clause-exact : goal.returns-clause-exact
returns-clause-exact g c = λ honest vouched w holds.
    let style = c.args.title.style in
    let path = c.args.title.path.now in
    let left = c.in_ok-walk.ensures.exact honest style (refl, refl) w (vouched, holds) (λ deep. cc deep) in
    let sends = (rw (c.in_ok-walk.ensures.reads, c.new.ensures.0) at c.write_rows.ensures.exact) honest (walked_lines style false path w) left in
    rw (walked_listed style path w) at sends
