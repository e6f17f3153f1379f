use Rattle.bplint.specs.Questions.{StatusAsked}
use Rattle.bplint.proofs.Endings.{failed_asked, still_ends}
use Rattle.bplint.proofs.run.run_sources.Goals as goal

pub returns-clause-exact : goal.returns-clause-exact
returns-clause-exact g c = λ fine certified most.
    let f = (g.S.Source.means c.args.file).octets in
    let cert = (g.C.Source.means c.args.cert).octets in
    let line = c.args.line.now in
    let ends = StatusAsked line.ask line.hex f cert in
    let failed = failed_asked line.ask line.hex f cert in
    still_ends ends failed _ _ c.warned-ending.ensures
    (still_ends ends failed _ _ c.completed-ending.ensures (c.answer_within-ending.ensures fine certified most)) _ c.end.ensures
