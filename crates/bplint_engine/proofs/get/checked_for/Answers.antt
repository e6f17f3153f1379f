use Rattle.bplint_engine.specs.Check.{CheckSays}
use Rattle.bplint_engine.proofs.GetAnswers.{suited_or_refused}
use Rattle.bplint_engine.proofs.get.checked_for.Goals as goal

pub returns-in-Ok-clause-exact : goal.returns-in-Ok-clause-exact
returns-in-Ok-clause-exact g c =
    λ honest cert made. let f = (g.S.Source.means c.args.src).octets in
    let vouched = c.in-Ok.ensures.exact honest cert made in
    suited_or_refused (CheckSays f cert) _ _ _ c.suited_to.result
    (λ suited same. (c.in-Ok.checked.certificate, rw same.1 vouched))
    c.suited_to.ensures.handed (c.suited_to.ensures.excused (rw c.in-Ok.ensures.handed honest))

pub returns-in-Err-clause-exact : goal.returns-in-Err-clause-exact
returns-in-Err-clause-exact g c = λ honest cert made. c.in-Err.ensures.exact honest cert made
