use Rattle.std.proofs.lemmas.Grind.{merely}
use Rattle.bplint_engine.specs.Check.{CheckSays}
use Rattle.bplint_engine.proofs.LeftBytes.{sent}
use Rattle.bplint_engine.proofs.check.check_on.Goals as goal

pub returns-clause-exact : goal.returns-clause-exact
returns-clause-exact g c = λ honest cert made.
    merely (sent (CheckSays (g.S.Source.means c.args.src).octets cert) 0 _ _ _ _ (c.check_output.ensures.exact honest cert made) c.send_made.ensures.sent)
