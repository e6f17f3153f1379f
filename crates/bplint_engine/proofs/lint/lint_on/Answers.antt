use Rattle.std.proofs.lemmas.Grind.{merely}
use Rattle.bplint_engine.specs.Lint.{LintSays}
use Rattle.bplint_engine.proofs.LeftBytes.{sent}
use Rattle.bplint_engine.proofs.lint.lint_on.Goals as goal

pub returns-clause-exact : goal.returns-clause-exact
returns-clause-exact g c = λ honest.
    merely (sent (LintSays (g.S.Source.means c.args.src).octets) 0 _ _ _ _ (c.lint_output.ensures.exact honest) c.send_made.ensures.sent)
