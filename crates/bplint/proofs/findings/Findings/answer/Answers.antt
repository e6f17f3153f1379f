use Rattle.std.proofs.Common.{refl}
use Rattle.bplint.proofs.Endings.{lint_asked}
use Rattle.bplint.proofs.findings.Findings.answer.Goals as goal

pub returns-in-Lines : goal.returns-in-Lines
returns-in-Lines g c = λ fine. lint_asked (g.S.Source.means c.args.file).octets c.args.line.now.ask _ _ _ c.requires (c.answer.ensures fine refl)

pub returns-in_default : goal.returns-in_default
returns-in_default g c = λ fine. lint_asked (g.S.Source.means c.args.file).octets c.args.line.now.ask _ _ _ c.requires (c.answer-in_default.ensures fine refl)
