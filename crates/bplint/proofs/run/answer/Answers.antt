use Rattle.bplint.proofs.Endings.{asked_ends}
use Rattle.bplint.proofs.run.answer.Goals as goal

pub returns : goal.returns
returns g c = λ fine certified. rw c.over.ensures (asked_ends c.args.line.now.ask c.args.line.now.hex
    (g.S.Source.means c.args.file).octets (g.C.Source.means c.args.cert).octets _ _ _ (c.answer_on-ending.ensures fine certified))
