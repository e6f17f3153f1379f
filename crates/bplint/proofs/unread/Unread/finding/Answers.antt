use Rattle.bplint.proofs.Endings.{unread}
use Rattle.bplint.proofs.unread.Unread.finding.Goals as goal

pub returns : goal.returns
returns c = unread c.args.self.fault _ c.from.ensures
