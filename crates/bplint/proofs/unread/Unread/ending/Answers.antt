use Rattle.bplint.proofs.Endings.{fails, unread}
use Rattle.bplint.proofs.unread.Unread.ending.Goals as goal

pub returns-then-not-explain : goal.returns-then-not-explain
returns-then-not-explain c = rw c.with.ensures (fails c.from.result (unread c.args.self.fault _ c.from.ensures))

pub returns-in-Ok : goal.returns-in-Ok
returns-in-Ok c = rw c.over.ensures (fails c.from-in-Ok.result (unread c.args.self.fault _ c.from-in-Ok.ensures))
