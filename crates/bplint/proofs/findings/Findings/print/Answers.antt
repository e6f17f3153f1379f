use Rattle.std.proofs.Common.{refl, inl, inr}
use Rattle.bplint.specs.ExitStatuses.{EndsWith, IsOrFails}
use Rattle.bplint.proofs.Endings.{raises, unwritten}
use Rattle.bplint.proofs.findings.Findings.print.Goals as goal

pub returns-then-is_ok : goal.returns-then-is_ok
returns-then-is_ok g c = (c.args.status, inl refl, c.count.ensures)

pub returns : goal.returns
returns g c = raises (EndsWith c.completed-ending.result.answer) (IsOrFails c.args.status) _ _
    (λ s is. inr (unwritten 0 _ _ c.with-ending.ensures c.completed-ending.ensures s is)) c.end.ensures
