use Rattle.std.proofs.Common.{◌≡◌, ◌≤◌, arith}
use Rattle.bplint.specs.ExitStatuses.{EndsWith, IsOrFails}
use Rattle.bplint.proofs.Endings.{at_least, raises}
use Rattle.bplint.proofs.findings.Findings.add_unnamed.Goals as goal

pub returns-then-prints_json : goal.returns-then-prints_json
returns-then-prints_json g c = raises (IsOrFails 3) (λ s. 3 ≤ s) _ _ (at_least 3 (omega arith)) c.print_finding.ensures

pub returns-in-Ok : goal.returns-in-Ok
returns-in-Ok g c = raises (EndsWith c.in-Ok.ending.answer) (λ s. 3 ≤ s) _ _ c.in-Ok.ensures c.end.ensures

pub returns-in-Err : goal.returns-in-Err
returns-in-Err g c = raises (λ s. s ≡ 4) (λ s. 3 ≤ s) _ _ (λ s is. omega (arith, is)) c.end_without_memory.ensures
