use Rattle.std.proofs.Common.{◌≡◌, ◌≤◌, arith}
use Rattle.bplint_engine.specs.Findings.{status_of}
use Rattle.bplint.specs.ExitStatuses.{EndsWith, IsOrFails}
use Rattle.bplint.proofs.Endings.{at_least, raises}
use Rattle.bplint.proofs.findings.Findings.add_unread.Goals as goal

pub returns-then-prints_json : goal.returns-then-prints_json
returns-then-prints_json g c = raises (IsOrFails (status_of c.finding-finding.result)) (λ s. 3 ≤ s) _ _ (at_least _ c.finding-finding.ensures) c.print_finding.ensures

pub returns-in_default-prefix_of : goal.returns-in_default-prefix_of
returns-in_default-prefix_of g c = raises (λ s. s ≡ 4) (λ s. 3 ≤ s) _ _ (λ s is. omega (arith, is)) c.end_without_memory.ensures

pub returns : goal.returns
returns g c = raises (EndsWith c.ending-ending.result.answer) (λ s. 3 ≤ s) _ _ c.ending-ending.ensures c.end.ensures
