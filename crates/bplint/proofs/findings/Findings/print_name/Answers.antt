use Rattle.std.proofs.Common.{◌≡◌, inr, arith}
use Rattle.bplint.specs.ExitStatuses.{IsOrFails}
use Rattle.bplint.proofs.Endings.{raises}
use Rattle.bplint.proofs.findings.Findings.print_name.Goals as goal

pub returns-in-Err : goal.returns-in-Err
returns-in-Err g c = raises (λ s. s ≡ 4) (IsOrFails 1) _ _ (λ s is. inr (omega (arith, is))) c.end_without_memory.ensures
