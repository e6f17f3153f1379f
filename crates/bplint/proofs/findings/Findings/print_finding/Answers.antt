use Rattle.std.proofs.Common.{◌≡◌, inr, arith}
use Rattle.bplint_engine.specs.Findings.{status_of}
use Rattle.bplint.specs.ExitStatuses.{IsOrFails}
use Rattle.bplint.proofs.Endings.{raises}
use Rattle.bplint.proofs.findings.Findings.print_finding.Goals as goal

pub returns-in-Ok : goal.returns-in-Ok
returns-in-Ok g c = rw (← c.status.ensures.exact) c.print.ensures

pub returns-in-Err : goal.returns-in-Err
returns-in-Err g c = raises (λ s. s ≡ 4) (IsOrFails (status_of c.args.finding.now)) _ _ (λ s is. inr (omega (arith, is))) c.end_without_memory.ensures
