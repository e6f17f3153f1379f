use Rattle.std.proofs.Common.{◌≡◌}
use Rattle.bplint.specs.ExitStatuses.{EndsWith}
use Rattle.bplint.proofs.Endings.{raises, refused}
use Rattle.bplint.proofs.findings.Findings.end_without_memory.Goals as goal

pub returns : goal.returns
returns g c = raises (EndsWith c.with.result.answer) (λ s. s ≡ 4) _ _ (refused _ c.with.ensures) c.end.ensures
