use Rattle.bplint.proofs.findings.Findings.end.Goals as goal

pub returns-then-silent : goal.returns-then-silent
returns-then-silent g c = (c.end-status.result, c.end-status.ensures, c.cut_off.ensures)

pub returns-else-silent : goal.returns-else-silent
returns-else-silent g c = (c.end-status.result, c.end-status.ensures, c.count.ensures)
