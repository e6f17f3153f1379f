use Rattle.bplint_engine.proofs.PrintAnswers.{line_cut}
use Rattle.bplint_engine.proofs.print.end_line.Goals as goal

pub returns-clause-part : goal.returns-clause-part
returns-clause-part g c = line_cut _ _ _ _ _ _ c.in_ok-put.ensures.taken c.flush.ensures.part
