use Rattle.bplist_cursor.proofs.DigitSteps.{IsReading}
use Rattle.bplist_cursor.proofs.steps.index_of.Given as goal

abbrev pub invariant-loop-unit : goal.invariant-loop-unit
invariant-loop-unit l = IsReading l.step l.count l.unit-index l.index
