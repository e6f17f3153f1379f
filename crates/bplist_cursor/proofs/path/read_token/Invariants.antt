use Rattle.std.proofs.Common.{length}
use Rattle.bplist_cursor.specs.Tokens.{left}
use Rattle.bplist_cursor.proofs.TokenSteps.{IsReading}
use Rattle.bplist_cursor.proofs.path.read_token.Given as goal

abbrev pub invariant-loop-place : goal.invariant-loop-place
invariant-loop-place l = IsReading l.fn.chars l.chars l.fn.step.items l.step.items

abbrev pub decreases-loop-place : goal.decreases-loop-place
decreases-loop-place l = length (left l.chars)
