use Rattle.std.proofs.Common.{◌+◌, length, map}
use Rattle.bplist_cursor.specs.Tokens.{left, slash}
use Rattle.bplist_cursor.proofs.TokenSteps.{IsParsing}
use Rattle.bplist_cursor.proofs.path.Path.parse.Given as goal

abbrev pub invariant-loop-goes_on : goal.invariant-loop-goes_on
invariant-loop-goes_on l = IsParsing l.text l.chars l.goes_on (map (λ s. s.items) l.steps.items)

abbrev pub decreases-loop-goes_on : goal.decreases-loop-goes_on
decreases-loop-goes_on l = length (left l.chars) + length (slash l.goes_on)
