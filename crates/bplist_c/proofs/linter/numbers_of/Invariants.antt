use Rattle.std.proofs.Common.{◌≡◌, map, take}
use Rattle.bplist_lint.specs.Trail.{number}
use Rattle.bplist_c.proofs.linter.numbers_of.Given as goal

-- the numbers so far
abbrev pub invariant-loop-object : goal.invariant-loop-object
invariant-loop-object l = l.numbers.items ≡ map number (take l.object-index l.objects)
