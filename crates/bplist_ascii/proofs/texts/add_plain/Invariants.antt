use Rattle.std.proofs.Common.{◌≡◌, take, ◌++◌}
use Rattle.bplist_ascii.proofs.texts.add_plain.Given as goal

abbrev pub invariant-loop-unit : goal.invariant-loop-unit
invariant-loop-unit l = l.text.items ≡ l.initial.text.items ++ take l.unit-index l.units
