use Rattle.std.proofs.Common.{◌≡◌, take, ◌++◌}
use Rattle.std.specs.List.{flat_map}
use Rattle.bplist_cursor.specs.Texts as spec
use Rattle.bplist_ascii.proofs.texts.add_quoted.Given as goal

abbrev pub invariant-loop-unit : goal.invariant-loop-unit
invariant-loop-unit l = l.text.items ≡ l.initial.text.items ++ flat_map spec.quoted_unit (take l.unit-index l.units)
