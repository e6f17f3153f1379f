use Rattle.std.proofs.Common.{◌≡◌, ◌++◌, take}
use Rattle.std.specs.List.{flat_map}
use Rattle.bplist_cursor.specs.Path.{escaped}
use Rattle.bplint_lines.proofs.member_names.add_ascii_token.Given as goal

-- the units of the token so far come after the lines
abbrev pub invariant-loop-unit : goal.invariant-loop-unit
invariant-loop-unit l = l.lines.items ≡ l.initial.lines.items ++ flat_map escaped (take l.unit-index l.units)
