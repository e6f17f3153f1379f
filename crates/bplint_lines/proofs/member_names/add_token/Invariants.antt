use Rattle.std.proofs.Common.{◌≡◌, ◌++◌, take}
use Rattle.std.specs.List.{flat_map}
use Rattle.bplist_cursor.specs.Path.{escaped}
use Rattle.bplint_lines.proofs.member_names.add_token.Given as goal

-- the bytes of the token so far were added
abbrev pub invariant-loop-byte : goal.invariant-loop-byte
invariant-loop-byte l = l.lines.items ≡ l.initial.lines.items ++ flat_map escaped (take l.byte-index l.token)
