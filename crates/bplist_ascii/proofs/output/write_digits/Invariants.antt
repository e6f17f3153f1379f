use Rattle.std.proofs.Common.{take}
use Rattle.std.specs.List.{flat_map}
use Rattle.bplist_ascii.specs.BoundedWrites.{hex_digits}
use Rattle.bplist_ascii.specs.BoundedWrites.{Adds}
use Rattle.bplist_ascii.proofs.output.write_digits.Given as goal

abbrev pub invariant-loop-byte : goal.invariant-loop-byte
invariant-loop-byte g l =
    Adds (g.W.Write.contents l.fn.out) (g.W.Write.contents l.out) l.fn.sink l.sink l.fn.room l.room (flat_map hex_digits (take l.byte-index l.bytes))
