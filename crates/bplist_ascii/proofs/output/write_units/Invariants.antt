use Rattle.std.proofs.Common.{take}
use Rattle.std.specs.List.{flat_map}
use Rattle.bplist_ascii.specs.BoundedWrites.{Adds, styled}
use Rattle.bplist_ascii.proofs.output.write_units.Given as goal

abbrev pub invariant-loop-unit : goal.invariant-loop-unit
invariant-loop-unit g l =
    Adds (g.W.Write.contents l.fn.out) (g.W.Write.contents l.out) l.fn.sink l.sink l.fn.room l.room (flat_map (styled l.fn.style) (take l.unit-index l.units))
