use Rattle.std.proofs.Common.{◌≤◌, ◌-◌, take, IsTrue}
use Rattle.std.specs.List.{flat_map}
use Rattle.bplist_octets.specs.Octets.{part}
use Rattle.bplist_ascii.specs.BoundedWrites.{hex_digits}
use Rattle.bplist_ascii.specs.BoundedWrites.{AddsText}
use Rattle.bplist_cursor.specs.Kept.{IsSameFile}
use Rattle.bplist_ascii.proofs.leaves.write_data_body.Given as goal

-- the file is unchanged, and the bytes so far were put in
abbrev pub invariant-loop-done : goal.invariant-loop-done
invariant-loop-done g l =
    let file = l.fn.checked in
    record {
      same : IsSameFile file l.checked;
      reached : l.done ≤ l.head.count;
      so_far : AddsText (g.W.Write.contents l.fn.out) (g.W.Write.contents l.out) l.fn.sink l.sink l.fn.room l.room
          (IsTrue file.source.honest) (flat_map hex_digits (take l.done (part file.source.octets l.head.body l.head.count)));
    }

abbrev pub decreases-loop-done : goal.decreases-loop-done
decreases-loop-done g l = l.head.count - l.done
