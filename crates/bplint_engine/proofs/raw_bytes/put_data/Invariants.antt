use Rattle.std.proofs.Common.{◌≡◌, ◌≤◌, ◌-◌, ℕ, List, length, take, IsTrue}
use Rattle.bplist_octets.specs.Octets.{part}
use Rattle.bplist_octets.specs.Sending.{Takes}
use Rattle.bplist_cursor.specs.Kept.{IsSameFile}
use Rattle.bplint_engine.proofs.raw_bytes.put_data.Given as goal

-- the file is unchanged, and the bytes so far were put in
abbrev pub invariant-loop-done : goal.invariant-loop-done
invariant-loop-done g l =
    let file = l.fn.checked in
    record {
      same : IsSameFile file l.checked;
      reached : l.done ≤ l.head.count;
      so_far : IsTrue file.source.honest → Takes (g.W.Write.contents l.fn.out) (g.W.Write.contents l.out) l.fn.sink l.sink
          (take l.done (part file.source.octets l.head.body l.head.count));
      whole : (bytes : List ℕ) × (length bytes ≡ l.done) × Takes (g.W.Write.contents l.fn.out) (g.W.Write.contents l.out) l.fn.sink l.sink bytes;
    }

abbrev pub decreases-loop-done : goal.decreases-loop-done
decreases-loop-done g l = l.head.count - l.done
