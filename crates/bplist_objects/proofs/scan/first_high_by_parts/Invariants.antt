use Rattle.std.proofs.Common.{◌≡◌, ◌≤◌, ◌+◌, ◌-◌, IsTrue}
use Rattle.bplist_objects.specs.Scan.{AreBelow}
use Rattle.bplist_objects.proofs.scan.first_high_by_parts.Given as goal

-- the source is unchanged, and the bytes so far are below 128
abbrev pub invariant-loop-done : goal.invariant-loop-done
invariant-loop-done g l =
    let means = g.S.Source.means in
    record {
      same : means l.src ≡ means l.fn.src;
      asked : g.S.Source.asked l.src ≤ g.S.Source.asked l.fn.src + l.done;
      reached : l.done ≤ l.count;
      low : IsTrue (means l.fn.src).honest → AreBelow (means l.fn.src).octets l.place 1 l.done 128;
    }

abbrev pub decreases-loop-done : goal.decreases-loop-done
decreases-loop-done g l = l.count - l.done
