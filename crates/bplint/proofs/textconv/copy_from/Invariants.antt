use Rattle.std.proofs.Common.{◌≡◌, ◌≤◌, ◌-◌, length}
use Rattle.bplint.proofs.textconv.copy_from.Given as goal

-- the source is unchanged, and no read goes past its end
abbrev pub invariant-loop-done : goal.invariant-loop-done
invariant-loop-done g l =
    let means = g.S.Source.means in
    record {
      same : means l.src ≡ means l.fn.src;
      reached : l.done ≤ l.length;
      whole : l.length ≡ length (means l.fn.src).octets;
    }

abbrev pub decreases-loop-done : goal.decreases-loop-done
decreases-loop-done g l = l.length - l.done
