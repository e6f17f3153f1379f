use Rattle.std.proofs.Common.{◌≡◌, ◌≤◌, length}
use Rattle.bplist_hints.proofs.look.zeros_at_end.Given as goal

-- the source is unchanged, and no read goes past its end
abbrev pub invariant-loop-end : goal.invariant-loop-end
invariant-loop-end g l =
    let means = g.S.Source.means in
    record {
      same : means l.src ≡ means l.fn.src;
      from : l.stop ≤ l.end;
      reached : l.end ≤ length (means l.fn.src).octets;
    }

abbrev pub decreases-loop-end : goal.decreases-loop-end
decreases-loop-end g l = l.end
