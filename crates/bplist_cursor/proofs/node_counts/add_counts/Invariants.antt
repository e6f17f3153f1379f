use Rattle.std.proofs.Common.{◌≡◌, ◌≤◌, ◌+◌, drop, slice_index, sum_by}
use Rattle.bplist_cursor.specs.Nodes.{cap}
use Rattle.bplist_cursor.proofs.node_counts.add_counts.Given as goal

-- what is left to add to the total so far gives what all gives
abbrev pub invariant-loop-n : goal.invariant-loop-n
invariant-loop-n l =
    record {
      fits : l.total ≤ 18446744073709551615;
      left : cap (l.total + sum_by (slice_index l.counts) (drop l.n-index l.objects)) ≡ cap (l.fn.start + sum_by (slice_index l.counts) l.objects);
    }
