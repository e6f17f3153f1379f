use Rattle.std.proofs.Common.{◌≡◌, IsTrue, List, ℕ}
use Rattle.bplist_cursor.specs.Kept.{IsSameFile}
use Rattle.bplint_engine.specs.Walks.{IsReady, RowsLeftIn, most_rows}
use Rattle.bplint_engine.proofs.RowSteps.{PutsOn}
use Rattle.bplint_engine.proofs.row_lines.put_rows.Given as goal

-- the file is unchanged and the walk can go on; over an honest source a first part of the lines was put in, and
-- the walk still gives the rest
abbrev pub invariant-loop-row : goal.invariant-loop-row
invariant-loop-row g l = record {
  same : IsSameFile l.fn.checked l.checked;
  ready : IsReady l.fn.checked.frame l.walk;
  style : l.lines.style ≡ l.fn.lines.style;
  puts : IsTrue l.fn.checked.source.honest → (left : List (List ℕ)) → RowsLeftIn l.fn.lines.style l.fn.checked l.fn.walk left
      → PutsOn l.fn.lines.style l.fn.checked (g.W.Write.contents l.fn.out) (g.W.Write.contents l.out) l.fn.lines.sink l.lines.sink l.walk left;
}

abbrev pub decreases-loop-row : goal.decreases-loop-row
decreases-loop-row g l = most_rows l.walk
