use Rattle.std.proofs.Common.{◌≡◌}
use Rattle.bplint_engine.specs.Walks.{IsReady, most_rows}
use Rattle.bplint_engine.proofs.listing.put_rows.Given as goal

-- the walk can go on
abbrev pub invariant-loop-walk : goal.invariant-loop-walk
invariant-loop-walk g l = record {
  frame : l.checked.frame ≡ l.fn.checked.frame;
  ready : IsReady l.fn.checked.frame l.walk;
}

abbrev pub decreases-loop-walk : goal.decreases-loop-walk
decreases-loop-walk g l = most_rows l.walk
