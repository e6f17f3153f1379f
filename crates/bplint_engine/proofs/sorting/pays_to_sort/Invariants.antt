use Rattle.bplist_cursor.specs.Kept.{IsSameFile}
use Rattle.bplint_engine.proofs.sorting.pays_to_sort.Given as goal

-- so far nothing has changed
abbrev pub invariant-loop-query : goal.invariant-loop-query
invariant-loop-query g l = record { same : IsSameFile l.fn.checked l.checked }
