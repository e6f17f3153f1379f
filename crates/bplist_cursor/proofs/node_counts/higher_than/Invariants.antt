use Rattle.bplist_cursor.specs.ObjectSizes.{AreHigher}
use Rattle.bplist_cursor.proofs.PassSteps.{AreRising}
use Rattle.bplist_cursor.proofs.node_counts.higher_than.Given as goal

-- the objects so far
abbrev pub invariant-loop-n : goal.invariant-loop-n
invariant-loop-n g l = record {
  higher : AreHigher l.checked.certificate.heights l.height l.n l.order.items;
  rising : AreRising l.n l.order.items;
}
