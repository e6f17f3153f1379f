use Rattle.std.proofs.Common.{IsTrue}
use Rattle.bplist_objects.specs.Scan.{AreBelow}
use Rattle.bplist_objects.proofs.scan.is_block_below.Given as goal

-- the numbers so far are below the bound, unless one was found that is not
abbrev pub invariant-loop-i : goal.invariant-loop-i
invariant-loop-i l = IsTrue l.below → AreBelow l.block 0 l.size l.i l.bound
