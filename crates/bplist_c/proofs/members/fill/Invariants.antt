use Rattle.std.proofs.Common.{◌≤◌, ◌-◌, length}
use Rattle.bplist_c.proofs.MemberSteps.{AreSpelledTo}
use Rattle.bplist_c.proofs.members.fill.Given as goal

-- the members so far are written
abbrev pub invariant-loop-done : goal.invariant-loop-done
invariant-loop-done l = record {
  reached : l.done ≤ length l.initial.into;
  so_far : AreSpelledTo l.checked.source.octets l.checked.frame l.head l.from l.done l.into;
}

abbrev pub decreases-loop-done : goal.decreases-loop-done
decreases-loop-done l = length l.initial.into - l.done
