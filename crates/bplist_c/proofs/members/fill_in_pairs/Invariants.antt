use Rattle.bplist_c.proofs.MemberSteps.{AreInTurn}
use Rattle.bplist_c.proofs.members.fill_in_pairs.Given as goal

-- the keys and values so far are written in turn
abbrev pub invariant-loop-k : goal.invariant-loop-k
invariant-loop-k l = AreInTurn l.checked.source.octets l.checked.frame l.head l.from l.keys l.values l.into l.k
