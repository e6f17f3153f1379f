use Rattle.bplist_cert.specs.Heights.{AreMetBy}
use Rattle.bplist_cert.proofs.heights.first_unmet_in.Given as goal

-- the references so far have heights as wanted
abbrev pub invariant-loop-i : goal.invariant-loop-i
invariant-loop-i l = AreMetBy l.heights l.wanted l.refs l.i
