use Rattle.std.proofs.Common.{◌≤◌}
use Rattle.bplist_hints.proofs.damage.trailer_before.Given as goal

abbrev pub invariant-loop-octet : goal.invariant-loop-octet
invariant-loop-octet l = l.left ≤ 32
