use Rattle.std.proofs.Common.{sym}
use Rattle.bplist_ascii.proofs.WalkSteps.{mark_odd, mark_even}
use Rattle.bplist_ascii.proofs.walk.separator.Goals as goal

pub returns-in-Dict : goal.returns-in-Dict
returns-in-Dict c = rw c.in-Dict.is (sym (mark_odd c.args.i c.if-i-eq1.true))

pub returns-in-Dict-2 : goal.returns-in-Dict-2
returns-in-Dict-2 c = rw c.in-Dict-2.is (sym (mark_even c.args.i c.if-i-eq0.false c.if-i-eq1.false))
