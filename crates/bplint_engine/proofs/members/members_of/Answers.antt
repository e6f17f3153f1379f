use Rattle.std.proofs.Common.{arith}
use Rattle.bplint_engine.proofs.members.members_of.Goals as goal

pub returns-in-Dict-clause-room : goal.returns-in-Dict-clause-room
returns-in-Dict-clause-room c = λ dict. omega (arith, (c.requires c.in-Dict.count).2 c.in-Dict.is, c.ranges.length)
