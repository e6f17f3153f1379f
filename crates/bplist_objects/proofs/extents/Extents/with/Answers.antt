use Rattle.std.proofs.Common.{◌-◌, arith}
use Rattle.bplist_objects.proofs.extents.Extents.with.Goals as goal

pub returns-clause-sum : goal.returns-clause-sum
returns-clause-sum c = λ f ns F before takes. (c.args.«end» - c.args.place, c.args.self.octets, takes, before, omega arith)
