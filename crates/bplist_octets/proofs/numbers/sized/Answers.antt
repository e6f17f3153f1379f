use Rattle.std.proofs.Common.{rules}
use Rattle.bplist_octets.proofs.Spelled.{num-big, num-big_number}
use Rattle.bplist_octets.proofs.numbers.sized.Goals as goal

pub returns-in-1 : goal.returns-in-1
returns-in-1 c = (search (rules, c.read_uint.ensures, num-big 1 c.args.l.now c.in-1.is))

pub returns-in-2 : goal.returns-in-2
returns-in-2 c = (search (rules, c.read_u16.ensures, num-big 2 c.args.l.now c.in-2.is))

pub returns-in-3 : goal.returns-in-3
returns-in-3 c = (search (rules, c.read_uint-in-3.ensures, num-big 3 c.args.l.now c.in-3.is))

pub returns-in-4 : goal.returns-in-4
returns-in-4 c = (search (rules, c.read_u32.ensures, num-big 4 c.args.l.now c.in-4.is))

pub returns-in-8 : goal.returns-in-8
returns-in-8 c = (search (rules, c.read_u64.ensures, num-big 8 c.args.l.now c.in-8.is))

pub returns-in_default : goal.returns-in_default
returns-in_default c = (search (rules, c.read_uint-in_default.ensures, num-big_number c.args.l.now))
