use Rattle.std.proofs.Common.{arith, length}
use Rattle.bplist_objects.proofs.BodyLaws.{refs_within}
use Rattle.bplist_objects.proofs.refs.read_refs.Goals as goal

pub overflow_mul-from : goal.overflow_mul-from
overflow_mul-from g c =
    omega (arith, refs_within (length (g.S.Source.means c.args.src.now).octets) c.args.from (length c.args.into.now) c.args.frame.now c.args.head.now c.requires.safe c.requires.head c.requires.within)

pub overflow_add-head : goal.overflow_add-head
overflow_add-head g c =
    omega (arith, refs_within (length (g.S.Source.means c.args.src.now).octets) c.args.from (length c.args.into.now) c.args.frame.now c.args.head.now c.requires.safe c.requires.head c.requires.within)

pub numbers_in-requires : goal.numbers_in-requires
numbers_in-requires g c =
    refs_within (length (g.S.Source.means c.args.src.now).octets) c.args.from (length c.args.into.now) c.args.frame.now c.args.head.now c.requires.safe c.requires.head c.requires.within
