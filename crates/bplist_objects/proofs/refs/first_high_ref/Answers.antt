use Rattle.std.proofs.Common.{arith}
use Rattle.bplist_objects.proofs.BodyLaws.{refs_fit}
use Rattle.bplist_objects.proofs.refs.first_high_ref.Goals as goal

pub refs_of-requires : goal.refs_of-requires
refs_of-requires g c =
    let fit = refs_fit c.args.frame.now.ref_size c.args.head.now.count c.args.head.now.kind c.requires.safe.ref_low in
    omega arith

pub first_not_below-requires : goal.first_not_below-requires
first_not_below-requires g c =
    let fit = refs_fit c.args.frame.now.ref_size c.args.head.now.count c.args.head.now.kind c.requires.safe.ref_low in
    rw c.refs_of.ensures (omega arith)
