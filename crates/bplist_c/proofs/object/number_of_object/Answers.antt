use Rattle.std.proofs.Common.{rules}
use Rattle.bplist_c.proofs.Contents.{IsNumberKind, number_count}
use Rattle.bplist_c.proofs.object.number_of_object.Goals as goal

pub bits_of-requires-clause-high : goal.bits_of-requires-clause-high
bits_of-requires-clause-high c =
    let head = c.in_ok-head.head in
    let number : IsNumberKind head.kind = search rules in
    (number_count head.kind head.count number c.in_ok-head.ensures.body.may).1
