use Rattle.std.proofs.Common.{arith}
use Rattle.bplist_objects.proofs.BodyLaws.{refs_within}
use Rattle.bplist_objects.proofs.framed.ref_place.Goals as goal

pub overflow_mul-result : goal.overflow_mul-result
overflow_mul-result g c = rw c.frame.ensures.frame (omega (arith, c.len-len.ensures, refs_within _ c.args.i 1 _ c.args.head.now c.frame.ensures.framed.safe.safe c.requires.head (omega arith)))

pub overflow_add-result : goal.overflow_add-result
overflow_add-result g c = rw c.frame.ensures.frame (omega (arith, c.len-len.ensures, refs_within _ c.args.i 1 _ c.args.head.now c.frame.ensures.framed.safe.safe c.requires.head (omega arith)))
