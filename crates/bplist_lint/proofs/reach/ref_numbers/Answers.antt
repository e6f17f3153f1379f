use Rattle.std.proofs.Common.{arith}
use Rattle.bplist_objects.specs.declared.frame.Frame.{Frame}
use Rattle.bplist_objects.specs.Framed.{frame_in}
use Rattle.bplist_objects.proofs.BodyLaws.{refs_fit}
use Rattle.bplist_lint.proofs.ReachSteps.{size_small, numbers_low}
use Rattle.bplist_lint.proofs.reach.ref_numbers.Goals as goal

pub refs_of-requires : goal.refs_of-requires
refs_of-requires g c =
    let F : Frame = frame_in (g.P.Source.means c.args.src.now) in
    let h = c.args.head.now in
    let fit = refs_fit F.ref_size h.count h.kind c.frame-frame.ensures.framed.safe.safe.ref_low in
    omega (arith, fit.1, c.requires.body)

pub overflow_add-end : goal.overflow_add-end
overflow_add-end g c =
    let F : Frame = frame_in (g.P.Source.means c.args.src.now) in
    let safe = c.frame-frame.ensures.framed.safe in
    let low = numbers_low (g.P.Source.means c.args.src.now).octets F c.args.head.now safe.safe.ref_low c.requires in
    omega (arith, low, size_small F, safe.small, c.place_index-first.ensures, c.refs_of.ensures, safe.safe.ref_high)

pub returns-clause-within : goal.returns-clause-within
returns-clause-within g c =
    let low = numbers_low (g.P.Source.means c.args.src.now).octets (frame_in (g.P.Source.means c.args.src.now)) c.args.head.now c.frame-frame.ensures.framed.safe.safe.ref_low c.requires in
    omega (arith, low, c.place_index-first.ensures, c.refs_of.ensures)
