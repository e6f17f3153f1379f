use Rattle.std.proofs.Common.{refl}
use Rattle.bplist_objects.proofs.FrameTies.{entry_fault}
use Rattle.bplist_objects.proofs.frame.frame_of.Goals as goal

pub returns-in-Some-clause-exact : goal.returns-in-Some-clause-exact
returns-in-Some-clause-exact g c = λ honest.
    let f = (g.S.Source.means c.args.src.now).octets in
    let found = rw (c.in_ok-frame.ensures.reads, c.in-Some.is) at c.in_ok-first_high_entry.ensures.found in
    rw (c.into.ensures, c.high_entry.ensures) (entry_fault f c.in_ok-frame.frame _ (c.in_ok-frame.ensures.exact honest) refl (c.in-Some.n.0, found honest, refl, refl))
