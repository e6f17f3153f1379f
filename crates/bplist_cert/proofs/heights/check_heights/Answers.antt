use Rattle.bplist_objects.specs.Framed.{frame_in}
use Rattle.bplist_cert.proofs.CheckSteps.{heights_checked}
use Rattle.bplist_cert.proofs.heights.check_heights.Goals as goal

pub returns-clause-exact : goal.returns-clause-exact
returns-clause-exact g c = λ honest.
    let m = g.P.Source.means c.args.src.now in
    let met = c.in_ok-check_refs.ensures.exact honest in
    heights_checked m.octets (frame_in m) c.args.heights.now c.args.n.0 c.args.head.now c.check_refs-2.result met ((rw c.in_ok-check_refs.ensures.reads at c.check_refs-2.ensures.exact) honest)
