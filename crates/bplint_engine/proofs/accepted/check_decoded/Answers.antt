use Rattle.bplint_engine.proofs.RefusedCertificates.{octets_refused, check_refused}
use Rattle.bplint_engine.proofs.accepted.check_decoded.Goals as goal

pub returns-in-Err-clause-exact : goal.returns-in-Err-clause-exact
returns-in-Err-clause-exact g c =
    λ honest cert made. rw c.from.ensures (octets_refused (g.S.Source.means c.args.src).octets cert c.in-Err.refusal (rw c.in-Err.is at made))

pub returns-clause-exact : goal.returns-clause-exact
returns-clause-exact g c =
    λ honest cert made. let r = c.from-in-Err-check.ensures in
    let certificate = rw c.in-Ok.is at made in
    rw r (check_refused _ _ _ _ certificate.0 certificate.1 (c.in-Err-check.ensures.fault honest))
