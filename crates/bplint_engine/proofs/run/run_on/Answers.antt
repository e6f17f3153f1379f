use Rattle.std.proofs.Common.{ap, ◌∙◌, []}
use Rattle.std.specs.Prelude.{if◌then◌else◌}
use Rattle.bplint_engine.specs.Commands.{Asked}
use Rattle.bplint_engine.specs.Said.{takes_cert}
use Rattle.bplint_engine.proofs.DecodedCertificates.{decoded_as, left_whole}
use Rattle.bplint_engine.proofs.run.run_on.Goals as goal

pub returns-clause-exact : goal.returns-clause-exact
returns-clause-exact g c = λ honest.
    let cert = c.args.cert.now in
    let shown = c.cert_for.ensures ∙ ap (λ (x : Asked). if takes_cert x.verb then cert else []) c.command.view_is in
    let decoded = rw shown at (decoded_as _ _ c.from_octets-decoded.ensures.yes c.from_octets-decoded.ensures.refused) in
    left_whole c.args.command.now (g.S.Source.means c.args.src).octets cert _ _ _ (c.run_certified.ensures.exact honest _ decoded)
