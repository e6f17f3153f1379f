use Rattle.std.proofs.Common.{◌+◌, ◌*◌, ◌++◌, ◌∙◌, None, Some, sym, ap, arith}
use Rattle.std.proofs.lemmas.List.{drop_all}
use Rattle.std.specs.Int.{bytes_high_first}
use Rattle.bplist_cert.specs.Encoding.{magic}
use Rattle.bplist_cert.specs.Versions.{is_keyed}
use Rattle.bplist_cert.proofs.CertificateBytes.{header_refused, octets_once, whole}
use Rattle.bplist_cert.proofs.CheckSteps.{on_err}
use Rattle.bplist_cert.proofs.certificate.Certificate.from_source.Goals as goal

pub returns-in_err-header-clause-exact : goal.returns-in_err-header-clause-exact
returns-in_err-header-clause-exact g c = λ honest certificate is e.
    on_err _ _ _ _ c.from_residual.ensures.1 (header_refused (g.S.Source.means c.args.src.now).octets certificate _ is e (c.in_err-header.ensures.exact honest))

pub returns-in-Plain-clause-yes : goal.returns-in-Plain-clause-yes
returns-in-Plain-clause-yes g c = λ honest.
    let f = (g.S.Source.means c.args.src.now).octets in
    let count = c.in_ok-header.header.count in
    let heights = (rw c.in_ok-header.ensures.reads at c.in_ok-heights.ensures.spelled) honest in
    let fits = rw c.in-Plain.is at c.in_ok-header.ensures.fits in
    whole f c.in_ok-heights.heights.items None count
    (c.in_ok-header.ensures.exact honest ∙ ap (λ version. magic (is_keyed version) ++ bytes_high_first 8 count) c.in-Plain.is)
    c.in_ok-heights.ensures.count (omega (arith, c.in_ok-heights.ensures.count)) c.in_ok-heights.ensures.words tt tt heights
    (drop_all (16 + 4 * count) f (omega (arith, fits)))

pub returns-in-Plain-clause-exact : goal.returns-in-Plain-clause-exact
returns-in-Plain-clause-exact g c = λ honest certificate is e.
    let y = returns-in-Plain-clause-yes g c honest in
    octets_once _ certificate y.0 is (sym y.1 ∙ e)

pub returns-in_ok-keys-in-Keyed-clause-yes : goal.returns-in_ok-keys-in-Keyed-clause-yes
returns-in_ok-keys-in-Keyed-clause-yes g c = λ honest.
    let f = (g.S.Source.means c.args.src.now).octets in
    let count = c.in_ok-header.header.count in
    let begun = c.in_ok-header.ensures.reads in
    let heights = (rw begun at c.in_ok-heights.ensures.spelled) honest in
    let behind = (rw (c.in_ok-heights.ensures.reads ∙ begun) at c.in_ok-keys-in-Keyed.ensures.spelled) honest in
    whole f c.in_ok-heights.heights.items (Some c.in_ok-keys-in-Keyed.keys) count
    (c.in_ok-header.ensures.exact honest ∙ ap (λ version. magic (is_keyed version) ++ bytes_high_first 8 count) c.in-Keyed.is)
    c.in_ok-heights.ensures.count (omega (arith, c.in_ok-heights.ensures.count)) c.in_ok-heights.ensures.words
    c.in_ok-keys-in-Keyed.ensures.words c.in_ok-keys-in-Keyed.ensures.count heights behind

pub returns-in_ok-keys-in-Keyed-clause-exact : goal.returns-in_ok-keys-in-Keyed-clause-exact
returns-in_ok-keys-in-Keyed-clause-exact g c = λ honest certificate is e.
    let y = returns-in_ok-keys-in-Keyed-clause-yes g c honest in
    octets_once _ certificate y.0 is (sym y.1 ∙ e)
