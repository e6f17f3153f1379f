use Rattle.std.proofs.Common.{◌∙◌, arith, refl}
use Rattle.bplist_cert.specs.Versions.{is_keyed}
use Rattle.bplist_cert.proofs.CertificateBytes.{front_is, length_refused}
use Rattle.bplist_cert.proofs.decoding.header_of.Goals as goal

pub returns-else-fits-clause-exact : goal.returns-else-fits-clause-exact
returns-else-fits-clause-exact g c = λ honest.
    let f = (g.S.Source.means c.args.src.now).octets in
    let front = c.in_ok-read_at.ensures.filled honest ∙ front_is f _ c.min.result refl (omega arith) in
    length_refused f c.read_at.new.into (is_keyed c.in-Some.version) c.count_in-count.result c.len-len.result front c.len-len.ensures c.in-Some.ensures
    c.count_in-count.ensures c.count_in-count.type_inv (λ fit. grind (arith, c.fits.ensures.1 fit, c.if-fits.false))
