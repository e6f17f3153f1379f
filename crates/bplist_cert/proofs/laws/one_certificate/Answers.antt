use Rattle.bplist_cert.proofs.CertificateBytes.{octets_once}
use Rattle.bplist_cert.proofs.laws.one_certificate.Goals as goal

pub returns : goal.returns
returns c = octets_once
