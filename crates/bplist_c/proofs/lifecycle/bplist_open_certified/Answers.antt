use Rattle.bplist_cert.specs.CertifiedFile.{IsVouchingFault}
use Rattle.bplist_lint.specs.Refusals.{no_circle}
use Rattle.bplist_c.specs.Lifecycle.{IsPair}
use Rattle.bplist_c.proofs.OpenedHandles.{opens}
use Rattle.bplist_c.proofs.lifecycle.bplist_open_certified.Goals as goal

pub returns-clause-exact : goal.returns-clause-exact
returns-clause-exact c = λ closed.
    let f = c.args.file.now in
    let octets = c.args.certificate.now in
    let found = c.accept_pair-accepted.ensures in
    opens c.args.file c.args.sorted (IsPair f octets) (IsVouchingFault f octets) no_circle c.keep.new.handle c.keep.new.out c.keep.result
    found.0 c.accept_pair-accepted.result found.1 (found.2 c.args.sorted) c.keep.ensures
