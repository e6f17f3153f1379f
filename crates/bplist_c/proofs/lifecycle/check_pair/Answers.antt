use Rattle.std.proofs.Common.{inr, refl}
use Rattle.bplist_c.proofs.lifecycle.check_pair.Goals as goal

pub returns-in-Err-Fault-default-default : goal.returns-in-Err-Fault-default-default
returns-in-Err-Fault-default-default c =
    let fault = (rw (c.new.ensures.octets, c.in-Err-Fault-default-default.field-0-0-is) at c.in-Err-Fault-default-default.ensures.fault) refl in
    inr (c.in_ok-certificate.certificate, c.in_ok-certificate.ensures.yes.0, c.in_ok-certificate.ensures.yes.1, fault)
