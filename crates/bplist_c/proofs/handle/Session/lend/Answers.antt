use Rattle.std.proofs.Common.{refl}
use Rattle.bplist_c.proofs.KeptLists.{anywhere}
use Rattle.bplist_c.proofs.handle.Session.lend.Goals as goal

pub new-requires-3 : goal.new-requires-3
new-requires-3 c =
    rw c.replace-certificate.ensures.value (anywhere _ c.requires refl c.new-2.result.octets c.new-2.ensures.octets)
