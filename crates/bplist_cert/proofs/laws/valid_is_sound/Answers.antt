use Rattle.bplist_cert.proofs.VouchedObjects.{sound}
use Rattle.bplist_cert.proofs.laws.valid_is_sound.Goals as goal

pub returns : goal.returns
returns c = sound
