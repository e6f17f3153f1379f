-- Reads after reads.
use Rattle.std.proofs.Common.{◌∙◌, ap}
use Rattle.bplist_cert.specs.CheckedFile.{CheckedFile}
use Rattle.bplist_cursor.specs.Kept.{IsSameFile}

-- what two calls that only read leave
pub same_file : (old : CheckedFile) {mid new : CheckedFile} → IsSameFile mid new → IsSameFile old mid → IsSameFile old new
same_file old {new = new} p q = p ∙ ap (λ (file : CheckedFile). record file { asked = new.asked }) q
