-- What `check` says. Source: profile.
use Rattle.std.specs.Prelude.{◌≡◌, ◌++◌, ℕ, List, codes, slice_index, Result, MatchResult}
use Rattle.bplist_objects.specs.declared.frame.Frame.{Frame}
use Rattle.bplist_cert.specs.CertifiedFile.{IsVouchedFor, IsVouchingFault}
use Rattle.bplist_cert.specs.Encoding.{octets_of, IsCertRefusal}
use Rattle.bplist_cert.specs.Lists.{Lists, IsCertificate}
use Rattle.bplist_cert.specs.declared.certificate.CertRefusal.{CertRefusal}
use Rattle.bplint_lines.specs.declared.fault.RunFault.TheVariants.{Fault}
use Rattle.bplint_lines.specs.declared.fault.Said.TheVariants.{All}
use Rattle.bplint_lines.specs.Answers.{Answer, gives, refuses}
use Rattle.bplint_lines.specs.OutputLines.{check_line}

-- the result of decoding these bytes: the certificate that has them, or why no certificate has them
abbrev pub IsDecoded : List ℕ → Result Lists CertRefusal → Type 0
IsDecoded cert decoded = MatchResult decoded (λ lists. IsCertificate lists × (cert ≡ octets_of lists)) (IsCertRefusal cert)

-- `check` writes the number of objects and the top's height, or returns the first fault of certificate bytes and file
abbrev pub CheckSays : List ℕ → List ℕ → Answer → Type 0
CheckSays f cert (gives said bytes) = (F : Frame) × (lists : Lists) × IsVouchedFor f cert F lists × (said ≡ All)
    × (bytes ≡ check_line F.objects (slice_index lists.heights F.top.0) ++ codes "\n")
CheckSays f cert (refuses fault) = elim fault [ Fault x ↦ IsVouchingFault f cert x | _ ↦ ⊥ ]
