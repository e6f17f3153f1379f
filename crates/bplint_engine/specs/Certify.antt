-- What `certify` says. Source: profile.
use Rattle.std.specs.Prelude.{◌≡◌, ◌++◌, ℕ, List, codes, Bool, MatchBool, if◌then◌else◌, Option, Result, Ok, Err}
use Rattle.std.specs.Io.KnownBytes.{Appends, Keeps}
use Rattle.hex.specs.Hex.{encode_lower}
use Rattle.bplist_octets.specs.Sending.{SendsPart}
use Rattle.bplist_objects.specs.declared.frame.Frame.{Frame}
use Rattle.bplist_objects.specs.Frame.{IsFrame}
use Rattle.bplist_cert.specs.Encoding.{octets_of}
use Rattle.bplist_cert.specs.Lists.{Lists, IsCertificate}
use Rattle.bplist_lint.specs.declared.answer.Lint.{Lint}
use Rattle.bplist_lint.specs.Linted.{IsLintedBy}
use Rattle.bplist_lint.specs.Upgraded.{IsUpgraded}
use Rattle.bplint_lines.specs.declared.fault.RunFault.{RunFault}
use Rattle.bplint_lines.specs.declared.fault.RunFault.TheVariants as faults
use Rattle.bplint_lines.specs.declared.fault.Said.{Said}
use Rattle.bplint_lines.specs.declared.fault.Said.TheVariants.{All}
use Rattle.bplint_lines.specs.Answers.{Answer, gives, refuses}
use Rattle.bplint_engine.specs.Lint.{LintSays}

-- a certificate's bytes, or their hexadecimal text and a line feed
abbrev pub written : Bool → List ℕ → List ℕ
written hex octets = if hex then encode_lower octets ++ codes "\n" else octets

-- `certify` writes the certificate of the least heights, or with `sorted` one with these heights and key lists
abbrev pub CertifySays : Bool → Bool → List ℕ → Answer → Type 0
CertifySays sorted hex f (gives said bytes) = (F : Frame) × (lint : Lint) × (lists : Lists) × IsFrame f F × IsLintedBy f F lint
    × MatchBool sorted (IsCertificate lists × ∥ IsUpgraded f F lint.certificate.heights lists ∥₁) (lists ≡ lint.certificate)
    × (said ≡ All) × (bytes ≡ written hex (octets_of lists))
CertifySays sorted hex f (refuses fault) = LintSays f (refuses fault)

-- the bytes of a certificate were sent, or a first part of them if a write failed; nothing if memory was refused
abbrev pub SendsCertificate : Option (List ℕ) → Option (List ℕ) → Bool → Lists → Result Said RunFault → Type 0
SendsCertificate old new hex lists (Ok said) = IsCertificate lists × (said ≡ All) × Appends old new (written hex (octets_of lists))
SendsCertificate old new hex lists (Err (faults.Write sent)) = IsCertificate lists × SendsPart old new 0 (written hex (octets_of lists)) sent
SendsCertificate old new hex lists (Err faults.Memory) = Keeps old new
SendsCertificate old new hex lists (Err _) = ⊥
