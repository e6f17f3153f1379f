-- What opening a file gives C. Source: profile.
use Rattle.std.specs.Prelude.{◌≡◌, ◌≢◌, ◌⊎◌, ℕ, List, length, slice_index, Bool, false, IsTrue, IsSome, Some, Result, Ok, Err}
use denote.Ref.{Bor}
use Rattle.bplist_octets.specs.Slices.{source_over}
use Rattle.bplist_objects.specs.declared.frame.Frame.{Frame}
use Rattle.bplist_objects.specs.Frame.{IsFrame}
use Rattle.bplist_cert.specs.CertifiedFile.{IsVouchedFor}
use Rattle.bplist_cert.specs.CheckedFile.{CheckedFile}
use Rattle.bplist_cert.specs.Encoding.{octets_of}
use Rattle.bplist_cert.specs.Lists.{Lists}
use Rattle.bplist_lint.specs.declared.answer.Lint.{Lint}
use Rattle.bplist_lint.specs.declared.answer.LintRefusal.{LintRefusal}
use Rattle.bplist_c.specs.declared.accepted.Accepted.{Accepted}
use Rattle.bplist_c.specs.declared.handle.BplistHandle.{BplistHandle}
use Rattle.bplist_c.specs.declared.handle.Session.{Session}
use Rattle.bplist_c.specs.declared.status.Status.{Status}
use Rattle.bplist_c.specs.declared.status.Status.TheVariants as statuses
use Rattle.bplist_c.specs.declared.verdict.BplistVerdict.{BplistVerdict}
use Rattle.bplist_c.specs.Sessions.{IsSessionOf}
use Rattle.bplist_c.specs.Statuses.{status_number}
use Rattle.bplist_c.specs.Verdicts.{ShowsLint, refused_told}
use Rattle.bplist_c.specs.declared.verdict.TheConstants.{NO_VERDICT}

-- the checked file consists of these bytes and of a certificate with these heights, which is this one if it has key
-- lists already or they are not asked for
abbrev pub IsCheckedFor : Bor (List ℕ) → Lists → Bool → CheckedFile → Type 0
IsCheckedFor file certificate sorted checked = (checked.source ≡ source_over file) × (checked.certificate.heights ≡ certificate.heights)
    × (IsSome certificate.keys → checked.certificate ≡ certificate) × (sorted ≡ false → checked.certificate ≡ certificate)

-- the handle holds a session of these bytes, their length and these heights; the certificate has key lists if they are
-- asked for, and is this one if it has them already or they are not asked for
abbrev pub IsOpened : List ℕ → Lists → Bool → BplistHandle → Type 0
IsOpened f certificate sorted h = (h.length ≡ length f) × ((s : Session) × (h.held.value ≡ Some s) × IsSessionOf f s
    × (s.certificate.heights ≡ certificate.heights) × (IsSome certificate.keys → s.certificate ≡ certificate)
    × (sorted ≡ false → s.certificate ≡ certificate) × (IsTrue sorted → IsSome s.certificate.keys))

-- the linter's answer as a checked file with the verdict on it, or as status and verdict
abbrev pub Accepts : Bool → Bor (List ℕ) → Result Lint LintRefusal → Result Accepted (Status × BplistVerdict) → Type 0
Accepts sorted file (Ok lint) (Ok accepted) =
    IsCheckedFor file lint.certificate sorted accepted.checked × ShowsLint file.now (Ok lint) accepted.verdict 0
Accepts sorted file (Err why) (Err told) = told ≡ refused_told why
Accepts sorted file answer result = ⊥

module _ (sorted : Bool) (handle : BplistHandle) (verdict : BplistVerdict) (status : ℕ) where
  -- the handle is open, and verdict and status are those of the accepted file; or memory was refused; or the file was
  abbrev pub KeepsHandle : Result Accepted (Status × BplistVerdict) → Type 0
  KeepsHandle (Ok accepted) = let checked = accepted.checked in
      ((status ≡ 0) × (verdict ≡ accepted.verdict) × IsOpened checked.source.octets checked.certificate sorted handle)
      ⊎ ((status ≡ status_number statuses.Memory) × (verdict ≡ NO_VERDICT) × (handle.length ≡ 0))
  KeepsHandle (Err told) = (status ≡ status_number told.0) × (verdict ≡ told.1) × (handle.length ≡ 0)

-- these bytes are a valid certificate of the file; its verdict has the height of the top and no counts
abbrev pub IsPair : List ℕ → List ℕ → Lint → Type 0
IsPair f octets lint = (F : Frame) × IsFrame f F × IsVouchedFor f octets F lint.certificate
    × (lint.height ≡ slice_index lint.certificate.heights F.top.0) × (lint.reached ≡ 0) × (lint.references ≡ 0)

-- the bytes of the handle's certificate, or that memory was refused, or that the handle is closed
abbrev pub CertificateSays : BplistHandle → Result (List ℕ) Status → Type 0
CertificateSays h (Ok bytes) = (s : Session) × (h.length ≢ 0) × (h.held.value ≡ Some s) × (bytes ≡ octets_of s.certificate)
CertificateSays h (Err why) = ((h.length ≡ 0) × (why ≡ statuses.Closed)) ⊎ ((h.length ≢ 0) × (why ≡ statuses.Memory))
