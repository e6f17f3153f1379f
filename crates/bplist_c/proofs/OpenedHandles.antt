-- The result of opening a file: the linter's answer, or that of a certificate, after its session is kept.
use Rattle.std.proofs.Common.{◌≡◌, ◌∙◌, ℕ, List, Bool, IsSome, IsTrue, Result, Ok, Err, inl, inr, refl, subst, sym}
use Rattle.std.specs.Prelude.{MatchResult}
use denote.Ref.{Bor}
use Rattle.bplist_octets.specs.Meaning.{Meaning}
use Rattle.bplist_octets.specs.Slices.{source_over}
use Rattle.bplist_objects.specs.declared.fault.Fault.{Fault}
use Rattle.bplist_objects.specs.Frame.{IsFrame}
use Rattle.bplist_cert.specs.CheckedFile.{CheckedFile, IsChecked}
use Rattle.bplist_cert.specs.Encoding.{octets_of}
use Rattle.bplist_cert.specs.Lists.{IsCertificate, Lists}
use Rattle.bplist_cert.specs.Sorted.{IsAccepted}
use Rattle.bplist_lint.specs.declared.answer.Lint.{Lint}
use Rattle.bplist_lint.specs.declared.answer.LintRefusal.{LintRefusal}
use Rattle.bplist_lint.specs.declared.answer.LintRefusal.TheVariants as refusals
use Rattle.bplist_lint.specs.Linted.{lint_of}
use Rattle.bplist_lint.specs.Refusals.{Lints}
use Rattle.bplist_c.specs.declared.accepted.Accepted.{Accepted}
use Rattle.bplist_c.specs.declared.handle.BplistHandle.{BplistHandle}
use Rattle.bplist_c.specs.declared.status.Status.{Status}
use Rattle.bplist_c.specs.declared.verdict.BplistVerdict.{BplistVerdict}
use Rattle.bplist_c.specs.Statuses.{status_number}
use Rattle.bplist_c.specs.Lifecycle.{Accepts, IsCheckedFor, IsOpened, IsPair, KeepsHandle}
use Rattle.bplist_c.specs.Verdicts.{ShowsLint}

module _ (file : Bor (List ℕ)) (sorted : Bool) (P : Lint → Type 0) (Q : Fault → Type 0) (R : List ℕ → Type 0)
    (handle : BplistHandle) (verdict : BplistVerdict) (status : ℕ) where
  -- the answer is right for the file, is told, and the handle is open if it is a yes
  abbrev pub Opens : Type 0
  Opens = (answer : Result Lint LintRefusal) × Lints P Q R answer × ShowsLint file.now answer verdict status
      × MatchResult answer (λ x. IsOpened file.now x.certificate sorted handle) (λ _. handle.length ≡ 0)

  -- the session of the checked file is one of these bytes, and its certificate is as it was asked for
  opened_for : (certificate : Lists) (checked : CheckedFile) → IsCheckedFor file certificate sorted checked
      → IsOpened checked.source.octets checked.certificate sorted handle → IsOpened file.now certificate sorted handle
  opened_for certificate checked (source, heights, given, plain) opened =
      let (length, (s, held, session, high, kept, unsorted, listed)) = rw source at opened in (
        length,
        (
          s,
          held,
          session,
          high ∙ heights,
          (λ some. kept (subst (λ (l : Lists). IsSome l.keys) (sym (given some)) some) ∙ given some),
          (λ no. unsorted no ∙ plain no),
          listed,
        ),
      )

  -- refused memory is a result too
  pub opens : (answer : Result Lint LintRefusal) (accepted : Result Accepted (Status × BplistVerdict)) → Lints P Q R answer
      → Accepts sorted file answer accepted → KeepsHandle sorted handle verdict status accepted → Opens
  opens (Ok lint) (Ok accepted) given says kept = elim kept [
    | inl k ↦ (Ok lint, given, (k.0, rw k.1 says.1.1), opened_for lint.certificate accepted.checked says.0 k.2)
    | inr k ↦ (Err refusals.Memory, tt, (k.0, k.1), k.2)
  ]
  opens (Err why) (Err told) given says kept = (Err why, given, (rw (← says) kept.0, rw (← says) kept.1), kept.2)
  opens (Ok lint) (Err told) given says kept = absurd says
  opens (Err why) (Ok accepted) given says kept = absurd says

-- an answer with this verdict and status
abbrev pub Tells : BplistVerdict → ℕ → Result Accepted (Status × BplistVerdict) → Type 0
Tells verdict status result = MatchResult result (λ a. (status ≡ 0) × (verdict ≡ a.verdict))
    (λ told. (status ≡ status_number told.0) × (verdict ≡ told.1))

-- whoever tells what was accepted, or why not, shows the linter's answer
pub shown : (sorted : Bool) (file : Bor (List ℕ)) (verdict : BplistVerdict) (status : ℕ) (answer : Result Lint LintRefusal)
    (accepted : Result Accepted (Status × BplistVerdict)) → Accepts sorted file answer accepted → Tells verdict status accepted
    → ShowsLint file.now answer verdict status
shown sorted file verdict status (Ok lint) (Ok a) says told = rw (told.0, told.1) says.1
shown sorted file verdict status (Err why) (Err t) says told = (rw (← says) told.0, rw (← says) told.1)
shown sorted file verdict status (Ok lint) (Err t) says told = absurd says
shown sorted file verdict status (Err why) (Ok a) says told = absurd says

module _ (file : Bor (List ℕ)) (checked : CheckedFile) (same : checked.source ≡ source_over file) where
  -- the checked file with this verdict is accepted
  pub accepts : (sorted : Bool) (lint : Lint) (result : Result Accepted (Status × BplistVerdict)) → IsCheckedFor file lint.certificate sorted checked
      → MatchResult result (λ a. (a.checked ≡ checked) × ShowsLint checked.source.octets (Ok lint) a.verdict 0) (λ _. ⊥)
      → Accepts sorted file (Ok lint) result
  accepts sorted lint (Ok a) is says = (subst (IsCheckedFor file lint.certificate sorted) (sym says.0) is, rw same at says.1)
  accepts sorted lint (Err told) is says = absurd says

  pub honest : IsTrue checked.source.honest
  honest = subst (λ (m : Meaning). IsTrue m.honest) (sym same) refl

module _ (file : Bor (List ℕ)) (checked : CheckedFile) (is : IsChecked checked) (same : checked.source ≡ source_over file) where
  framed : IsFrame file.now checked.frame
  framed = subst (λ (m : Meaning). IsFrame m.octets checked.frame) same (is.framed (honest file checked same))

  -- what the check has accepted is a valid certificate of the file
  pub is_pair : (octets : List ℕ) → IsCertificate checked.certificate → octets ≡ octets_of checked.certificate
      → IsPair file.now octets (lint_of checked.frame checked.certificate (record { reached = 0; used = record { octets = 0 }; references = 0 }))
  is_pair octets spelled e =
      let accepted = subst (λ (m : Meaning). ∥ IsAccepted m.octets checked.frame checked.certificate ∥₁) same (is.accepted (honest file checked same)) in
      (checked.frame, framed, (spelled, e, accepted), refl, refl, refl)
