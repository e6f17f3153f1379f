use Rattle.std.proofs.Common.{◌≡◌, Err, Ok, ap, refl}
use Rattle.bplist_lint.specs.declared.answer.LintRefusal.TheVariants as lint_refusals
use Rattle.bplist_lint.specs.Linted.{lint_of}
use Rattle.bplist_c.specs.declared.status.Status.TheVariants as statuses
use Rattle.bplist_c.specs.declared.verdict.BplistVerdict.{BplistVerdict}
use Rattle.bplist_c.specs.Verdicts.{refused_told}
use Rattle.bplist_c.proofs.OpenedHandles.{accepts, is_pair}
use Rattle.bplist_c.proofs.lifecycle.accept_pair.Goals as goal

pub returns-in-Ok : goal.returns-in-Ok
returns-in-Ok c =
    let checked = c.in-Ok.checked in
    let is = c.in-Ok.ensures in
    let lint = lint_of checked.frame checked.certificate (record { reached = 0; used = record { octets = 0 }; references = 0 }) in (
      Ok lint,
      is_pair c.args.file checked is.0 is.3 c.args.certificate.now is.1 is.2,
      λ sorted. accepts c.args.file checked is.3 sorted lint c.with_verdict.result (is.3, refl, (λ _. refl), (λ _. refl)) (rw c.new.ensures at c.with_verdict.ensures),
    )

pub returns-in-Err-Fault : goal.returns-in-Err-Fault
returns-in-Err-Fault c =
    let refused = rw c.in-Err-Fault.field-0-is at c.in-Err-Fault.ensures in
    let is = c.in-Err-Fault.fault-is in
    let told = c.of_fault.ensures in
    let shown : c.of_fault.result ≡ (refused_told (lint_refusals.Fault c.in-Err-Fault.fault)).1 = cc in
    (Err (lint_refusals.Fault c.in-Err-Fault.fault), refused, λ _. ap (λ (v : BplistVerdict). (statuses.Fault, v)) shown)

pub returns-in-Err-Memory : goal.returns-in-Err-Memory
returns-in-Err-Memory c = (Err lint_refusals.Memory, tt, λ _. refl)
