use Rattle.std.proofs.Common.{◌≡◌, ◌∙◌, ℕ, Bool, IsTrue, Err, List, None, Ok, false, true, refl, subst}
use Rattle.bplist_octets.specs.Meaning.{Meaning}
use Rattle.bplist_objects.specs.declared.frame.Frame.{Frame}
use Rattle.bplist_cert.specs.Lists.{Lists, lists}
use Rattle.bplist_lint.specs.declared.linter.Keys.{Keys}
use Rattle.bplist_lint.specs.declared.tally.Tally.{Tally}
use Rattle.bplist_lint.specs.Linted.{lint_of}
use Rattle.bplist_lint.specs.Upgraded.{IsLintedWith, keys_for}
use Rattle.bplist_c.proofs.OpenedHandles.{accepts}
use Rattle.bplist_c.proofs.accepted.accept.Goals as goal

-- if no key lists are asked for, the certificate has none
plain : (sorted : Bool) (f : List ℕ) (F : Frame) (certificate : Lists) (tally : Tally) → IsLintedWith (keys_for sorted) f F certificate tally
    → sorted ≡ false → certificate ≡ lists certificate.heights None
plain true f F certificate tally made e = cc e
plain false f F certificate tally made e = λ i. record { heights = certificate.heights; keys = made.1 i }

pub returns-in-Ok : goal.returns-in-Ok
returns-in-Ok c =
    let f = c.args.file.now in
    let checked = c.in-Ok.checked in
    let tally = c.in-Ok.tally in
    let lint = lint_of checked.frame (lists checked.certificate.heights None) tally in
    let made = subst (λ (keys : Keys). IsLintedWith keys f checked.frame checked.certificate tally) c.for_certificate.ensures
    (subst (λ (m : Meaning). IsTrue m.honest → IsLintedWith c.for_certificate.result m.octets checked.frame checked.certificate tally) c.new.ensures.means c.in-Ok.ensures.exact refl) in
    let same = c.in-Ok.ensures.handed ∙ c.new.ensures.means in (
      Ok lint,
      (checked.frame, made.0.valid.frame, made.0),
      accepts c.args.file checked same c.args.sorted lint c.with_verdict.result
          (same, refl, (λ some. cc some), plain c.args.sorted f checked.frame checked.certificate tally made) c.with_verdict.ensures,
    )

pub returns-in-Err : goal.returns-in-Err
returns-in-Err c = (Err c.in-Err.refusal, (rw c.new.ensures.octets at c.in-Err.ensures.exact) refl, c.refused.ensures)
