use Rattle.std.proofs.Common.{ℕ, List, Bool, None, Option, Result, Ok, Err, true, false, refl, subst}
use Rattle.std.proofs.lemmas.Grind.{merely}
use Rattle.bplist_objects.specs.declared.frame.Frame.{Frame}
use Rattle.bplist_cert.specs.Encoding.{octets_of}
use Rattle.bplist_cert.specs.Lists.{IsCertificate, Lists, lists}
use Rattle.bplist_lint.specs.declared.linter.Keys.{Keys}
use Rattle.bplist_lint.specs.declared.tally.Tally.{Tally}
use Rattle.bplist_lint.specs.Linted.{lint_of}
use Rattle.bplist_lint.specs.Upgraded.{IsLintedWith, keys_for}
use Rattle.bplint_lines.specs.declared.fault.RunFault.{RunFault}
use Rattle.bplint_lines.specs.declared.fault.RunFault.TheVariants as faults
use Rattle.bplint_lines.specs.declared.fault.Said.{Said}
use Rattle.bplint_lines.specs.declared.fault.Said.TheVariants.{All}
use Rattle.bplint_lines.specs.Answers.{LeavesBy, gives}
use Rattle.bplint_engine.specs.Certify.{CertifySays, SendsCertificate, written}
use Rattle.bplint_engine.proofs.LeftBytes.{begins_nothing, kept_self, refused}
use Rattle.bplint_engine.proofs.LintAnswers.{lint_refused}
use Rattle.bplint_engine.proofs.certify.certify_on.Goals as goal

-- the linter's certificate is the one that `certify` writes
certifies : (sorted hex : Bool) (f : List ℕ) (F : Frame) (certificate : Lists) (tally : Tally) → IsLintedWith (keys_for sorted) f F certificate tally
    → IsCertificate certificate → CertifySays sorted hex f (gives All (written hex (octets_of certificate)))
certifies true hex f F certificate tally made is =
    (F, lint_of F (lists certificate.heights None) tally, certificate, made.0.valid.frame, made.0, (is, merely made.1), refl, refl)
certifies false hex f F certificate tally made is =
    (F, lint_of F (lists certificate.heights None) tally, certificate, made.0.valid.frame, made.0, (λ i. record { heights = certificate.heights; keys = made.1 i }), refl, refl)

-- its bytes were sent
sent_certificate : (sorted hex : Bool) (f : List ℕ) (old new : Option (List ℕ)) (made : Lists) (result : Result Said RunFault)
    → (IsCertificate made → CertifySays sorted hex f (gives All (written hex (octets_of made))))
    → SendsCertificate old new hex made result → LeavesBy (CertifySays sorted hex f) 0 old new result
sent_certificate sorted hex f old new made (Ok said) says (is, all, whole) = (written hex (octets_of made), rw all (says is), whole)
sent_certificate sorted hex f old new made (Err (faults.Write sent)) says (is, part) = (All, written hex (octets_of made), says is, part)
sent_certificate sorted hex f old new made (Err faults.Memory) says kept = begins_nothing (CertifySays sorted hex f) 0 old new kept
sent_certificate sorted hex f old new made (Err _) says sends = absurd sends

pub returns-in-Ok-clause-exact : goal.returns-in-Ok-clause-exact
returns-in-Ok-clause-exact g c = λ honest.
    let f = (g.S.Source.means c.args.src).octets in
    let checked = c.in-Ok.checked in
    let tally = c.in-Ok._tally in
    let made = subst (λ (keys : Keys). IsLintedWith keys f checked.frame checked.certificate tally) c.for_certificate.ensures (c.in-Ok.ensures.exact honest) in
    merely (sent_certificate c.args.sorted c.args.hex f _ _ _ _ (λ is. certifies c.args.sorted c.args.hex f checked.frame checked.certificate tally made is)
    (rw c.into_parts-src.ensures.certificate at c.send_certificate.ensures))

pub returns-in-Err-clause-exact : goal.returns-in-Err-clause-exact
returns-in-Err-clause-exact g c = λ honest.
    let f = (g.S.Source.means c.args.src).octets in
    merely (refused (CertifySays c.args.sorted c.args.hex f) 0 _ _ _ (rw c.from.ensures (lint_refused f c.in-Err.refusal (c.in-Err.ensures.exact honest))) (kept_self _))
