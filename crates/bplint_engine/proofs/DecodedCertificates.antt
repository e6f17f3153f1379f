-- Answers for a certificate that is decoded only if the command uses it.
use Rattle.std.proofs.Common.{◌≡◌, ℕ, List, [], Option, Result, Ok, Err}
use Rattle.std.specs.Prelude.{MatchResult, IfOk, ⊤, if◌then◌else◌}
use Rattle.std.proofs.Math.Logic.{∥∥₁_map}
use Rattle.bplist_cert.specs.Encoding.{octets_of, IsCertRefusal}
use Rattle.bplist_cert.specs.Lists.{Lists, IsCertificate}
use Rattle.bplist_cert.specs.declared.certificate.CertRefusal.{CertRefusal}
use Rattle.bplint_lines.specs.declared.fault.RunFault.{RunFault}
use Rattle.bplint_lines.specs.declared.fault.Said.{Said}
use Rattle.bplint_lines.specs.Answers.{Answer, Leaves}
use Rattle.bplint_engine.specs.Check.{IsDecoded}
use Rattle.bplint_engine.specs.Commands.{Asked}
use Rattle.bplint_engine.specs.Said.{Says, most, takes_cert}
use Rattle.bplint_engine.specs.declared.run.Verb.{Verb}
use Rattle.bplint_engine.specs.declared.run.Verb.TheVariants.{Lint, Check, Get, Certify, Print}
use Rattle.bplint_engine.proofs.LeftBytes.{said_as}

-- what decoding returns
pub decoded_as : (cert : List ℕ) (decoded : Result Lists CertRefusal) → IfOk decoded (λ lists. IsCertificate lists × (cert ≡ octets_of lists))
    → MatchResult decoded (λ _. ⊤) (IsCertRefusal cert) → IsDecoded cert decoded
decoded_as cert (Ok lists) spelled refused = spelled
decoded_as cert (Err refusal) spelled refused = refused

-- an answer for the certificate bytes that are used is an answer for all of them
by_verb : (verb : Verb) (command : Asked) (f cert : List ℕ) (a : Answer)
    → Says (record command { verb = verb }) f (if takes_cert verb then cert else []) a → Says (record command { verb = verb }) f cert a
by_verb Lint command f cert a h = h
by_verb Check command f cert a h = h
by_verb Get command f cert a h = h
by_verb Certify command f cert a h = h
by_verb Print command f cert a h = h

pub left_whole : (command : Asked) (f cert : List ℕ) (old new : Option (List ℕ)) (result : Result Said RunFault)
    → Leaves (Says command f (if takes_cert command.verb then cert else [])) (most command) old new result
    → Leaves (Says command f cert) (most command) old new result
left_whole command f cert old new result left =
    ∥∥₁_map left (said_as (Says command f (if takes_cert command.verb then cert else [])) (Says command f cert) (most command) old new result
    (by_verb command.verb command f cert))
