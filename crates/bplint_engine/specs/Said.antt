-- What a run says: the answer to each command. Source: profile.
use Rattle.std.specs.Prelude.{◌≡◌, ℕ, List, [], Bool, true, false, MatchResult, if◌then◌else◌}
use Rattle.bplint_engine.specs.declared.run.Verb.{Verb}
use Rattle.bplint_engine.specs.declared.run.Verb.TheVariants.{Lint, Check, Get, Certify, Print}
use Rattle.bplint_lines.specs.declared.fault.RunFault.TheVariants.{Hex}
use Rattle.bplint_lines.specs.Answers.{Answer, refuses}
use Rattle.bplint_lines.specs.declared.texts.Style.TheVariants.{OldStyle}
use Rattle.bplint_engine.specs.Certify.{CertifySays}
use Rattle.bplint_engine.specs.Check.{CheckSays}
use Rattle.bplint_engine.specs.Commands.{Asked}
use Rattle.bplint_engine.specs.Get.{LinesSay, found_line}
use Rattle.bplint_engine.specs.Hexadecimal.{spelled}
use Rattle.bplint_engine.specs.Lint.{LintSays}
use Rattle.bplint_engine.specs.Print.{PrintSays}

-- the answer to a command for a file and the bytes of a certificate
abbrev pub Says : Asked → List ℕ → List ℕ → Answer → Type 0
Says command f cert answer = elim command.verb [
  | Lint ↦ LintSays f answer
  | Check ↦ CheckSays f cert answer
  | Certify ↦ CertifySays command.sorted command.hex f answer
  | Get ↦ LinesSay (found_line OldStyle) (CheckSays f cert) f command.paths answer
  | Print ↦ PrintSays command.limit (CheckSays f cert) f command.paths answer
]

-- how many bytes may be written before a failed read or refused memory: the limit of Print, otherwise 0
abbrev pub most : Asked → ℕ
most command = elim command.verb [ Print ↦ command.limit | _ ↦ 0 ]

-- true if the verb uses the certificate
abbrev pub takes_cert : Verb → Bool
takes_cert verb = elim verb [ Lint ↦ false | Certify ↦ false | _ ↦ true ]

-- P of the bytes that a hexadecimal text spells, or `Hex` if it spells none
abbrev pub SaysSpelled : (List ℕ → Answer → Type 0) → List ℕ → Answer → Type 0
SaysSpelled P text answer = MatchResult (spelled text) (λ bytes. P bytes answer) (λ _. answer ≡ refuses Hex)

-- the answer to a command for its inputs; with `hex`, for the bytes they spell, the certificate's only if it is used
abbrev pub SaysOver : Bool → Asked → List ℕ → List ℕ → Answer → Type 0
SaysOver true c file cert answer =
    SaysSpelled (λ f. SaysSpelled (Says c f) (if takes_cert c.verb then cert else [])) file answer
SaysOver false c file cert answer = Says c file cert answer
