-- What an upgrade returns. Source: profile.
use Rattle.std.specs.Prelude.{◌≢◌, Option, None, Some, Result, Err, MatchResult}
use Rattle.bplist_octets.specs.declared.source.ReadFault.{ReadFault}
use Rattle.bplist_lint.specs.declared.answer.UpgradeFault.{UpgradeFault}
use Rattle.bplist_lint.specs.declared.answer.UpgradeFault.TheVariants as faults

-- the fault of the failed read that the result is, if it is one
abbrev pub upgrade_failed : {X : Type 0} → Result X UpgradeFault → Option ReadFault
upgrade_failed answer = elim answer [ Err (faults.Read fault) ↦ Some fault | _ ↦ None ]

-- P holds of the answer, or the error is not `Changed`
abbrev pub Upgrades : {X : Type 0} → (X → Type 0) → Result X UpgradeFault → Type 0
Upgrades P answer = MatchResult answer P (λ fault. fault ≢ faults.Changed)
