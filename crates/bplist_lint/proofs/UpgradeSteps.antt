-- What an upgrade returns, in other words.
use Rattle.std.proofs.Common.{◌≢◌, Result, Ok, Err}
use Rattle.std.proofs.Math.Logic.{∥∥₁_map}
use Rattle.std.proofs.lemmas.Grind.{not_there}
use Rattle.bplist_objects.specs.Answers.{Never}
use Rattle.bplist_cert.specs.declared.refusal.Refusal.{Refusal}
use Rattle.bplist_cert.specs.declared.refusal.Refusal.TheVariants as cert_refusals
use Rattle.bplist_cert.specs.Refusals.{GivesRefusal}
use Rattle.bplist_lint.specs.UpgradeAnswers.{Upgrades}
use Rattle.bplist_lint.specs.declared.answer.UpgradeFault.{UpgradeFault}
use Rattle.bplist_lint.specs.declared.answer.UpgradeFault.TheVariants as faults

-- a broken rule means that the file changed
abbrev upgrade_fault_of : Refusal → UpgradeFault
upgrade_fault_of refusal = elim refusal [ cert_refusals.Fault _ ↦ faults.Changed | cert_refusals.Read error ↦ faults.Read error | cert_refusals.Memory ↦ faults.Memory ]

pub check_no_change : (e : Refusal) → GivesRefusal Never e → upgrade_fault_of e ≢ faults.Changed
check_no_change (cert_refusals.Fault fault) h = absurd h
check_no_change (cert_refusals.Read _) h = λ e. cc
check_no_change cert_refusals.Memory h = λ e. cc

-- if something is known to exist, what follows from it about the answer
pub open_upgrades : {P X : Type 0} (Q : X → Type 0) → ∥ P ∥₁ → (made : Result X UpgradeFault) → (P → Upgrades Q made) → Upgrades (λ x. ∥ Q x ∥₁) made
open_upgrades Q t (Ok x) from = ∥∥₁_map t from
open_upgrades Q t (Err e) from = λ is. not_there t (λ p. from p is)
