-- What a refusal of the linter says. Source: profile.
use Rattle.std.specs.Prelude.{ℕ, List, map, Option, None, Some, Result, Err, MatchResult}
use Rattle.bplist_octets.specs.declared.source.ReadFault.{ReadFault}
use Rattle.bplist_objects.specs.declared.fault.Fault.{Fault}
use Rattle.bplist_lint.specs.declared.answer.LintRefusal.{LintRefusal}
use Rattle.bplist_lint.specs.declared.answer.LintRefusal.TheVariants as refusals
use Rattle.bplist_lint.specs.Trail.{number}

-- the fault of the failed read that the refusal is, if it is one
abbrev pub read_of_refusal : LintRefusal → Option ReadFault
read_of_refusal refusal = elim refusal [ refusals.Read fault ↦ Some fault | _ ↦ None ]

-- the fault of the failed read that the result is, if it is one
abbrev pub lint_failed : {X : Type 0} → Result X LintRefusal → Option ReadFault
lint_failed answer = elim answer [ Err (refusals.Read fault) ↦ Some fault | _ ↦ None ]

-- Q holds of the fault or R of the circle, unless a read failed or memory was refused
abbrev pub Refuses : (Fault → Type 0) → (List ℕ → Type 0) → LintRefusal → Type 0
Refuses Q R refusal =
    elim refusal [ refusals.Fault fault ↦ Q fault | refusals.Circle circle ↦ R (map number circle) | _ ↦ Unit {0} ]

-- P holds of the answer, Q of the fault or R of the circle, unless a read failed or memory was refused
abbrev pub Lints : {X : Type 0} → (X → Type 0) → (Fault → Type 0) → (List ℕ → Type 0) → Result X LintRefusal → Type 0
Lints P Q R answer = MatchResult answer P (Refuses Q R)

-- the answer is not a circle
abbrev pub no_circle : List ℕ → Type 0
no_circle circle = ⊥
