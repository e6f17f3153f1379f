-- What contracts say of the faults of a run. Source: profile.
use Rattle.std.specs.Prelude.{Result, Ok, Err}
use Rattle.bplint_lines.specs.declared.fault.RunFault.{RunFault}
use Rattle.bplint_lines.specs.declared.fault.RunFault.TheVariants as faults

-- a failed read or refused memory
abbrev pub IsExcused : RunFault → Type 0
IsExcused fault = elim fault [ faults.Read _ ↦ Unit {0} | faults.Memory ↦ Unit {0} | _ ↦ ⊥ ]

-- P holds of the answer; the only faults are a failed read and refused memory
abbrev pub GivesOrIsExcused : {X : Type 0} → (X → Type 0) → Result X RunFault → Type 0
GivesOrIsExcused P (Ok x) = P x
GivesOrIsExcused P (Err fault) = IsExcused fault
