-- What a call that reads returns. Source: profile.
use Rattle.std.specs.Prelude.{Result, Err, MatchResult, Option, None, Some}
use Rattle.bplist_octets.specs.declared.source.ReadFault.{ReadFault}
use Rattle.bplist_objects.specs.declared.fault.Fault.{Fault}
use Rattle.bplist_objects.specs.declared.fault.ObjectFault.{ObjectFault}
use Rattle.bplist_objects.specs.declared.fault.ObjectFault.TheVariants as errors

-- the fault of the failed read that the result is, if it is one
abbrev pub read_failed : {X : Type 0} → Result X ObjectFault → Option ReadFault
read_failed answer = elim answer [ Err (errors.Read fault) ↦ Some fault | _ ↦ None ]

-- Q holds of the fault, unless the error is a failed read
abbrev pub GivesFault : (Fault → Type 0) → ObjectFault → Type 0
GivesFault Q error = elim error [ errors.Fault fault ↦ Q fault | _ ↦ Unit {0} ]

-- P holds of the value, or Q of the fault, unless the error is a failed read
abbrev pub Gives : {X : Type 0} → (X → Type 0) → (Fault → Type 0) → Result X ObjectFault → Type 0
Gives P Q result = MatchResult result P (GivesFault Q)

-- no fault is returned
abbrev pub Never : Fault → Type 0
Never fault = ⊥
