-- What a refusal of the check says. Source: profile.
use Rattle.std.specs.Prelude.{◌≡◌, Result, Err, MatchResult, Option, None, Some}
use Rattle.bplist_octets.specs.declared.source.ReadFault.{ReadFault}
use Rattle.bplist_objects.specs.declared.fault.Fault.{Fault}
use Rattle.bplist_objects.specs.declared.fault.ObjectFault.{ObjectFault}
use Rattle.bplist_objects.specs.declared.fault.ObjectFault.TheVariants as errors
use Rattle.bplist_objects.specs.declared.fault.Failure.{Failure}
use Rattle.bplist_objects.specs.declared.fault.Failure.TheVariants as keys_errors
use Rattle.bplist_cert.specs.declared.refusal.Refusal.{Refusal}
use Rattle.bplist_cert.specs.declared.refusal.Refusal.TheVariants as refusals
use Rattle.bplist_cert.specs.Lists.{Keyed}

-- the fault of the failed read that the refusal is, if it is one
abbrev pub is_read : Refusal → Option ReadFault
is_read refusal = elim refusal [ refusals.Read fault ↦ Some fault | _ ↦ None ]

-- the fault of the failed read that the result is, if it is one
abbrev pub refused_read : {X : Type 0} → Result X Refusal → Option ReadFault
refused_read answer = elim answer [ Err refusal ↦ is_read refusal | _ ↦ None ]

-- Q holds of the fault, unless a read failed or memory was refused
abbrev pub GivesRefusal : (Fault → Type 0) → Refusal → Type 0
GivesRefusal Q refusal = elim refusal [ refusals.Fault fault ↦ Q fault | _ ↦ Unit {0} ]

-- P holds of the value, or Q of the fault, unless a read failed or memory was refused
abbrev pub Judges : {X : Type 0} → (X → Type 0) → (Fault → Type 0) → Result X Refusal → Type 0
Judges P Q result = MatchResult result P (GivesRefusal Q)

-- memory can be refused in version 1 only
abbrev pub MayRefuse : Option Keyed → Refusal → Type 0
MayRefuse keys refusal = elim refusal [ refusals.Memory ↦ keys ≡ None | _ ↦ Unit {0} ]

-- the fault of an object as a refusal
abbrev pub refusal_of : ObjectFault → Refusal
refusal_of error = elim error [ errors.Fault fault ↦ refusals.Fault fault | errors.Read fault ↦ refusals.Read fault ]

-- the reason why keys are not ranked, as a refusal
abbrev pub refusal_of_keys : Failure → Refusal
refusal_of_keys failure = elim failure [ keys_errors.Read fault ↦ refusals.Read fault | keys_errors.Memory ↦ refusals.Memory ]
