-- What the calls of this crate return. Source: profile.
use Rattle.std.specs.Prelude.{Option, None, Some, Result, Err}
use Rattle.bplist_octets.specs.declared.source.ReadFault.{ReadFault}
use Rattle.bplist_objects.specs.declared.fault.Failure.{Failure}
use Rattle.bplist_objects.specs.declared.fault.Failure.TheVariants.{Read}

-- the fault of the failed read that the result is, if it is one
abbrev pub failed_to_read : {X : Type 0} → Result X Failure → Option ReadFault
failed_to_read answer = elim answer [ Err (Read fault) ↦ Some fault | _ ↦ None ]
