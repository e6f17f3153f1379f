-- Why an object could not be read.
use Rattle.std.proofs.Common.{◌≢◌, refl}
use Rattle.bplist_objects.specs.declared.fault.ObjectFault.{ObjectFault}
use Rattle.bplist_objects.specs.declared.fault.ObjectFault.TheVariants as errors
use Rattle.bplist_objects.specs.Answers.{GivesFault, Never}
use Rattle.bplist_cursor.specs.declared.faults.Unread.{Unread}
use Rattle.bplist_cursor.specs.declared.faults.Unread.TheVariants as unread
use Rattle.bplist_cursor.specs.declared.faults.CursorFault.{CursorFault}
use Rattle.bplist_cursor.specs.declared.faults.CursorFault.TheVariants as faults

-- what a fault of an object is to the cursor
abbrev pub unread_of : ObjectFault → Unread
unread_of (errors.Fault _) = unread.Changed
unread_of (errors.Read e) = unread.Read e

-- a cause as a fault of the cursor
abbrev pub cursor_fault_of : Unread → CursorFault
cursor_fault_of (unread.Read e) = faults.Read e
cursor_fault_of unread.Changed = faults.Changed

-- a failed read, and not Changed
abbrev pub IsUnread : Unread → Type 0
IsUnread e = e ≢ unread.Changed

-- a failed read or refused memory, and not Changed
abbrev pub IsExcused : CursorFault → Type 0
IsExcused e = e ≢ faults.Changed

-- if there is no fault, it is a failed read
pub unread_never : (e : ObjectFault) → GivesFault Never e → IsUnread (unread_of e)
unread_never (errors.Fault x) h = absurd h
unread_never (errors.Read x) h = λ is. cc is

-- an error of an inner call that is not Changed is not Changed for the caller either
pub unread_excused : (e : Unread) → IsUnread e → IsExcused (cursor_fault_of e)
unread_excused (unread.Read x) h = λ is. cc is
unread_excused unread.Changed h = absurd (h refl)
