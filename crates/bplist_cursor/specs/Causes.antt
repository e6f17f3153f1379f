-- What a call of the cursor returns. Source: profile.
use Rattle.std.specs.Prelude.{◌≢◌, Result, MatchResult, Err, Option, None, Some}
use Rattle.bplist_octets.specs.declared.source.ReadFault.{ReadFault}
use Rattle.bplist_cursor.specs.declared.faults.Unread.{Unread}
use Rattle.bplist_cursor.specs.declared.faults.Unread.TheVariants as unread
use Rattle.bplist_cursor.specs.declared.faults.CursorFault.{CursorFault}
use Rattle.bplist_cursor.specs.declared.faults.CursorFault.TheVariants as faults

-- the fault of the failed read that the result is, if it is one, for `Unread`
abbrev pub read_failed : {X : Type 0} → Result X Unread → Option ReadFault
read_failed answer = elim answer [ Err (unread.Read fault) ↦ Some fault | _ ↦ None ]

-- the same for `CursorFault`
abbrev pub cursor_read : {X : Type 0} → Result X CursorFault → Option ReadFault
cursor_read answer = elim answer [ Err (faults.Read fault) ↦ Some fault | _ ↦ None ]

-- P holds of what was read, or the error is not `Changed`
abbrev pub GivesRead : {X : Type 0} → (X → Type 0) → Result X Unread → Type 0
GivesRead P answer = MatchResult answer P (λ fault. fault ≢ unread.Changed)

-- P holds of the answer, or the error is not `Changed`
abbrev pub GivesCursor : {X : Type 0} → (X → Type 0) → Result X CursorFault → Type 0
GivesCursor P answer = MatchResult answer P (λ fault. fault ≢ faults.Changed)
