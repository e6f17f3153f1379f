-- What is put into a sink with a limited room. Source: profile.
use Rattle.std.specs.Prelude.{◌≡◌, ℕ, ◌+◌, ◌/◌, ◌%◌, ◌≤◌, Bool, true, false, List, [], ◌∷◌, ◌++◌, length, slice_index, Option, None, Some, Result, Err}
use Rattle.std.specs.List.{list_all}
use Rattle.hex.specs.Hex.{lower_digits}
use Rattle.std.specs.Char.{is_ascii_alphanumeric}
use Rattle.bplist_cursor.specs.Texts.{quoted_unit}
use Rattle.bplist_octets.specs.declared.source.ReadFault.{ReadFault}
use Rattle.bplist_octets.specs.Sending.{Sending, SendsSome, Takes, TakesPart, AtMost}
use Rattle.bplist_ascii.specs.declared.printer.PrintFault.{PrintFault}
use Rattle.bplist_ascii.specs.declared.printer.PrintFault.TheVariants.{Write, Read, Memory}
use Rattle.bplist_ascii.specs.declared.printer.Style.{Style}
use Rattle.bplist_ascii.specs.declared.printer.Style.TheVariants.{Unquoted, Quoted}

-- the fault of the failed read that the result is, if it is one
abbrev pub print_read : {X : Type 0} → Result X PrintFault → Option ReadFault
print_read answer = elim answer [ Err (Read fault) ↦ Some fault | _ ↦ None ]

-- these bytes were put in, and `left` bytes of the room are left
pub record Adds (old new : Option (List ℕ)) (before after : Sending) (room left : ℕ) (bytes : List ℕ) : Type 0 where
  pub taken : Takes old new before after bytes
  pub counted : left + length bytes ≡ room

-- some bytes were put in
abbrev pub AddsSome : Option (List ℕ) → Option (List ℕ) → Sending → Sending → ℕ → ℕ → Type 0
AddsSome old new before after room left = (bytes : List ℕ) × Adds old new before after room left bytes

-- some bytes were put in; if the premise holds, they are this text
pub record AddsText (old new : Option (List ℕ)) (before after : Sending) (room left : ℕ) (premise : Type 0) (text : List ℕ) : Type 0 where
  pub bytes : List ℕ
  pub adds : Adds old new before after room left bytes
  pub is : premise → bytes ≡ text

-- why bytes that fit the room were not put in: a write failed after a first part of what was held and of them; or a
-- read failed or memory was refused, and a first part may have been written
abbrev pub AddFails : Option (List ℕ) → Option (List ℕ) → Sending → List ℕ → PrintFault → Type 0
AddFails old new before bytes (Write sent) = TakesPart old new before bytes sent
AddFails old new before bytes (Read _) = SendsSome old new (before.held ++ bytes)
AddFails old new before bytes Memory = SendsSome old new (before.held ++ bytes)
AddFails old new before bytes _ = ⊥

-- why a text that fits the room was not put in
abbrev pub FailsWithin : Option (List ℕ) → Option (List ℕ) → Sending → ℕ → List ℕ → PrintFault → Type 0
FailsWithin old new before room text e = length text ≤ room → AddFails old new before text e

-- at most what the sink held and what there was room for was written
abbrev pub StaysWithin : Option (List ℕ) → Option (List ℕ) → Sending → ℕ → Type 0
StaysWithin old new before room = AtMost old new (length before.held + room)

-- at most `room` bytes were put in
abbrev pub TakesWithin : Option (List ℕ) → Option (List ℕ) → Sending → Sending → ℕ → Type 0
TakesWithin old new before after room = (bytes : List ℕ) × Takes old new before after bytes × (length bytes ≤ room)

-- the two hexadecimal digits of a byte
abbrev pub hex_digits : ℕ → List ℕ
hex_digits b = slice_index lower_digits (b / 16) ∷ slice_index lower_digits (b % 16) ∷ []

-- a unit as it is written in this style
abbrev pub styled : Style → ℕ → List ℕ
styled Unquoted u = u ∷ []
styled Quoted u = quoted_unit u

-- units that a text of this style can have
abbrev pub fits : Style → ℕ → Bool
fits Unquoted u = is_ascii_alphanumeric u
fits Quoted u = true

-- a text with these units is written without quotes: it has units, and all are ASCII letters and digits
abbrev pub is_unquoted_text : List ℕ → Bool
is_unquoted_text [] = false
is_unquoted_text (u ∷ us) = list_all is_ascii_alphanumeric (u ∷ us)
