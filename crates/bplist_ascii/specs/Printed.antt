-- What printing the value of an object returns, and what it leaves with the writer. Source: profile.
use Rattle.std.specs.Prelude.{◌≡◌, ◌≢◌, ◌⊎◌, ℕ, ◌<◌, ◌≤◌, List, ◌++◌, length, Option, Some, None, Result, Ok, Err, ⊤}
use Rattle.std.specs.Io.KnownBytes.{Keeps, Appends}
use Rattle.bplist_objects.specs.declared.frame.Frame.{Frame}
use Rattle.bplist_objects.specs.Value.{Value}
use Rattle.bplist_cursor.specs.Formless.{IsFormless}
use Rattle.bplist_cursor.specs.OldStyle.{value_text}
use Rattle.bplist_octets.specs.Sending.{Sending, SendsPart, SendsSome, Takes, TakesPart}
use Rattle.bplist_ascii.specs.declared.printer.PrintFault.{PrintFault}
use Rattle.bplist_ascii.specs.declared.printer.PrintFault.TheVariants.{NoAsciiForm, TooLong, Write, Read, Changed, Memory}

-- the value has a text of at most `limit` and fewer than 18446744073709551615 bytes, and P holds of the text
abbrev pub HasText : Value → ℕ → (List ℕ → Type 0) → Type 0
HasText v limit P = (t : List ℕ) × (value_text v ≡ Some t) × (length t ≤ limit) × (length t < 18446744073709551615) × P t

module _ (old new : Option (List ℕ)) (f : List ℕ) (F : Frame) (n : ℕ) (v : Value) (limit : ℕ) where
  -- the text of the value v of object n was written; otherwise why not
  abbrev pub IsPrinted : Result (Unit {0}) PrintFault → Type 0
  IsPrinted (Ok _) = HasText v limit (Appends old new)
  IsPrinted (Err (NoAsciiForm m)) = (value_text v ≡ None) × IsFormless f F n v m.0 × Keeps old new
  IsPrinted (Err TooLong) = (value_text v ≢ None) × (¬ HasText v limit (λ _. ⊤)) × Keeps old new
  IsPrinted (Err (Write sent)) = HasText v limit (λ text. SendsPart old new 0 text sent)
  IsPrinted (Err (Read _)) = ((value_text v ≡ None) × Keeps old new) ⊎ HasText v limit (SendsSome old new)
  IsPrinted (Err Changed) = ⊥
  IsPrinted (Err Memory) = HasText v limit (SendsSome old new)

module _ (old new : Option (List ℕ)) (before after : Sending) where
  -- nothing was written, and nothing was put into the sink
  abbrev pub PutsNothing : Type 0
  PutsNothing = Keeps old new × (after ≡ before)

  module _ (f : List ℕ) (F : Frame) (n : ℕ) (v : Value) (limit : ℕ) where
    -- the text of the value v of object n was put into a sink; otherwise why not
    abbrev pub IsPut : Result (Unit {0}) PrintFault → Type 0
    IsPut (Ok _) = HasText v limit (Takes old new before after)
    IsPut (Err (NoAsciiForm m)) = (value_text v ≡ None) × IsFormless f F n v m.0 × PutsNothing
    IsPut (Err TooLong) = (value_text v ≢ None) × (¬ HasText v limit (λ _. ⊤)) × PutsNothing
    IsPut (Err (Write sent)) = HasText v limit (λ text. TakesPart old new before text sent)
    IsPut (Err (Read _)) = ((value_text v ≡ None) × PutsNothing) ⊎ HasText v limit (λ text. SendsSome old new (before.held ++ text))
    IsPut (Err Changed) = ⊥
    IsPut (Err Memory) = HasText v limit (λ text. SendsSome old new (before.held ++ text))
