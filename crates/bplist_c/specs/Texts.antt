-- What C is given of the text of a value. Source: profile.
use Rattle.std.specs.Prelude.{◌≡◌, ℕ, List, Option, Some, None, Result, Ok, Err, Vec, ⊤}
use Rattle.std.specs.Global.{Global}
use Rattle.bplist_objects.specs.Value.{Value}
use Rattle.bplist_objects.specs.declared.frame.Frame.{Frame}
use Rattle.bplist_cursor.specs.declared.sizes.Form.{Form}
use Rattle.bplist_cursor.specs.declared.sizes.Form.TheVariants.{NoForm, Length}
use Rattle.bplist_cursor.specs.Formless.{IsFormless}
use Rattle.bplist_cursor.specs.Forms.{form_of}
use Rattle.bplist_cursor.specs.OldStyle.{value_text}
use Rattle.bplist_cursor.specs.Sizes.{Table, form_in}
use Rattle.bplist_ascii.specs.Printed.{HasText}
use Rattle.bplist_ascii.specs.declared.printer.PrintFault.{PrintFault}
use Rattle.bplist_ascii.specs.declared.printer.PrintFault.TheVariants as faults
use Rattle.bplist_c.specs.declared.status.Status.{Status}
use Rattle.bplist_c.specs.declared.status.Status.TheVariants.{Memory, NoText, OtherFile, Short}
use Rattle.bplist_c.specs.declared.text.BplistWritten.{BplistWritten}
use Rattle.bplist_c.specs.declared.text.Text.{Text}
use Rattle.bplist_c.specs.declared.text.Text.TheVariants.{Fits, TooLong, Formless}
use Rattle.bplist_c.specs.Statuses.{PutsItems, status_number}

-- the length of the text of a form, 0 if there is none
abbrev pub length_in : Option Form → ℕ
length_in (Some (Length n)) = n
length_in (Some NoForm) = 0
length_in None = 0

-- the length of the text of object n, from the table
abbrev pub text_length : Table → ℕ → ℕ
text_length sizes n = length_in (form_in sizes n)

-- the result of printing: these bytes, or a text too long of this length, or the first part without a text; or memory
-- was refused, or the file has changed
abbrev pub printed_as : Result (Unit {0}) PrintFault → Vec ℕ Global → ℕ → Result Text Status
printed_as (Ok _) text told = Ok (Fits text)
printed_as (Err (faults.NoAsciiForm part)) text told = Ok (Formless part)
printed_as (Err faults.TooLong) text told = Ok (TooLong told)
printed_as (Err (faults.Write sent)) text told = Err Memory
printed_as (Err faults.Memory) text told = Err Memory
printed_as (Err _) text told = Err OtherFile

-- the text of v if it fits `room`, or else its length; or the first part without a text, or refused memory
abbrev pub IsTextOf : List ℕ → Frame → ℕ → Value → ℕ → Result Text Status → Type 0
IsTextOf f F n v room (Ok (Fits text)) = HasText v room (λ t. t ≡ text.items)
IsTextOf f F n v room (Ok (TooLong told)) = (form_of v ≡ Length told) × (¬ HasText v room (λ _. ⊤))
IsTextOf f F n v room (Ok (Formless part)) = (value_text v ≡ None) × IsFormless f F n v part.0
IsTextOf f F n v room (Err why) = why ≡ Memory

module _ (old new : List ℕ) (was out : BplistWritten) (status : ℕ) where
  -- buffer, output and status give the answer
  abbrev pub TellsText : Result Text Status → Type 0
  TellsText (Ok (Fits text)) = PutsItems (Ok text.items) old new was.length out.length status × (out.object ≡ 0)
  TellsText (Ok (TooLong n)) = (status ≡ status_number Short) × (new ≡ old) × (out ≡ record { length = n; object = 0 })
  TellsText (Ok (Formless part)) = (status ≡ status_number NoText) × (new ≡ old) × (out ≡ record { length = 0; object = part.0 })
  TellsText (Err why) = (status ≡ status_number why) × (new ≡ old) × (out ≡ was)
