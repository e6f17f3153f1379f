-- The text of a value, from call to call.
use Rattle.std.proofs.Common.{◌≡◌, ◌≢◌, ◌∙◌, ℕ, List, [], length, Option, Some, None, Result, Ok, Err, Vec, ap, refl, sym}
use Rattle.std.specs.Global.{Global}
use Rattle.bplist_objects.specs.Value.{Value}
use Rattle.bplist_objects.specs.declared.frame.Frame.{Frame}
use Rattle.bplist_cursor.specs.declared.sizes.Form.TheVariants.{Length}
use Rattle.bplist_cursor.specs.Forms.{form_of, form_of_text}
use Rattle.bplist_cursor.specs.Nodes.{cap}
use Rattle.bplist_cursor.specs.OldStyle.{value_text}
use Rattle.bplist_cursor.specs.Sizes.{Table, form_in}
use Rattle.bplist_ascii.specs.BoundedWrites.{print_read}
use Rattle.bplist_ascii.specs.Printed.{IsPrinted}
use Rattle.bplist_ascii.specs.declared.printer.PrintFault.{PrintFault}
use Rattle.bplist_ascii.specs.declared.printer.PrintFault.TheVariants as faults
use Rattle.bplist_c.specs.Texts.{IsTextOf, length_in, printed_as, text_length}

-- the length of a text that C is given
pub told_length : (sizes : Table) (n : ℕ) (v : Value) (t : List ℕ) → form_in sizes n ≡ Some (form_of v) → value_text v ≡ Some t
    → text_length sizes n ≡ cap (length t)
told_length sizes n v t e is = ap length_in e ∙ ap (λ x. length_in (Some (form_of_text x))) is

-- the length that C is given is that of the form
told_form : (text : Option (List ℕ)) (told : ℕ) → text ≢ None → ((t : List ℕ) → text ≡ Some t → told ≡ cap (length t)) → form_of_text text ≡ Length told
told_form None told some length = absurd (some refl)
told_form (Some t) told some length = ap Length (sym (length t refl))

-- what was printed into an empty list is the text, or there is a reason why there is none
pub text_said : (f : List ℕ) (F : Frame) (n : ℕ) (v : Value) (room told : ℕ) (text : Vec ℕ Global) (r : Result (Unit {0}) PrintFault)
    → print_read r ≡ None → IsPrinted (Some []) (Some text.items) f F n v room r → ((t : List ℕ) → value_text v ≡ Some t → told ≡ cap (length t))
    → IsTextOf f F n v room (printed_as r text told)
text_said f F n v room told text (Ok _) read (t, is, low, few, added) length = (t, is, low, few, sym added)
text_said f F n v room told text (Err (faults.NoAsciiForm part)) read (none, formless, kept) length = (none, formless)
text_said f F n v room told text (Err faults.TooLong) read (some, long, kept) length = (told_form (value_text v) told some length, long)
text_said f F n v room told text (Err (faults.Write sent)) read printed length = refl
text_said f F n v room told text (Err (faults.Read fault)) read printed length = cc read
text_said f F n v room told text (Err faults.Changed) read printed length = absurd printed
text_said f F n v room told text (Err faults.Memory) read printed length = refl
