-- The names that the contracts of this crate use, gathered from other files. Declares nothing.
pub use Rattle.bplist_octets.specs.Octets.{part}
pub use Rattle.bplist_objects.specs.Heads.{Content, Spells, content_at}
pub use Rattle.bplist_objects.specs.Holds.{Holds}
pub use Rattle.bplist_objects.specs.Safe.{IsSafeBody, IsSafeHead, IsSafeText, ref_count}
pub use Rattle.bplist_objects.specs.Units.{units_of}
pub use Rattle.bplist_objects.specs.Value.{Value}
pub use Rattle.bplist_objects.specs.declared.head.Kind.TheVariants.{Bytes}
pub use Rattle.bplist_cert.specs.CheckedFile.{HonestlyChecked}
pub use Rattle.bplist_cert.specs.Valid.{IsValid}
pub use Rattle.bplist_cursor.specs.Causes.{GivesRead, read_failed}
pub use Rattle.bplist_cursor.specs.Formless.{IsFormless}
pub use Rattle.bplist_cursor.specs.Found.{IsHeld}
pub use Rattle.bplist_cursor.specs.Kept.{OnlyReadsFile}
pub use Rattle.bplist_cursor.specs.OldStyle.{value_text}
pub use Rattle.bplist_cursor.specs.Sizes.{AreMeasures, form_in}
pub use Rattle.bplist_cursor.specs.Texts.{quoted, text_of_bytes, text_of_units}
pub use Rattle.bplist_cursor.specs.Vouched.{HonestlyAt, VouchesFor}
pub use Rattle.bplist_cursor.specs.declared.faults.Unread.TheVariants.{Read}
pub use Rattle.bplist_cursor.specs.declared.sizes.Form.TheVariants.{NoForm}
pub use Rattle.bplist_ascii.specs.BoundedWrites.{AddFails, Adds, AddsSome, AddsText, FailsWithin, StaysWithin, TakesWithin, fits, hex_digits, is_unquoted_text, print_read, styled}
pub use Rattle.bplist_ascii.specs.FormlessSearch.{HasSameFormless}
pub use Rattle.bplist_ascii.specs.Printed.{IsPrinted, IsPut}
pub use Rattle.bplist_octets.specs.Sending.{AtMost, Takes}
pub use Rattle.bplist_ascii.specs.Walks.{AreSafe, GoesOn, HonestlyLeft, HonestlyPlain, IsContainer, StackLeft, closing_of, opening_of, separator_of}
pub use Rattle.bplist_ascii.specs.declared.printer.PrintFault.{PrintFault}
pub use Rattle.bplist_ascii.specs.declared.printer.Style.TheVariants.{Unquoted}
