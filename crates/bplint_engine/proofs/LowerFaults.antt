-- The faults of a run for each fault of the crates below.
use Rattle.std.proofs.Common.{refl}
use Rattle.bplist_cert.specs.declared.certificate.CertRefusal.{CertRefusal}
use Rattle.bplist_cert.specs.declared.certificate.CertRefusal.TheVariants as cert_refusals
use Rattle.bplist_cert.specs.declared.refusal.Refusal.{Refusal}
use Rattle.bplist_cert.specs.declared.refusal.Refusal.TheVariants as refusals
use Rattle.bplist_lint.specs.declared.answer.LintRefusal.{LintRefusal}
use Rattle.bplist_lint.specs.declared.answer.LintRefusal.TheVariants as lint_refusals
use Rattle.bplist_cursor.specs.declared.faults.CursorFault.{CursorFault}
use Rattle.bplist_cursor.specs.declared.faults.CursorFault.TheVariants as cursor_faults
use Rattle.bplist_cursor.specs.declared.faults.Unread.{Unread}
use Rattle.bplist_cursor.specs.declared.faults.Unread.TheVariants as unread
use Rattle.bplist_cursor.specs.declared.path.PathFault.{PathFault}
use Rattle.bplist_cursor.specs.declared.path.PathFault.TheVariants as path_faults
use Rattle.bplist_ascii.specs.declared.printer.PrintFault.{PrintFault}
use Rattle.bplist_ascii.specs.declared.printer.PrintFault.TheVariants as print_faults
use Rattle.bplist_cursor.proofs.Causes.{IsUnread, IsExcused as IsCursorExcused}
use Rattle.bplint_lines.specs.Faults.{IsExcused}
use Rattle.bplint_lines.specs.declared.fault.RunFault.{RunFault}
use Rattle.bplint_lines.specs.declared.fault.RunFault.TheVariants as faults

-- the fault for a refusal of the linter
abbrev pub lint_fault : LintRefusal → RunFault
lint_fault (lint_refusals.Fault fault) = faults.Fault fault
lint_fault (lint_refusals.Circle objects) = faults.Circle objects
lint_fault (lint_refusals.Read fault) = faults.Read fault
lint_fault lint_refusals.Memory = faults.Memory

-- the fault for certificate bytes that do not decode
abbrev pub octets_fault : CertRefusal → RunFault
octets_fault (cert_refusals.Fault fault) = faults.Fault fault
octets_fault cert_refusals.Memory = faults.Memory

-- the fault for a refusal of the check
abbrev pub check_fault : Refusal → RunFault
check_fault (refusals.Fault fault) = faults.Fault fault
check_fault (refusals.Read fault) = faults.Read fault
check_fault refusals.Memory = faults.Memory

-- the fault for a wrong path text
abbrev pub path_fault : PathFault → RunFault
path_fault (path_faults.Text place) = faults.Path place
path_fault path_faults.Memory = faults.Memory

-- the fault for a cursor's fault
abbrev pub cursor_fault : CursorFault → RunFault
cursor_fault (cursor_faults.Read fault) = faults.Read fault
cursor_fault cursor_faults.Changed = faults.Changed
cursor_fault cursor_faults.Memory = faults.Memory

-- the fault for an object that could not be read
abbrev pub unread_fault : Unread → RunFault
unread_fault (unread.Read fault) = faults.Read fault
unread_fault unread.Changed = faults.Changed

-- if an object could not be read, and the file is the one that was checked, then a read failed
pub unread_excused : (fault : Unread) → IsUnread fault → IsExcused (unread_fault fault)
unread_excused (unread.Read _) h = tt
unread_excused unread.Changed h = absurd (h refl)

-- if a call of the cursor failed, and the file is the one that was checked, then a read failed or memory was refused
pub cursor_excused : (fault : CursorFault) → IsCursorExcused fault → IsExcused (cursor_fault fault)
cursor_excused (cursor_faults.Read _) h = tt
cursor_excused cursor_faults.Changed h = absurd (h refl)
cursor_excused cursor_faults.Memory h = tt

-- the fault for a printer's fault
abbrev pub print_fault : PrintFault → RunFault
print_fault (print_faults.NoAsciiForm part) = faults.NoAsciiForm part
print_fault print_faults.TooLong = faults.TooLong
print_fault (print_faults.Write sent) = faults.Write sent
print_fault (print_faults.Read fault) = faults.Read fault
print_fault print_faults.Changed = faults.Changed
print_fault print_faults.Memory = faults.Memory
