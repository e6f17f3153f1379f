-- The lines of faults, without line feeds, and their exit statuses. Source: profile.
use Rattle.std.specs.Prelude.{ℕ, List, codes, None}
use Rattle.bplist_octets.specs.FaultLines.{read_line, write_line}
use Rattle.bplist_objects.specs.FaultLines.{changed_line, circle_line, fault_line, memory_line}
use Rattle.bplist_objects.specs.declared.rule.Rule.TheVariants.{PathText}
use Rattle.bplist_ascii.specs.FormLines.{no_form_line, too_long_line}
use Rattle.bplint_lines.specs.declared.fault.RunFault.{RunFault}
use Rattle.bplint_lines.specs.declared.fault.RunFault.TheVariants.{Fault as is_fault, Circle as is_circle, Path, NoAsciiForm, TooLong, Read, Hex, Changed, Write, Memory, Open, InputTooLong}

-- the line of a fault and its exit status: 1 file or its text, 2 path text, 4 refused memory, 3 everything else
abbrev pub report_of : RunFault → List ℕ × ℕ
report_of (is_fault fault) = (fault_line fault, elim fault.rule [ PathText ↦ 2 | _ ↦ 1 ])
report_of (is_circle objects) = (circle_line objects, 1)
report_of (Path place) = (fault_line (record { rule = PathText; object = None; place = place }), 2)
report_of (NoAsciiForm n) = (no_form_line n, 1)
report_of TooLong = (too_long_line, 1)
report_of (Read error) = (read_line error, 3)
report_of Hex = (codes "read Hex", 3)
report_of Changed = (changed_line, 3)
report_of (Write sent) = (write_line sent, 3)
report_of Memory = (memory_line, 4)
report_of Open = (codes "read Open", 3)
report_of InputTooLong = (codes "read TooLong", 3)
