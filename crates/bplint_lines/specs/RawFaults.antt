-- The lines of `show --raw` for a value that has no raw bytes, and the exit statuses. Source: profile.
use Rattle.std.specs.Prelude.{ℕ, List, ◌++◌, codes}
use Rattle.std.specs.Fmt.{decimal}
use Rattle.bplint_lines.specs.declared.raw_fault.RawFault.{RawFault}
use Rattle.bplint_lines.specs.declared.raw_fault.RawFault.TheVariants.{Run, NoRawForm}
use Rattle.bplint_lines.specs.FaultLines.{report_of}

-- the line of a fault and its exit status, which is 1 if the value has no raw bytes
abbrev pub raw_report_of : RawFault → List ℕ × ℕ
raw_report_of (Run fault) = report_of fault
raw_report_of (NoRawForm n) = (codes "form NoRawForm object " ++ decimal n.0, 1)
