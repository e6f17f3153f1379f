-- The exit status of a run. Source: profile.
use Rattle.std.specs.Prelude.{◌≡◌, ◌⊎◌, ◌≤◌, ℕ, max, Result, Ok, Err}
use Rattle.clap.specs.declared.error.kind.ErrorKind.{ErrorKind}
use Rattle.clap.specs.declared.error.kind.ErrorKind.TheVariants as kinds
use Rattle.bplint_lines.specs.declared.fault.RunFault.TheVariants.{Memory}
use Rattle.bplint_lines.specs.declared.raw_fault.RawFault.{RawFault}
use Rattle.bplint_lines.specs.declared.raw_fault.RawFault.TheVariants.{Run}
use Rattle.bplint_lines.specs.declared.fault.Said.{Said}
use Rattle.bplint_lines.specs.declared.fault.Said.TheVariants.{All, SomeMissing}
use Rattle.bplint_lines.specs.RawFaults.{raw_report_of}

-- the exit status of an answer; refused memory may replace another fault, because its line takes memory
abbrev pub EndsWith : Result Said RawFault → ℕ → Type 0
EndsWith (Ok All) status = status ≡ 0
EndsWith (Ok SomeMissing) status = status ≡ 1
EndsWith (Err fault) status = (status ≡ (raw_report_of fault).1) ⊎ (status ≡ 4)

-- the same answer, unless memory was refused for what is said below it
abbrev pub IsStillEnd : Result Said RawFault → Result Said RawFault → Type 0
IsStillEnd old new = (new ≡ old) ⊎ (new ≡ Err (Run Memory))

-- each exit status of the answer is 3 or more
abbrev pub Fails : Result Said RawFault → Type 0
Fails answer = (status : ℕ) → EndsWith answer status → 3 ≤ status

-- the exit status is this one, or it is 3 or more
abbrev pub IsOrFails : ℕ → ℕ → Type 0
IsOrFails wanted status = (status ≡ wanted) ⊎ (3 ≤ status)

-- the greatest exit status is raised to one of which Ends holds
abbrev pub Raises : (ℕ → Type 0) → ℕ → ℕ → Type 0
Raises Ends old new = (status : ℕ) × Ends status × (new ≡ max old status)

-- the exit status of a text for standard output: that of a failed write if it cannot be written, or of refused memory
abbrev pub IsPrintedWith : ℕ → Type 0
IsPrintedWith status = (status ≡ 0) ⊎ ((status ≡ 3) ⊎ (status ≡ 4))

-- the exit status of a command line that clap does not accept: help or version, refused memory, or an error
abbrev pub IsRefusedWith : ErrorKind → ℕ → Type 0
IsRefusedWith kinds.DisplayHelp status = IsPrintedWith status
IsRefusedWith kinds.DisplayVersion status = IsPrintedWith status
IsRefusedWith kinds.OutOfMemory status = status ≡ 4
IsRefusedWith _ status = status ≡ 2
