-- Inputs that are read as a whole, and why an input is refused. Source: profile.
use Rattle.std.specs.Prelude.{◌≡◌, ◌≤◌, ◌⊎◌, ℕ, Bool, true, List, [], None, codes, take, vec_len}
use Rattle.std.specs.Str.{bytes_eq}
use Rattle.bplist_octets.specs.Meaning.{Meaning}
use Rattle.bplint.specs.declared.input.Operand.{Operand}
use Rattle.bplint.specs.declared.input.Operand.TheVariants.{Disk, Memory}
use Rattle.bplist_octets.specs.declared.source.ReadFault.TheVariants.{Device, TooManyTurns}
use Rattle.bplint.specs.declared.input_fault.InputFault.{InputFault}
use Rattle.bplint.specs.declared.input_fault.InputFault.TheVariants.{Folder, Open, Read, TooLong}
use Rattle.bplint.specs.declared.input_fault.InputFault.TheVariants as faults

-- a fault of reading an input as a whole
abbrev pub IsWholeFault : InputFault → Type 0
IsWholeFault fault = (fault ≡ TooLong) ⊎ ((fault ≡ faults.Memory) ⊎ ((fault ≡ Read Device) ⊎ (fault ≡ Read TooManyTurns)))

-- a fault of an input: it could not be opened, is a folder, or could not be read as a whole
abbrev pub IsInputFault : InputFault → Type 0
IsInputFault (Open _) = Unit {0}
IsInputFault Folder = Unit {0}
IsInputFault fault = IsWholeFault fault

-- the fault is a failed read
abbrev pub IsReadFault : InputFault → Type 0
IsReadFault fault = elim fault [ Read _ ↦ Unit {0} | _ ↦ ⊥ ]

-- what a source means that has its bytes in memory
abbrev pub in_memory : List ℕ → Meaning
in_memory f = record { octets = f; honest = true; failures = 0; last = None; extra = [] }

-- the input was read to its end, and is not longer than the limit for such inputs
abbrev pub IsReadWhole : Operand → Type 0
IsReadWhole (Memory text) = vec_len text ≤ 67108864
IsReadWhole (Disk _) = ⊥

-- a file begins like a binary property list of any version
abbrev pub starts_with_bplist : List ℕ → Bool
starts_with_bplist f = bytes_eq (codes "bplist") (take 6 f)

-- the input is not longer than the limit for inputs that are read as a whole
abbrev pub IsShort : Operand → Type 0
IsShort (Memory text) = vec_len text ≤ 67108864
IsShort (Disk file) = file.len ≤ 67108864

-- the input is empty
abbrev pub IsNothing : Operand → Type 0
IsNothing (Memory text) = text.items ≡ []
IsNothing (Disk _) = ⊥

-- if the input is in memory, P holds of its bytes
abbrev pub OfWhole : (List ℕ → Type 0) → Operand → Type 0
OfWhole P (Memory text) = P text.items
OfWhole P (Disk _) = Unit {0}
