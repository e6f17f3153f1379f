-- The output or fault of a command, and how it is sent. Source: profile.
use Rattle.std.specs.Prelude.{◌≡◌, ℕ, List, Option, Result, Ok, Err}
use Rattle.std.specs.Io.KnownBytes.{Appends, Keeps}
use Rattle.bplist_octets.specs.declared.source.ReadFault.{ReadFault}
use Rattle.bplist_octets.specs.Sending.{SendsPart}
use Rattle.bplint_lines.specs.declared.fault.RunFault.{RunFault}
use Rattle.bplint_lines.specs.declared.fault.RunFault.TheVariants as faults
use Rattle.bplint_lines.specs.declared.fault.Said.{Said}
use Rattle.bplint_lines.specs.declared.fault.Said.TheVariants.{All, SomeMissing}
use Rattle.bplint_lines.specs.Answers.{Answer, gives, refuses, read_failed, LeavesWithin}
use Rattle.bplint_engine.specs.declared.output.Led.{Led}
use Rattle.bplint_engine.specs.declared.output.Led.TheVariants.{There, Nowhere}
use Rattle.bplint_engine.specs.declared.output.Output.{Output}

-- the fault of the failed read that the error is, if it is one
abbrev pub read_fault_of : RunFault → Option ReadFault
read_fault_of fault = read_failed {X = Unit {0}} (Err fault)

-- this fault may come before anything is written; a failed read or refused memory may always come
abbrev pub IsRefusal : (Answer → Type 0) → RunFault → Type 0
IsRefusal Says (faults.Write _) = ⊥
IsRefusal Says (faults.Read _) = Unit {0}
IsRefusal Says faults.Memory = Unit {0}
IsRefusal Says fault = Says (refuses fault)

-- these bytes, or this fault, are the answer
abbrev pub Answers : (Answer → Type 0) → Result Output RunFault → Type 0
Answers Says (Ok output) = Says (gives output.said output.bytes.items)
Answers Says (Err fault) = IsRefusal Says fault

-- the output was sent: all of its bytes, or a first part of them if a write failed; a fault sends nothing
abbrev pub Sends : Option (List ℕ) → Option (List ℕ) → Result Output RunFault → Result Said RunFault → Type 0
Sends old new (Ok output) (Ok said) = (said ≡ output.said) × Appends old new output.bytes.items
Sends old new (Ok output) (Err fault) = (sent : ℕ) × (fault ≡ faults.Write sent) × SendsPart old new 0 output.bytes.items sent
Sends old new (Err fault) result = (result ≡ Err fault) × Keeps old new

-- what a run leaves with the writer that hands out the line of a path that leads nowhere, and then writes nothing
abbrev pub LeavesLed : (Answer → Type 0) → Option ℕ → Option (List ℕ) → Option (List ℕ) → Result Led RunFault → Type 0
LeavesLed Says bound old new (Ok There) = LeavesWithin Says bound old new (Ok All)
LeavesLed Says bound old new (Ok (Nowhere line)) = Says (gives SomeMissing line.items) × Keeps old new
LeavesLed Says bound old new (Err fault) = LeavesWithin Says bound old new (Err fault)
