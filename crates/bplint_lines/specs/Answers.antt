-- Answers to a command, and what they leave with the writer. Source: profile.
use Rattle.std.specs.Prelude.{◌⊎◌, ℕ, List, Option, None, Some, IfSome, Result, Ok, Err}
use Rattle.std.specs.Io.KnownBytes.{Appends, Keeps}
use Rattle.bplist_octets.specs.declared.source.ReadFault.{ReadFault}
use Rattle.bplist_octets.specs.Sending.{SendsPart, SendsSome, AtMost}
use Rattle.bplint_lines.specs.declared.fault.RunFault.{RunFault}
use Rattle.bplint_lines.specs.declared.fault.RunFault.TheVariants as faults
use Rattle.bplint_lines.specs.declared.fault.Said.{Said}

-- bytes to write and whether each path led to a value, or a fault
pub data Answer : Type 0 where
  gives : Said → List ℕ → Answer
  refuses : RunFault → Answer

-- the fault of the failed read that the result is, if it is one
abbrev pub read_failed : {X : Type 0} → Result X RunFault → Option ReadFault
read_failed answer = elim answer [ Err (faults.Read fault) ↦ Some fault | _ ↦ None ]

module _ (Says : Answer → Type 0) (bound : Option ℕ) (old new : Option (List ℕ)) where
  -- nothing was written, or a first part of the answer; if there is a bound, of at most so many bytes
  abbrev pub BeginsAnswer : Type 0
  BeginsAnswer = IfSome bound (AtMost old new)
      × (Keeps old new ⊎ ((said : Said) × (bytes : List ℕ) × Says (gives said bytes) × SendsSome old new bytes))

  -- what a run leaves with the writer: the whole answer; after `Write`, `Read` or `Memory` a first part of it; after
  -- any other fault nothing
  abbrev pub LeavesWithin : Result Said RunFault → Type 0
  LeavesWithin (Ok said) = (bytes : List ℕ) × Says (gives said bytes) × Appends old new bytes
  LeavesWithin (Err (faults.Write sent)) =
      (said : Said) × (bytes : List ℕ) × Says (gives said bytes) × SendsPart old new 0 bytes sent
  LeavesWithin (Err (faults.Read _)) = BeginsAnswer
  LeavesWithin (Err faults.Memory) = BeginsAnswer
  LeavesWithin (Err fault) = Says (refuses fault) × Keeps old new

-- what a run leaves with the writer that sends its answer as it makes it: the first part has no bound
abbrev pub LeavesSomeBy : (Answer → Type 0) → Option (List ℕ) → Option (List ℕ) → Result Said RunFault → Type 0
LeavesSomeBy Says old new result = LeavesWithin Says None old new result

module _ (Says : Answer → Type 0) (most : ℕ) (old new : Option (List ℕ)) where
  -- what a run leaves with the writer if a first part, after `Read` or `Memory`, has at most `most` bytes
  abbrev pub LeavesBy : Result Said RunFault → Type 0
  LeavesBy result = LeavesWithin Says (Some most) old new result

  -- the same as a mere fact
  abbrev pub Leaves : Result Said RunFault → Type 0
  Leaves result = ∥ LeavesBy result ∥₁
