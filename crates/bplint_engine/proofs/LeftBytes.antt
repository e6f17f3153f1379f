-- What a run leaves with the writer.
use Rattle.std.proofs.Common.{◌⊎◌, inl, inr, ℕ, List, [], append-nil, sym, ◌∙◌, Option, None, Some, Result, Ok, Err, refl, arith}
use Rattle.std.specs.Io.KnownBytes.{Appends, Keeps}
use Rattle.bplist_octets.specs.Sending.{SendsSome}
use Rattle.bplint_lines.specs.declared.fault.RunFault.{RunFault}
use Rattle.bplint_lines.specs.declared.fault.RunFault.TheVariants as faults
use Rattle.bplint_engine.specs.declared.output.Led.{Led}
use Rattle.bplint_engine.specs.declared.output.Led.TheVariants.{There, Nowhere}
use Rattle.bplint_engine.specs.declared.output.Output.{Output}
use Rattle.bplint_lines.specs.declared.fault.Said.{Said}
use Rattle.bplint_lines.specs.declared.fault.Said.TheVariants.{All, SomeMissing}
use Rattle.bplint_lines.specs.Answers.{Answer, gives, refuses, BeginsAnswer, LeavesBy, LeavesWithin}
use Rattle.bplint_engine.specs.Output.{Answers, IsRefusal, LeavesLed, Sends}

-- nothing was added
nothing : (old new : Option (List ℕ)) → Keeps old new → Appends old new []
nothing None new h = tt
nothing (Some xs) None h = h
nothing (Some xs) (Some ys) h = h ∙ sym (append-nil xs)

module _ (Says : Answer → Type 0) where
  -- nothing is a first part of every answer
  pub begins_within : (bound : Option ℕ) (old new : Option (List ℕ)) → Keeps old new → BeginsAnswer Says bound old new
  begins_within None old new kept = (tt, inl kept)
  begins_within (Some most) old new kept = (([], omega arith, nothing old new kept), inl kept)

  -- what was refused before anything was written
  pub refused_within : (bound : Option ℕ) (old new : Option (List ℕ)) (fault : RunFault) → IsRefusal Says fault → Keeps old new
      → LeavesWithin Says bound old new (Err fault)
  refused_within bound old new (faults.Write _) h kept = absurd h
  refused_within bound old new (faults.Read _) h kept = begins_within bound old new kept
  refused_within bound old new faults.Memory h kept = begins_within bound old new kept
  refused_within bound old new _ h kept = (h, kept)

  -- what was made was sent
  pub sent_within : (bound : Option ℕ) (old new : Option (List ℕ)) (made : Result Output RunFault) (result : Result Said RunFault)
      → Answers Says made → Sends old new made result → LeavesWithin Says bound old new result
  sent_within bound old new (Ok output) (Ok said) says sends = (output.bytes.items, rw sends.0 says, sends.1)
  sent_within bound old new (Ok output) (Err fault) says (n, is, cut) = rw is (output.said, output.bytes.items, says, cut)
  sent_within bound old new (Err fault) result says (is, kept) = rw is (refused_within bound old new fault says kept)

pub kept_self : (old : Option (List ℕ)) → Keeps old old
kept_self None = tt
kept_self (Some xs) = refl

pub begins_nothing : (Says : Answer → Type 0) (most : ℕ) (old new : Option (List ℕ)) → Keeps old new → BeginsAnswer Says (Some most) old new
begins_nothing Says most old new kept = begins_within Says (Some most) old new kept

pub refused : (Says : Answer → Type 0) (most : ℕ) (old new : Option (List ℕ)) (fault : RunFault) → IsRefusal Says fault → Keeps old new
    → LeavesBy Says most old new (Err fault)
refused Says most old new fault h kept = refused_within Says (Some most) old new fault h kept

pub sent : (Says : Answer → Type 0) (most : ℕ) (old new : Option (List ℕ)) (made : Result Output RunFault) (result : Result Said RunFault)
    → Answers Says made → Sends old new made result → LeavesBy Says most old new result
sent Says most old new made result says sends = sent_within Says (Some most) old new made result says sends

begins_as : (P Q : Answer → Type 0) (old new : Option (List ℕ)) → ((a : Answer) → P a → Q a)
    → Keeps old new ⊎ ((said : Said) × (bytes : List ℕ) × P (gives said bytes) × SendsSome old new bytes)
    → Keeps old new ⊎ ((said : Said) × (bytes : List ℕ) × Q (gives said bytes) × SendsSome old new bytes)
begins_as P Q old new to (inl kept) = inl kept
begins_as P Q old new to (inr (said, bytes, says, some)) = inr (said, bytes, to (gives said bytes) says, some)

-- the same under another description of the answer
pub said_within : (P Q : Answer → Type 0) (bound : Option ℕ) (old new : Option (List ℕ)) (result : Result Said RunFault) → ((a : Answer) → P a → Q a)
    → LeavesWithin P bound old new result → LeavesWithin Q bound old new result
said_within P Q bound old new (Ok said) to (bytes, says, added) = (bytes, to (gives said bytes) says, added)
said_within P Q bound old new (Err (faults.Write n)) to (said, bytes, says, cut) = (said, bytes, to (gives said bytes) says, cut)
said_within P Q bound old new (Err (faults.Read fault)) to (few, begun) = (few, begins_as P Q old new to begun)
said_within P Q bound old new (Err faults.Memory) to (few, begun) = (few, begins_as P Q old new to begun)
said_within P Q bound old new (Err (faults.Fault fault)) to (h, kept) = (to (refuses (faults.Fault fault)) h, kept)
said_within P Q bound old new (Err (faults.Circle ns)) to (h, kept) = (to (refuses (faults.Circle ns)) h, kept)
said_within P Q bound old new (Err (faults.Path place)) to (h, kept) = (to (refuses (faults.Path place)) h, kept)
said_within P Q bound old new (Err (faults.NoAsciiForm n)) to (h, kept) = (to (refuses (faults.NoAsciiForm n)) h, kept)
said_within P Q bound old new (Err faults.TooLong) to (h, kept) = (to (refuses faults.TooLong) h, kept)
said_within P Q bound old new (Err faults.Hex) to (h, kept) = (to (refuses faults.Hex) h, kept)
said_within P Q bound old new (Err faults.Changed) to (h, kept) = (to (refuses faults.Changed) h, kept)
said_within P Q bound old new (Err faults.Open) to (h, kept) = (to (refuses faults.Open) h, kept)
said_within P Q bound old new (Err faults.InputTooLong) to (h, kept) = (to (refuses faults.InputTooLong) h, kept)

pub said_as : (P Q : Answer → Type 0) (most : ℕ) (old new : Option (List ℕ)) (result : Result Said RunFault) → ((a : Answer) → P a → Q a)
    → LeavesBy P most old new result → LeavesBy Q most old new result
said_as P Q most old new result to left = said_within P Q (Some most) old new result to left

pub led_as : (P Q : Answer → Type 0) (bound : Option ℕ) (old new : Option (List ℕ)) (result : Result Led RunFault) → ((a : Answer) → P a → Q a)
    → LeavesLed P bound old new result → LeavesLed Q bound old new result
led_as P Q bound old new (Ok There) to left = said_within P Q bound old new (Ok All) to left
led_as P Q bound old new (Ok (Nowhere line)) to (says, kept) = (to (gives SomeMissing line.items) says, kept)
led_as P Q bound old new (Err fault) to left = said_within P Q bound old new (Err fault) to left
