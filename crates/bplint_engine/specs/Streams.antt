-- Bytes that go through a sink, and places between the characters of UTF-16 units. Source: profile.
use Rattle.std.specs.Prelude.{◌≡◌, ℕ, ◌-◌, ◌&&◌, List, [], ◌++◌, false, slice_index, Option, Result, MatchResult, OnOk}
use Rattle.std.specs.Char.Utf16.{is_high_surrogate, is_low_surrogate}
use Rattle.std.specs.Io.KnownBytes.{Appends}
use Rattle.bplist_octets.specs.Sending.{Sending, SendsSome, Takes, TakesPart}
use Rattle.bplint_lines.specs.declared.fault.RunFault.{RunFault}
use Rattle.bplint_lines.specs.declared.fault.RunFault.TheVariants as faults

-- a sink that has sent nothing and holds nothing
abbrev pub begun : Sending
begun = record { sent = 0; held = [] }

module _ (old new : Option (List ℕ)) (before : Sending) where
  -- why bytes were not all put into a sink: a write failed; or a read failed or memory was refused after a first part
  abbrev pub Fails : List ℕ → RunFault → Type 0
  Fails bytes (faults.Write sent) = TakesPart old new before bytes sent
  Fails bytes (faults.Read _) = SendsSome old new (before.held ++ bytes)
  Fails bytes faults.Memory = SendsSome old new (before.held ++ bytes)
  Fails bytes _ = ⊥

-- the bytes were put into a sink, or why they were not
abbrev pub Puts : Option (List ℕ) → Option (List ℕ) → Sending → Sending → List ℕ → Result (Unit {0}) RunFault → Type 0
Puts old new before after bytes result =
    MatchResult result (λ _. Takes old new before after bytes) (Fails old new before bytes)

-- after Ok, bytes of which P holds were put into a sink
abbrev pub PutsSome : (List ℕ → Type 0) → Option (List ℕ) → Option (List ℕ) → Sending → Sending → Result (Unit {0}) RunFault → Type 0
PutsSome P old new before after result = OnOk result ((bytes : List ℕ) × P bytes × Takes old new before after bytes)

-- the bytes were written, or why they were not
abbrev pub SendsAll : Option (List ℕ) → Option (List ℕ) → List ℕ → Result (Unit {0}) RunFault → Type 0
SendsAll old new bytes result = MatchResult result (λ _. Appends old new bytes) (Fails old new begun bytes)

-- this place is not inside a pair of surrogates
abbrev pub IsCut : List ℕ → ℕ → Type 0
IsCut units place = (is_high_surrogate (slice_index units (place - 1)) && is_low_surrogate (slice_index units place)) ≡ false
