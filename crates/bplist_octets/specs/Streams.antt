-- What reads of a stream give where its bytes are known, and what a source over it means. Source of these definitions:
-- profile.
use Rattle.std.specs.Prelude.{◌≡◌, ℕ, ◌+◌, ◌<◌, List, [], Option, Some, None, IfSome, length, take, replicate, true, false}
use Rattle.std.specs.Option.{ForSome}
use Rattle.bplist_octets.specs.Octets.{part}
use Rattle.bplist_octets.specs.Meaning.{Meaning}
use Rattle.bplist_octets.specs.declared.source.ReadFault.{ReadFault}
use Rattle.bplist_octets.specs.declared.source.ReadFault.TheVariants.{Ended}

-- known bytes are so many
abbrev pub IsLength : Option (List ℕ) → ℕ → Type 0
IsLength known n = ForSome known (λ xs. length xs ≡ n)

-- the n bytes from the old position on are at the front of the buffer, and the new position is behind them
abbrev pub ReadsOn : Option (List ℕ) → ℕ → ℕ → ℕ → List ℕ → Type 0
ReadsOn known old new n into = IfSome known (λ xs. (take n into ≡ part xs old n) × (new ≡ old + n))

-- the bytes from the old position on fill the buffer, and the new position is behind them
abbrev pub Fills : Option (List ℕ) → ℕ → ℕ → List ℕ → Type 0
Fills known old new into = IfSome known (λ xs. (into ≡ part xs old (length into)) × (new ≡ old + length into))

-- what a fault says of a buffer of n bytes that is not full: after `Ended` there are fewer than n bytes from the
-- position on
abbrev pub FillFailed : Option (List ℕ) → ℕ → ℕ → ReadFault → Type 0
FillFailed known position n fault = elim fault [ Ended ↦ IfSome known (λ xs. length xs < position + n) | _ ↦ Unit {0} ]

-- what a source over a stream of this length means: it is honest if the bytes are known. Otherwise no read promises
-- them, so any list of this length would do
abbrev pub meaning_of_stream : Option (List ℕ) → ℕ → ℕ → Option ReadFault → Meaning
meaning_of_stream (Some xs) n failures last = record { octets = xs; honest = true; failures = failures; last = last; extra = [] }
meaning_of_stream None n failures last = record { octets = replicate n 0; honest = false; failures = failures; last = last; extra = [] }
