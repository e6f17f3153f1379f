-- What a source of bytes means, and what reads may change of it. Source of these definitions: profile.
use Rattle.std.specs.Prelude.{◌≡◌, ℕ, ◌-◌, ◌^◌, ◌≤◌, ◌∷◌, [], Bool, IsTrue, List, Option, None, Some}
use Rattle.bplist_octets.specs.declared.source.ReadFault.{ReadFault}

-- the bytes, whether successful reads return them, how many reads have failed, the fault of the last one that failed,
-- and what else the source has
pub record Meaning : Type 0 where
  pub octets : List ℕ
  pub honest : Bool
  pub failures : ℕ
  pub last : Option ReadFault
  pub extra : List (List ℕ)

-- the count of failures never exceeds this
abbrev pub last_count : ℕ
last_count = 2 ^ 64 - 1

-- a read has failed, the last one with this fault: the count of failures is higher, or at its limit, and nothing else
-- changed
pub record ReadFailed (fault : ReadFault) (old new : Meaning) : Type 0 where
  pub same : (new.octets ≡ old.octets) × (new.honest ≡ old.honest) × (new.extra ≡ old.extra)
  pub rises : old.failures ≤ new.failures
  pub stays_only_at_last : new.failures ≡ old.failures → old.failures ≡ last_count
  pub last : new.last ≡ Some fault

-- if the call reports the fault of a read, a read has failed, the last one with this fault; otherwise nothing changed
abbrev pub OnlyReads : Option ReadFault → Meaning → Meaning → Type 0
OnlyReads None old new = new ≡ old
OnlyReads (Some fault) old new = ReadFailed fault old new

-- if the source is honest, P holds of its bytes
abbrev pub Honestly : Meaning → (List ℕ → Type 0) → Type 0
Honestly m P = IsTrue m.honest → P m.octets

-- the meaning of a source that is read through the borrow with this ghost name
abbrev pub borrowed : ℕ → Meaning → Meaning
borrowed through m = record { octets = m.octets; honest = m.honest; failures = m.failures; last = m.last; extra = (through ∷ []) ∷ m.extra }
