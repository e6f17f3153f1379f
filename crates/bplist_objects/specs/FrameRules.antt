-- How rules 1 to 13 of a file as a whole are broken, and where. Source: profile.
use Rattle.std.specs.Prelude.{◌≡◌, ℕ, ◌+◌, ◌*◌, ◌<◌, List, [], ◌∷◌, length, slice_index, Option, Some, None}
use denote.Enum.Declared.{tag_of}
use Rattle.bplist_objects.specs.contracts.rule.Rule.{the_type}
use Rattle.bplist_objects.specs.declared.rule.Rule.{Rule}
use Rattle.bplist_objects.specs.declared.rule.Rule.TheVariants.{Magic, OffsetHigh}
use Rattle.bplist_objects.specs.declared.fault.Fault.{Fault}
use Rattle.bplist_objects.specs.declared.frame.ObjectNo.{ObjectNo}
use Rattle.bplist_objects.specs.Frame.{header, trailer, frame_rules, Keeps}
use Rattle.bplist_objects.specs.Rules.{IsFirstFault}
use Rattle.bplist_objects.specs.Claims.{FailsAt}
use Rattle.bplist_objects.specs.Scan.{IsFirstNotBelow}

-- for rules 1 to 12, how many bytes before the file's end each is broken; rule 3 has a place of its own
abbrev pub from_end : List ℕ
from_end = 0 ∷ 0 ∷ 0 ∷ 24 ∷ 16 ∷ 8 ∷ 8 ∷ 26 ∷ 25 ∷ 32 ∷ 25 ∷ 26 ∷ []

-- the file breaks this one of rules 1 to 13 with this object and place; rule 13 with its first such entry
abbrev pub Breaks : List ℕ → Rule → Option ObjectNo → ℕ → Type 0
Breaks f Magic object place =
    FailsAt (λ n. (i : ℕ) → i < n → slice_index f i ≡ slice_index header i) 8 place × (object ≡ None)
Breaks f OffsetHigh object place =
    let F = trailer f in
    (n : ℕ) × IsFirstNotBelow f F.table F.offset_size F.objects F.table n
    × (object ≡ Some (record { 0 = n })) × (place ≡ F.table + n * F.offset_size)
Breaks f rule object place =
    (Keeps f rule → ⊥) × (object ≡ None)
    × (place + slice_index from_end (tag_of the_type rule) ≡ length f)

-- the fault is of the first broken one of rules 1 to 13
abbrev pub IsFrameFault : List ℕ → Fault → Type 0
IsFrameFault f fault = IsFirstFault (Keeps f) (Breaks f) frame_rules fault
