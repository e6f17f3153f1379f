-- What C is given of a text, and of a key, in UTF-8. Source: RFC 3629 and Unicode, chapter 3.9, as std has them.
use Rattle.std.specs.Prelude.{◌≡◌, ◌⊎◌, ℕ, List, [], ◌∷◌, flat_map, encode_utf8_all, Result, Ok, Err, true, false}
use Rattle.std.specs.Str.{IsUtf8, chars}
use Rattle.std.specs.Char.Escape.{encode_utf16}
use Rattle.std.specs.Char.Utf16.{has_unpaired_surrogate, utf16_lossy_chars}
use Rattle.bplist_objects.specs.Heads.{Content, leaf}
use Rattle.bplist_objects.specs.Holds.{Holds}
use Rattle.bplist_objects.specs.Value.{text}
use Rattle.bplist_cert.specs.CheckedFile.{CheckedFile}
use Rattle.bplist_cursor.specs.Found.{IsFound}
use Rattle.bplist_cursor.specs.declared.node.Found.{Found}
use Rattle.bplist_c.specs.declared.status.Status.{Status}
use Rattle.bplist_c.specs.declared.status.Status.TheVariants as statuses
use Rattle.bplist_c.specs.Lookup.{step_answer}
use Rattle.bplist_c.specs.Objects.{OnObject}

-- the UTF-8 of the characters of these units; or a half of a surrogate pair stands alone in them, or memory was refused
abbrev pub IsUtf8Of : List ℕ → Result (List ℕ) Status → Type 0
IsUtf8Of units (Ok bytes) = (has_unpaired_surrogate units ≡ false) × (bytes ≡ encode_utf8_all (utf16_lossy_chars units))
IsUtf8Of units (Err why) =
    ((has_unpaired_surrogate units ≡ true) × (why ≡ statuses.Unpaired)) ⊎ (why ≡ statuses.Memory)

-- the UTF-8 of the text that is spelled, or that no text is spelled
abbrev pub Utf8Says : Content → Result (List ℕ) Status → Type 0
Utf8Says content answer = elim content [ leaf (text units) ↦ IsUtf8Of units answer | _ ↦ answer ≡ Err statuses.OtherKind ]

-- what the step with these bytes as its key leads to, from that object; or that they are no UTF-8, or refused memory
abbrev pub KeySays : List ℕ → ℕ → CheckedFile → Result ℕ Status → Type 0
KeySays key n checked answer = ((¬ IsUtf8 key) × (answer ≡ Err statuses.NotUtf8)) ⊎ (answer ≡ Err statuses.Memory)
    ⊎ (IsUtf8 key × OnObject checked n Holds (λ v found. (place : Found) × (found ≡ step_answer place)
    × IsFound checked n v (flat_map encode_utf16 (chars key) ∷ []) place) answer)
