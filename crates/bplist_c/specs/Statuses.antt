-- How C is given an answer. Source: profile.
use Prim.Native.String.{String}
use Rattle.std.specs.Prelude.{◌≡◌, ℕ, suc, nat_le, if◌then◌else◌, List, [], ◌∷◌, ◌++◌, codes, length, drop, get_or, Result, MatchResult, Ok, Err, Vec}
use Rattle.std.specs.Global.{Global}
use denote.Enum.Declared.{tag_of}
use Rattle.bplist_c.specs.declared.status.Status.{Status}
use Rattle.bplist_c.specs.declared.status.Status.TheVariants as statuses
use Rattle.bplist_c.specs.contracts.status.Status.{the_type}

-- the number of a status in the header: its position among the statuses, from 1
abbrev pub status_number : Status → ℕ
status_number status = suc (tag_of the_type status)

-- the sentences of the statuses from 1 on, in the order of their numbers
abbrev pub sentences : List String
sentences =
    "The file or the certificate breaks a rule."
    ∷ "A growth of memory was refused."
    ∷ "The handle is closed."
    ∷ "The handle is open already."
    ∷ "The file has changed, or is not the one that was opened."
    ∷ "The file has no checked object with that number."
    ∷ "The object is of another kind than the call asks for."
    ∷ "The object has no such member."
    ∷ "The dictionary has no such key."
    ∷ "The step of the path is not an index of the array."
    ∷ "The value is neither a dictionary nor an array."
    ∷ "The path is not a JSON Pointer."
    ∷ "The path is not UTF-8."
    ∷ "The buffer is too short."
    ∷ "The value has no old-style text."
    ∷ "There is no rule with that number."
    ∷ "There is no status with that number."
    ∷ "A half of a surrogate pair stands alone in the text, which has no UTF-8." ∷ []

-- the sentence of a status
abbrev pub sentence_of : Status → List ℕ
sentence_of status = codes (get_or sentences (tag_of the_type status) "")

-- status 0 and the answer, or why there is none with an unchanged output
abbrev pub Tells : {X : Type 0} → Result X Status → X → X → ℕ → Type 0
Tells answer old new status = MatchResult answer (λ x. (status ≡ 0) × (new ≡ x)) (λ why. (status ≡ status_number why) × (new ≡ old))

-- the items are counted, and written to the front of the buffer if they fit; or why there are none, with all unchanged
abbrev pub PutsItems : {X : Type 0} → Result (List X) Status → List X → List X → ℕ → ℕ → ℕ → Type 0
PutsItems (Ok items) old new was count status = (count ≡ length items)
    × Tells (if nat_le (length items) (length old) then Ok (items ++ drop (length items) old) else Err statuses.Short) old new status
PutsItems (Err why) old new was count status = (status ≡ status_number why) × (new ≡ old) × (count ≡ was)

-- the result as a list of items
abbrev pub items_of : {X : Type 0} → Result (Vec X Global) Status → Result (List X) Status
items_of answer = elim answer [ Ok items ↦ Ok items.items | Err why ↦ Err why ]
