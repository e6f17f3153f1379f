-- What replies to queries about a file and a certificate say about the file: the theorem. Source: profile.
use Rattle.std.specs.Prelude.{◌≡◌, ℕ, List, map, Option, None, Some, Result, Err}
use Rattle.bplist_octets.specs.declared.source.ReadFault.{ReadFault}
use Rattle.bplist_objects.specs.declared.fault.Fault.{Fault}
use Rattle.bplist_cert.specs.Sound.{IsSound}
use Rattle.bplist_cursor.specs.declared.replies.Query.{Query}
use Rattle.bplist_cursor.specs.declared.replies.Reply.{Reply}
use Rattle.bplist_cursor.specs.declared.certified_answers.AnswerFault.{AnswerFault}
use Rattle.bplist_cursor.specs.declared.certified_answers.AnswerFault.TheVariants as faults
use Rattle.bplist_cursor.specs.Replies.{reply}

-- the file is sound, and the replies are those of its one value
abbrev pub IsAnswered : List ℕ → List Query → List Reply → Type 0
IsAnswered f queries replies = (sound : IsSound f) × (replies ≡ map (reply sound.value) queries)

-- the fault of the failed read that the result is, if it is one
abbrev pub answer_read : {X : Type 0} → Result X AnswerFault → Option ReadFault
answer_read answer = elim answer [ Err (faults.Read fault) ↦ Some fault | _ ↦ None ]

-- Q holds of the broken rule, unless a read failed or memory was refused; the fault is never `Changed`
abbrev pub RefusesBy : (Fault → Type 0) → AnswerFault → Type 0
RefusesBy Q fault =
    elim fault [ faults.Fault broken ↦ Q broken | faults.Changed ↦ ⊥ | _ ↦ Unit {0} ]
