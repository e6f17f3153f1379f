-- What `get` says. Source: profile.
use Rattle.std.specs.Prelude.{◌≡◌, ◌++◌, ℕ, List, [], codes, map, Bool, true, false, if◌then◌else◌, Result, Ok, Err, is_err}
use Rattle.std.specs.List.{flat_map, list_any}
use Rattle.bplist_objects.specs.Value.{Value}
use Rattle.bplist_cursor.specs.declared.certified_answers.AnswerFault.{AnswerFault}
use Rattle.bplist_cursor.specs.declared.certified_answers.AnswerFault.TheVariants as answers
use Rattle.bplist_cursor.specs.declared.node.Why.{Why}
use Rattle.bplist_cursor.specs.declared.replies.Reply.{Reply}
use Rattle.bplist_cursor.specs.declared.replies.Reply.TheVariants.{Face, Missing}
use Rattle.bplist_cursor.specs.Look.{look}
use Rattle.bplist_cursor.specs.Replies.{face}
use Rattle.bplint_lines.specs.declared.fault.RunFault.{RunFault}
use Rattle.bplint_lines.specs.declared.fault.RunFault.TheVariants as faults
use Rattle.bplint_lines.specs.declared.fault.Said.{Said}
use Rattle.bplint_lines.specs.declared.fault.Said.TheVariants.{All, SomeMissing}
use Rattle.bplint_lines.specs.declared.texts.Style.{Style}
use Rattle.bplint_lines.specs.Answers.{Answer, gives}
use Rattle.bplint_lines.specs.OutputLines.{face_line, missing_line}
use Rattle.bplint_engine.specs.PathTexts.{ForPaths}

-- the line of the value under a path, or of a path that leads nowhere
abbrev pub found_line : Style → Result Value (ℕ × Why) → List ℕ
found_line style (Ok w) = face_line style (face w) ++ codes "\n"
found_line style (Err (step, why)) = missing_line step why ++ codes "\n"

-- whether some path leads nowhere
abbrev pub said_of : List (Result Value (ℕ × Why)) → Said
said_of found = if list_any is_err found then SomeMissing else All

-- the answer is the lines of what the paths lead to, one after the other, if Says accepts the file
abbrev pub LinesSay : (Result Value (ℕ × Why) → List ℕ) → (Answer → Type 0) → List ℕ → List (List ℕ) → Answer → Type 0
LinesSay lines Says f texts = ForPaths Says f texts (λ paths v answer.
    answer ≡ gives (said_of (map (look 0 v) paths)) (flat_map lines (map (look 0 v) paths)))

-- ---- replies
-- the line of a reply to a path
abbrev pub reply_line : Style → Reply → List ℕ
reply_line style (Face face) = face_line style face ++ codes "\n"
reply_line style (Missing step why) = missing_line step why ++ codes "\n"
reply_line style _ = []

-- true if the reply says that the path leads nowhere
abbrev pub is_missing : Reply → Bool
is_missing reply = elim reply [ Missing step why ↦ true | _ ↦ false ]

-- whether some reply says that a path leads nowhere
abbrev pub replies_said : List Reply → Said
replies_said replies = if list_any is_missing replies then SomeMissing else All

-- the fault of a run for each fault of the cursor
abbrev pub answer_fault : AnswerFault → RunFault
answer_fault (answers.Fault broken) = faults.Fault broken
answer_fault (answers.Read failed) = faults.Read failed
answer_fault answers.Changed = faults.Changed
answer_fault answers.Memory = faults.Memory
