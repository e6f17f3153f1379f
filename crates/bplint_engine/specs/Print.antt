-- What `print` says. Source: profile.
use Rattle.std.specs.Prelude.{◌≡◌, ◌≢◌, ◌∷◌, ◌++◌, ℕ, List, [], codes, None, Err, MatchResult, ⊤}
use Rattle.bplist_objects.specs.declared.frame.Frame.{Frame}
use Rattle.bplist_objects.specs.Frame.{IsFrame}
use Rattle.bplist_objects.specs.Value.{Value}
use Rattle.bplist_cursor.specs.Formless.{IsFormless}
use Rattle.bplist_cursor.specs.Leads.{LeadTo}
use Rattle.bplist_cursor.specs.Look.{look}
use Rattle.bplist_cursor.specs.OldStyle.{value_text}
use Rattle.bplist_ascii.specs.Printed.{HasText}
use Rattle.bplint_lines.specs.declared.fault.Said.TheVariants.{All, SomeMissing}
use Rattle.bplint_lines.specs.declared.fault.RunFault.TheVariants as faults
use Rattle.bplint_lines.specs.Answers.{Answer, gives, refuses}
use Rattle.bplint_lines.specs.declared.texts.Style.TheVariants.{OldStyle}
use Rattle.bplint_engine.specs.Get.{found_line}
use Rattle.bplint_engine.specs.PathTexts.{ForPaths}

-- the text of the value that object n holds, or why it has none: a part of it has no form, or the text is too long
abbrev pub NodeSays : List ℕ → Frame → ℕ → ℕ → Value → Answer → Type 0
NodeSays f F limit n w (gives said bytes) = HasText w limit (λ text. (said ≡ All) × (bytes ≡ text ++ codes "\n"))
NodeSays f F limit n w (refuses (faults.NoAsciiForm part)) = (value_text w ≡ None) × IsFormless f F n w part.0
NodeSays f F limit n w (refuses faults.TooLong) = (value_text w ≢ None) × (¬ HasText w limit (λ _. ⊤))
NodeSays f F limit n w (refuses _) = ⊥

-- `print` writes the text of the value under the path, or that the path leads nowhere
abbrev pub PathSays : List ℕ → Frame → ℕ → List (List ℕ) → Value → Answer → Type 0
PathSays f F limit steps v answer = MatchResult (look 0 v steps)
    (λ w. (n : ℕ) × LeadTo f F F.top.0 steps n × NodeSays f F limit n w answer)
    (λ missing. answer ≡ gives SomeMissing (found_line OldStyle (Err missing)))

-- the answer of `print` for one path text, if Says accepts the file
abbrev pub PrintSays : ℕ → (Answer → Type 0) → List ℕ → List (List ℕ) → Answer → Type 0
PrintSays limit Says f texts = ForPaths Says f texts (λ paths v answer.
    (steps : List (List ℕ)) × (F : Frame) × (paths ≡ steps ∷ []) × IsFrame f F × PathSays f F limit steps v answer)
