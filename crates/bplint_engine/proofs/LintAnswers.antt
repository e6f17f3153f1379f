-- What `lint` says, derived from the contract of the linter.
use Rattle.std.proofs.Common.{◌≡◌, ℕ, List, ◌++◌, Result, Ok, Err, codes, refl}
use Rattle.bplist_objects.specs.declared.frame.Frame.{Frame}
use Rattle.bplist_objects.specs.declared.head.Kind.{Kind}
use Rattle.bplist_objects.specs.Frame.{IsFrame}
use Rattle.bplist_objects.specs.Heads.{Content, Spells}
use Rattle.bplist_objects.proofs.HeadTies.{spells_head}
use Rattle.bplist_lint.specs.declared.answer.Lint.{Lint}
use Rattle.bplist_lint.specs.declared.answer.LintRefusal.{LintRefusal}
use Rattle.bplist_lint.specs.declared.answer.LintRefusal.TheVariants as refusals
use Rattle.bplist_lint.specs.FileFault.{IsFileFault, IsFileCircle}
use Rattle.bplist_lint.specs.Linted.{IsLintedBy}
use Rattle.bplist_lint.specs.Refusals.{Refuses}
use Rattle.bplint_lines.specs.declared.fault.RunFault.{RunFault}
use Rattle.bplint_lines.specs.Faults.{GivesOrIsExcused}
use Rattle.bplint_lines.specs.declared.fault.Said.TheVariants.{All}
use Rattle.bplint_lines.specs.Answers.{gives}
use Rattle.bplint_engine.specs.Lint.{IsLintedWithKind, LintSays}
use Rattle.bplint_engine.specs.declared.output.Output.{Output}
use Rattle.bplint_engine.specs.Output.{Answers, IsRefusal}
use Rattle.bplint_engine.proofs.GetAnswers.{excused_refused}
use Rattle.bplint_engine.proofs.LowerFaults.{lint_fault}
use Rattle.bplint_lines.specs.OutputLines.{lint_line}

-- the file holds a value, and the kind is that of its top
pub lint_says : (f : List ℕ) (found : Lint) (top : Kind) (bytes : List ℕ) → IsLintedWithKind f found top
    → bytes ≡ lint_line found.reached found.height top ++ codes "\n" → LintSays f (gives All bytes)
lint_says f found top bytes is made = (found, top, is, refl, made)

-- the output is the line of the file, or its fault is no fault of the file
pub line_says : (f : List ℕ) (F : Frame) (lint : Lint) (content : Content) (spells : Spells f F F.top.0 content) (made : Result Output RunFault)
    → IsFrame f F → IsLintedBy f F lint
    → GivesOrIsExcused (λ output. (output.said ≡ All) × (output.bytes.items ≡ lint_line lint.reached lint.height spells.shape.kind ++ codes "\n")) made
    → Answers (LintSays f) made
line_says f F lint content spells (Ok output) frame linted (all, line) =
    rw all (lint_says f lint spells.shape.kind output.bytes.items (F, frame, linted, (spells.shape, spells_head f F F.top.0 content spells, refl)) line)
line_says f F lint content spells (Err fault) frame linted excused = excused_refused (LintSays f) fault excused

-- the linter refuses the file
pub lint_refused : (f : List ℕ) (refusal : LintRefusal) → Refuses (IsFileFault f) (IsFileCircle f) refusal
    → IsRefusal (LintSays f) (lint_fault refusal)
lint_refused f (refusals.Fault fault) first = first
lint_refused f (refusals.Circle objects) first = first
lint_refused f (refusals.Read _) first = tt
lint_refused f refusals.Memory first = tt
