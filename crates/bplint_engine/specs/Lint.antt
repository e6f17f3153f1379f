-- What `lint` says. Source: profile.
use Rattle.std.specs.Prelude.{◌≡◌, ◌++◌, ℕ, List, codes, map}
use Rattle.bplist_objects.specs.declared.frame.Frame.{Frame}
use Rattle.bplist_objects.specs.declared.head.Head.{Head}
use Rattle.bplist_objects.specs.declared.head.Kind.{Kind}
use Rattle.bplist_objects.specs.Frame.{IsFrame}
use Rattle.bplist_objects.specs.Heads.{IsHeadOf}
use Rattle.bplist_lint.specs.declared.answer.Lint.{Lint}
use Rattle.bplist_lint.specs.FileFault.{IsFileFault, IsFileCircle}
use Rattle.bplist_lint.specs.Linted.{IsLintedBy}
use Rattle.bplist_lint.specs.Trail.{number}
use Rattle.bplint_lines.specs.declared.fault.Said.TheVariants.{All}
use Rattle.bplint_lines.specs.declared.fault.RunFault.TheVariants.{Circle, Fault}
use Rattle.bplint_lines.specs.Answers.{Answer, gives, refuses}
use Rattle.bplint_lines.specs.OutputLines.{lint_line}

-- the linter's answer is right for the file, and this is the kind of the top
abbrev pub IsLintedWithKind : List ℕ → Lint → Kind → Type 0
IsLintedWithKind f lint kind =
    (F : Frame) × IsFrame f F × IsLintedBy f F lint × ((head : Head) × IsHeadOf f F F.top.0 head × (kind ≡ head.kind))

-- `lint` writes the number of reachable objects, the top's least height and kind, or returns the first fault or circle
abbrev pub LintSays : List ℕ → Answer → Type 0
LintSays f (gives said bytes) = (lint : Lint) × (kind : Kind) × IsLintedWithKind f lint kind × (said ≡ All)
    × (bytes ≡ lint_line lint.reached lint.height kind ++ codes "\n")
LintSays f (refuses fault) = elim fault [ Fault x ↦ IsFileFault f x | Circle ns ↦ IsFileCircle f (map number ns) | _ ↦ ⊥ ]
