-- What a verdict contains. Source: profile.
use Rattle.std.specs.Prelude.{◌≡◌, ℕ, List, length, map, slice_index, Result, Ok, Err}
use Rattle.std.specs.Option.{option_len, option_map_or}
use Rattle.bplist_objects.specs.declared.frame.Frame.{Frame}
use Rattle.bplist_objects.specs.declared.head.Head.{Head}
use Rattle.bplist_objects.specs.Frame.{IsFrame}
use Rattle.bplist_objects.specs.Heads.{IsHeadOf}
use Rattle.bplist_lint.specs.declared.answer.Lint.{Lint}
use Rattle.bplist_lint.specs.declared.answer.LintRefusal.{LintRefusal}
use Rattle.bplist_lint.specs.declared.answer.LintRefusal.TheVariants as refusals
use Rattle.bplist_c.specs.declared.status.Status.{Status}
use Rattle.bplist_c.specs.declared.status.Status.TheVariants as statuses
use Rattle.bplist_c.specs.declared.verdict.BplistVerdict.{BplistVerdict}
use Rattle.bplist_c.specs.declared.verdict.TheConstants.{NO_VERDICT}
use Rattle.bplist_c.specs.Objects.{kind_number}
use Rattle.bplist_objects.specs.Words.{number_of as number_of_rule}
use Rattle.bplist_lint.specs.Trail.{number}
use Rattle.bplist_c.specs.Statuses.{status_number}

-- status and verdict of a refused file: its first fault, or its circle by first object and length, or refused memory
abbrev pub refused_told : LintRefusal → Status × BplistVerdict
refused_told (refusals.Fault fault) =
    let broken = record NO_VERDICT { rule = number_of_rule fault.rule; place = fault.place } in
    (statuses.Fault, record broken { has_object = option_len fault.object; object = option_map_or number fault.object 0 })
refused_told (refusals.Circle ns) =
    (statuses.Fault, record NO_VERDICT { rule = 23; has_object = 1; object = slice_index (map number ns) 0; circle = length ns })
refused_told _ = (statuses.Memory, NO_VERDICT)

-- status and verdict give that answer: number of objects, top, its kind and height, what it reaches; or the refusal
abbrev pub ShowsLint : List ℕ → Result Lint LintRefusal → BplistVerdict → ℕ → Type 0
ShowsLint f (Ok lint) verdict status = (status ≡ 0) × ((F : Frame) → IsFrame f F → (head : Head) → IsHeadOf f F F.top.0 head
    → let framed = record NO_VERDICT { objects = F.objects; top = F.top.0; top_kind = kind_number head.kind } in
    verdict ≡ record framed { height = lint.height; reached = lint.reached; references = lint.references })
ShowsLint f (Err why) verdict status =
    let told = refused_told why in (status ≡ status_number told.0) × (verdict ≡ told.1)

-- the objects of the linter's circle, or why there are none
abbrev pub circle_answer : Result Lint LintRefusal → Result (List ℕ) Status
circle_answer (Ok lint) = Err statuses.NoRule
circle_answer (Err (refusals.Circle objects)) = Ok (map number objects)
circle_answer (Err why) = Err (refused_told why).0
