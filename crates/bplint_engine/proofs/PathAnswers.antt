-- The answer for path texts, of a file that is refused and of one that holds a value.
use Rattle.std.proofs.Common.{◌≡◌, ◌∙◌, ◌++◌, inl, inr, ℕ, List, [], ◌∷◌, Result, codes, map, slice_index, refl, sym, subst}
use Rattle.std.specs.List.{AllZip, flat_map}
use Rattle.std.proofs.Math.Logic.{∥∥₁_map}
use Rattle.bplist_objects.specs.declared.frame.Frame.{Frame}
use Rattle.bplist_objects.specs.File.{FileHolds}
use Rattle.bplist_objects.specs.Frame.{IsFrame}
use Rattle.bplist_objects.specs.Holds.{Holds}
use Rattle.bplist_objects.specs.Reach.{top}
use Rattle.bplist_objects.specs.Value.{Value}
use Rattle.bplist_objects.proofs.HeadTies.{spells_head}
use Rattle.bplist_cert.specs.CertifiedFile.{IsVouchedFor}
use Rattle.bplist_cert.specs.Lists.{Lists}
use Rattle.bplist_cert.specs.Valid.{IsValid}
use Rattle.bplist_cert.proofs.VouchedObjects.{file_holds}
use Rattle.bplist_cursor.specs.declared.node.Why.{Why}
use Rattle.bplist_cursor.specs.Look.{look}
use Rattle.bplist_cursor.specs.Path.{IsPathOf}
use Rattle.bplint_lines.specs.declared.fault.RunFault.{RunFault}
use Rattle.bplint_lines.specs.declared.fault.RunFault.TheVariants as faults
use Rattle.bplint_lines.specs.declared.fault.Said.{Said}
use Rattle.bplint_lines.specs.declared.fault.Said.TheVariants.{All}
use Rattle.bplint_lines.specs.Answers.{Answer, gives, refuses}
use Rattle.bplint_lines.specs.OutputLines.{check_line, lint_line}
use Rattle.bplint_engine.specs.Check.{CheckSays}
use Rattle.bplint_engine.specs.Get.{said_of}
use Rattle.bplint_engine.specs.Least.{IsLeastFor}
use Rattle.bplint_engine.specs.Lint.{LintSays}
use Rattle.bplint_engine.specs.Output.{IsRefusal}
use Rattle.bplint_engine.specs.PathTexts.{ForPaths, IsWrongAmong, OnPath}
use Rattle.bplint_engine.specs.Print.{PathSays}

-- a refusal under one description of the answer is one under another that has the same faults
pub refused_as : (P Q : Answer → Type 0) (fault : RunFault) → ((x : RunFault) → P (refuses x) → Q (refuses x)) → IsRefusal P fault → IsRefusal Q fault
refused_as P Q (faults.Write _) to h = h
refused_as P Q (faults.Read _) to h = tt
refused_as P Q faults.Memory to h = tt
refused_as P Q fault to h = to fault h

-- the answer for paths and a value, given their lines
abbrev pub AreLines : (Result Value (ℕ × Why) → List ℕ) → List (List (List ℕ)) → Value → Answer → Type 0
AreLines lines paths v answer = answer ≡ gives (said_of (map (look 0 v) paths)) (flat_map lines (map (look 0 v) paths))

-- the answer for one path and a value, given its text
abbrev pub IsText : ℕ → List ℕ → List (List (List ℕ)) → Value → Answer → Type 0
IsText limit f paths v answer =
    (steps : List (List ℕ)) × (F : Frame) × (paths ≡ steps ∷ []) × IsFrame f F × PathSays f F limit steps v answer

-- ---- refusals
module _ (Says : Answer → Type 0) (f : List ℕ) (texts : List (List ℕ)) (P : List (List (List ℕ)) → Value → Answer → Type 0) where
  -- a path text is wrong
  pub path_refused : (fault : RunFault) → OnPath (IsWrongAmong texts) fault → IsRefusal (ForPaths Says f texts P) fault
  path_refused (faults.Path place) h = inl (place, h, refl)
  path_refused faults.Memory h = tt
  path_refused _ h = absurd h

  -- the file is refused
  pub file_refused : (paths : List (List (List ℕ))) (fault : RunFault) → AllZip IsPathOf texts paths → IsRefusal Says fault → IsRefusal (ForPaths Says f texts P) fault
  file_refused paths fault are = refused_as Says (ForPaths Says f texts P) fault (λ x h. inr (paths, refuses x, are, h, refl))

-- ---- files that hold a value
-- Says accepts the file
abbrev pub IsYes : (Answer → Type 0) → Type 0
IsYes Says = (said : Said) × (bytes : List ℕ) × Says (gives said bytes)

-- the file with this frame holds a value
abbrev pub IsThere : List ℕ → Frame → Type 0
IsThere f F = (v : Value) × IsFrame f F × FileHolds f v × Holds f F F.top.0 v

valid_there : (f : List ℕ) (F : Frame) (heights : List ℕ) → IsValid f F heights → IsThere f F
valid_there f F heights valid =
    let (v, h, _) = file_holds f F heights valid in
    (v, valid.frame, h, subst (λ X. Holds f X X.top.0 v) (h.is.spelled ∙ sym valid.frame.spelled) h.holds)

module _ (f cert : List ℕ) (F : Frame) (lists : Lists) (vouched : IsVouchedFor f cert F lists) where
  pub check_yes : IsYes (CheckSays f cert)
  check_yes = (All, check_line F.objects (slice_index lists.heights F.top.0) ++ codes "\n", (F, lists, vouched, refl, refl))

  pub check_there : ∥ IsThere f F ∥₁
  check_there = ∥∥₁_map vouched.2 (λ accepted. valid_there f F lists.heights accepted.valid)

module _ (f : List ℕ) (F : Frame) (lists : Lists) (least : IsLeastFor f F lists) where
  pub lint_yes : IsYes (LintSays f)
  lint_yes =
      let (content, spells, _) = least.linted.least.least _ top in (
        All,
        lint_line least.lint.reached least.lint.height spells.shape.kind ++ codes "\n",
        (least.lint, spells.shape.kind, (F, least.frame, least.linted, (spells.shape, spells_head f F F.top.0 content spells, refl)), refl, refl),
      )

  pub lint_there : IsThere f F
  lint_there = valid_there f F least.lint.certificate.heights least.linted.valid
