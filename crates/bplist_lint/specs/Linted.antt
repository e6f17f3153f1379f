-- What the linter says about a file that holds a value. Source: profile.
use Rattle.std.specs.Prelude.{◌*◌, ◌≡◌, ℕ, ◌+◌, ◌≤◌, min, nat_lt, List, [], ◌∷◌, length, slice_index, count_by, filter, None}
use Rattle.std.specs.List.{range_with_len}
use Rattle.bplist_objects.specs.declared.frame.Frame.{Frame}
use Rattle.bplist_objects.specs.Frame.{IsFrame, trailer}
use Rattle.bplist_objects.specs.Heads.{Content, refs, Spells}
use Rattle.bplist_objects.specs.Value.{Value}
use Rattle.bplist_objects.specs.File.{FileHolds}
use Rattle.bplist_objects.specs.Reach.{Reach}
use Rattle.bplist_cert.specs.CheckRules.{key_rules}
use Rattle.bplist_cert.specs.Lists.{Lists}
use Rattle.bplist_cert.specs.Valid.{IsValid}
use Rattle.bplist_lint.specs.declared.answer.Lint.{Lint}
use Rattle.bplist_lint.specs.declared.tally.Tally.{Tally}
use Rattle.bplist_lint.specs.declared.walk.Reached.{Reached}
use Rattle.bplist_lint.specs.LeastHeights.{AreLeastHeights}
use Rattle.bplist_lint.specs.ReachRules.{KeepReached}
use Rattle.bplist_lint.specs.ReachWalk.{IsWalked}

-- these objects have t references together; those of each are those of what it spells
abbrev pub HaveReferences : List ℕ → Frame → List ℕ → ℕ → Type 0
HaveReferences f F [] t = t ≡ 0
HaveReferences f F (n ∷ ns) t = (c : Content) × (r : ℕ) × Spells f F n c × HaveReferences f F ns r × (t ≡ length (refs c) + r)

-- the file holds a value; the certificate has the least valid heights, and the figures are those of the reached objects
pub record IsLintedBy (f : List ℕ) (F : Frame) (lint : Lint) : Type 0 where
  pub value : Value
  pub holds : FileHolds f value
  pub version : lint.certificate.keys ≡ None
  pub least : AreLeastHeights f F lint.certificate.heights
  pub valid : IsValid f F lint.certificate.heights
  pub lowest : (other : List ℕ) → IsValid f F other → (n : ℕ) → Reach f F n → slice_index lint.certificate.heights n ≤ slice_index other n
  pub height : lint.height ≡ slice_index lint.certificate.heights F.top.0
  pub reached : lint.reached ≡ count_by (nat_lt 0) lint.certificate.heights
  pub references : HaveReferences f F (filter (λ n. nat_lt 0 (slice_index lint.certificate.heights n)) (range_with_len 0 F.objects)) lint.references
  pub few : lint.references + 8 ≤ F.table

-- the linter's answer with this certificate, the height of the top, and the figures of this tally
abbrev pub lint_of : Frame → Lists → Tally → Lint
lint_of F certificate tally = record {
  certificate = certificate;
  height = slice_index certificate.heights F.top.0;
  reached = tally.reached;
  references = tally.references;
}

-- the file has a frame, and the linter's answer is right for it
abbrev pub IsLinted : List ℕ → Lint → Type 0
IsLinted f lint = (F : Frame) × IsFrame f F × IsLintedBy f F lint

-- no heights are valid for the file
abbrev pub HasNoHeights : List ℕ → Type 0
HasNoHeights f = (F : Frame) (heights : List ℕ) → IsValid f F heights → ⊥

-- the reached objects keep all rules except 23
pub record KeepsRules (f : List ℕ) (F : Frame) (reached : Reached) : Type 0 where
  pub walked : IsWalked f F reached
  pub keys : KeepReached f F (key_rules None) F.objects

-- how many objects the trailer says that the file has, but no more than it has bytes
abbrev pub objects_said : List ℕ → ℕ
objects_said f = min (length f) (trailer f).objects

-- the most bytes that the linter asks for
abbrev pub lint_bytes : List ℕ → ℕ
lint_bytes f = 40 + 36 * length f + 2212 * objects_said f
