-- What the exit status of a run says that leaves an answer.
use Rattle.std.proofs.Common.{◌≡◌, ◌⊎◌, inl, inr, ℕ, ◌≤◌, List, [], ◌∷◌, Bool, Option, None, Some, Result, Ok, Err, subst, sym, ◌∙◌, arith, rules}
use Rattle.std.specs.Bool.{⊤}
use Rattle.std.specs.List.{AllByRecursion}
use Rattle.std.proofs.Math.Logic.{∥∥₁_map}
use Rattle.std.proofs.lemmas.Grind.{merely}
use Rattle.bplist_octets.specs.declared.source.ReadFault.TheVariants.{Device}
use Rattle.bplist_objects.specs.declared.fault.Fault.{Fault}
use Rattle.bplist_objects.specs.declared.frame.ObjectNo.{ObjectNo}
use Rattle.bplist_objects.specs.declared.rule.Rule.{Rule}
use Rattle.bplist_objects.specs.declared.rule.Rule.TheVariants.{PathText}
use Rattle.bplist_objects.specs.declared.frame.Frame.{Frame}
use Rattle.bplist_objects.specs.Frame.{Keeps, frame_rules}
use Rattle.bplist_objects.specs.FrameRules.{Breaks}
use Rattle.bplist_objects.specs.Rules.{IsFirstFault, OfObject}
use Rattle.bplist_cert.specs.CheckRules.{BreaksRule as BreaksByRule, IsLeastFault, KeepsRule, key_rules}
use Rattle.bplist_cert.specs.Lists.{Lists}
use Rattle.bplist_cert.specs.Sound.{IsSound}
use Rattle.bplist_cert.proofs.VouchedObjects.{sound}
use Rattle.bplist_lint.specs.FileFault.{IsFileFault}
use Rattle.bplist_lint.specs.ReachRules.{reach_rules}
use Rattle.bplint_lines.specs.declared.fault.RunFault.{RunFault}
use Rattle.bplint_lines.specs.declared.fault.RunFault.TheVariants as faults
use Rattle.bplint_lines.specs.declared.raw_fault.RawFault.{RawFault}
use Rattle.bplint_lines.specs.declared.raw_fault.RawFault.TheVariants.{Run, NoRawForm}
use Rattle.bplint_lines.specs.declared.fault.Said.{Said}
use Rattle.bplint_lines.specs.declared.fault.Said.TheVariants.{All, SomeMissing}
use Rattle.bplint_lines.specs.Answers.{Answer, gives, refuses, LeavesWithin}
use Rattle.bplint_lines.specs.FaultLines.{report_of}
use Rattle.bplint_engine.specs.Findings.{IsFindingOf, status_of}
use Rattle.bplint_engine.specs.declared.finding.Finding.{Finding}
use Rattle.bplint_engine.specs.declared.finding.Finding.TheVariants as findings
use Rattle.bplint_engine.specs.declared.output.Led.{Led}
use Rattle.bplint_engine.specs.declared.output.Led.TheVariants.{There, Nowhere}
use Rattle.bplint_engine.specs.Lint.{LintSays}
use Rattle.bplint_engine.specs.Output.{LeavesLed}
use Rattle.bplint_engine.specs.Raw.{IsRawless, LeavesRawBy}
use Rattle.bplint.specs.declared.args.Ask.{Ask}
use Rattle.bplint.specs.declared.args.Ask.TheVariants as asks
use Rattle.bplint.specs.declared.input_fault.InputFault.{InputFault}
use Rattle.bplint.specs.declared.input_fault.InputFault.TheVariants as inputs
use Rattle.bplint.specs.ExitStatuses.{EndsWith, Fails, IsOrFails, IsStillEnd, Raises}
use Rattle.bplint.specs.Questions.{BreaksRule, EndsAsked, EndsUnanswered, HasStatus, LeavesAnswer, LeavesAsked, LintEnds, StatusAsked, answer_of, answer_of_led, led_of, most_asked, SaysAsked}

-- ---- what a run leaves
module _ (Says : Answer → Type 0) (bound : Option ℕ) (old new : Option (List ℕ)) (status : ℕ) where
  left_status : (answer : Result Said RunFault) → LeavesWithin Says bound old new answer → EndsWith (answer_of answer) status
      → HasStatus Says status ⊎ (3 ≤ status)
  left_status (Ok All) (bytes, says, _) is = inl (gives All bytes, says, is)
  left_status (Ok SomeMissing) (bytes, says, _) is = inl (gives SomeMissing bytes, says, is)
  left_status (Err fault) left (inr four) = inr (omega (arith, four))
  left_status (Err (faults.Write _)) left (inl is) = inr (omega (arith, is))
  left_status (Err (faults.Read _)) left (inl is) = inr (omega (arith, is))
  left_status (Err faults.Memory) left (inl is) = inr (omega (arith, is))
  left_status (Err fault) left (inl is) = inl (refuses fault, left.0, is)

  led_status : (led : Result Led RunFault) → LeavesLed Says bound old new led → EndsWith (answer_of_led (led_of led)) status
      → HasStatus Says status ⊎ (3 ≤ status)
  led_status (Ok There) left is = left_status (Ok All) left is
  led_status (Ok (Nowhere line)) (says, _) is = inl (gives SomeMissing line.items, says, is)
  led_status (Err fault) left is = left_status (Err fault) left is

-- there may also be a run without an answer
or_unanswered : (A B C : Type 0) → A ⊎ C → A ⊎ (B ⊎ C)
or_unanswered A B C (inl a) = inl a
or_unanswered A B C (inr c) = inr (inr c)

module _ (hex : Bool) (f cert : List ℕ) (old new : Option (List ℕ)) (status : ℕ) where
  abbrev IsRight : Ask → Type 0
  IsRight ask = HasStatus (SaysAsked ask hex f cert) status ⊎ (EndsUnanswered ask f status ⊎ (3 ≤ status))

  raw_status : (path : _) (led : Result Led RawFault) → LeavesRawBy (SaysAsked (asks.Raw path) hex f cert) (λ n. IsRawless (LintSays f) f path.now n) old new led
      → EndsWith (answer_of_led led) status → IsRight (asks.Raw path)
  raw_status path (Ok led) left is = or_unanswered _ _ _ (led_status (SaysAsked (asks.Raw path) hex f cert) None old new status (Ok led) left is)
  raw_status path (Err (Run fault)) left is = or_unanswered _ _ _ (led_status (SaysAsked (asks.Raw path) hex f cert) None old new status (Err fault) left is)
  raw_status path (Err (NoRawForm n)) (rawless, _) (inl is) = inr (inl (is, n.0, rawless))
  raw_status path (Err (NoRawForm n)) left (inr four) = inr (inr (omega (arith, four)))

  -- nothing is said of the answer
  any_status : (result : Result Said RawFault) → EndsWith result status → HasStatus (λ _. ⊤) status ⊎ (3 ≤ status)
  any_status (Ok All) is = inl (gives All [], tt, is)
  any_status (Ok SomeMissing) is = inl (gives SomeMissing [], tt, is)
  any_status (Err (Run fault)) (inl is) = inl (refuses fault, tt, is)
  any_status (Err (NoRawForm n)) (inl is) = inl (gives SomeMissing [], tt, is)
  any_status (Err fault) (inr four) = inr (omega (arith, four))

  answer_right : (ask : Ask) (result : Result Said RawFault) → LeavesAnswer ask hex f cert old new result → EndsWith result status → IsRight ask
  answer_right ask result (answer, left, same) is = or_unanswered _ _ _
      (left_status (SaysAsked ask hex f cert) (most_asked ask) old new status answer left (subst (λ r. EndsWith r status) same is))

  asked_right : (ask : Ask) (result : Result Said RawFault) → LeavesAsked ask hex f cert old new result → EndsWith result status → IsRight ask
  asked_right (asks.Text path limit) result (led, left, same) is = or_unanswered _ _ _
      (led_status (SaysAsked (asks.Text path limit) hex f cert) (Some limit) old new status led left (subst (λ r. EndsWith r status) same is))
  asked_right (asks.Raw path) result (led, left, same) is = raw_status path led left (subst (λ r. EndsWith r status) same is)
  asked_right (asks.Readable paths) result left is = or_unanswered _ _ _ (any_status result is)
  asked_right (asks.Rows listed) result left is = or_unanswered _ _ _ (any_status result is)
  asked_right (asks.Map paths) result left is = or_unanswered _ _ _ (any_status result is)
  asked_right asks.Textconv result left is = or_unanswered _ _ _ (any_status result is)
  asked_right ask result left is = answer_right ask result left is

-- each exit status of what a run leaves is right
pub asked_ends : (ask : Ask) (hex : Bool) (f cert : List ℕ) (old new : Option (List ℕ)) (result : Result Said RawFault)
    → ∥ LeavesAsked ask hex f cert old new result ∥₁ → EndsAsked ask hex f cert result
asked_ends ask hex f cert old new result left status is = ∥∥₁_map left (λ left. asked_right hex f cert old new status ask result left is)

-- ---- refused memory may replace the answer
memory_status : (status : ℕ) → EndsWith (Err (Run faults.Memory)) status → 3 ≤ status
memory_status status (inl is) = omega (arith, is)
memory_status status (inr is) = omega (arith, is)

-- what holds of each exit status of an answer, and of 3 and more, still holds
pub still_ends : (P : ℕ → Type 0) → ((s : ℕ) → 3 ≤ s → P s) → (old new : Result Said RawFault) → IsStillEnd old new
    → ((s : ℕ) → EndsWith old s → P s) → (s : ℕ) → EndsWith new s → P s
still_ends P failed old new (inl same) ends s is = ends s (subst (λ r. EndsWith r s) same is)
still_ends P failed old new (inr memory) ends s is = failed s (memory_status s (subst (λ r. EndsWith r s) memory is))

pub failed_asked : (ask : Ask) (hex : Bool) (f cert : List ℕ) (status : ℕ) → 3 ≤ status → StatusAsked ask hex f cert status
failed_asked ask hex f cert status high = merely (inr (inr high))

-- certify left OUT as it is
pub kept_asked : (sorted hex : Bool) (f cert : List ℕ) (status : ℕ) → (status ≡ 2) ⊎ (status ≡ 4)
    → StatusAsked (asks.Certify sorted) hex f cert status
kept_asked sorted hex f cert status (inl two) = merely (inr (inl two))
kept_asked sorted hex f cert status (inr four) = merely (inr (inr (omega (arith, four))))

-- ---- lint
-- the exit status of a fault of this rule is 1
abbrev IsOne : Rule → Type 0
IsOne rule = (elim rule as (λ _. ℕ) [ PathText ↦ 2 | _ ↦ 1 ]) ≡ 1

first_is_one : (keeps : Rule → Type 0) (breaks : Rule → Option ObjectNo → ℕ → Type 0) (listed : List Rule) (fault : Fault)
    → AllByRecursion IsOne listed → IsFirstFault keeps breaks listed fault → IsOne fault.rule
first_is_one keeps breaks [] fault all never = absurd never
first_is_one keeps breaks (rule ∷ listed) fault all (inl (is, _)) = subst IsOne (sym is) all.0
first_is_one keeps breaks (rule ∷ listed) fault all (inr (_, first)) = first_is_one keeps breaks listed fault all.1 first

least_is_one : (f : List ℕ) (F : Frame) (S : ℕ → Type 0) (certificate : Lists) (listed : List Rule) (fault : Fault)
    → AllByRecursion IsOne listed → IsLeastFault f F S certificate listed fault → IsOne fault.rule
least_is_one f F S certificate listed fault all least = first_is_one (KeepsRule f F S certificate least.object)
    (OfObject least.object (BreaksByRule f F S certificate least.object)) listed fault all least.first

fault_is_one : (f : List ℕ) (fault : Fault) → IsFileFault f fault → IsOne fault.rule
fault_is_one f fault (inl first) = first_is_one (Keeps f) (Breaks f) frame_rules fault (search rules) first
fault_is_one f fault (inr (F, frame, inl reached)) = least_is_one f F _ _ reach_rules fault (search rules) reached
fault_is_one f fault (inr (F, frame, inr (kept, reached))) = least_is_one f F _ _ (key_rules None) fault (search rules) reached

module _ (f : List ℕ) where
  said_sound : (bytes : List ℕ) → LintSays f (gives All bytes) → IsSound f
  said_sound bytes (lint, kind, (F, frame, linted, _), _, _) = sound f F lint.certificate.heights linted.valid

  pub failed_lint : (status : ℕ) → 3 ≤ status → LintEnds f status
  failed_lint status high = merely (inr (inr high))

  asked_lint : (status : ℕ) → HasStatus (LintSays f) status ⊎ (⊥ ⊎ (3 ≤ status))
      → ((status ≡ 0) × IsSound f) ⊎ (((status ≡ 1) × BreaksRule f) ⊎ (3 ≤ status))
  asked_lint status (inl (gives All bytes, says, is)) = inl (is, said_sound bytes says)
  asked_lint status (inl (gives SomeMissing bytes, (lint, kind, linted, all, _), is)) = cc all
  asked_lint status (inl (refuses (faults.Fault fault), says, is)) = inr (inl (is ∙ fault_is_one f fault says, inl (fault, says)))
  asked_lint status (inl (refuses (faults.Circle objects), says, is)) = inr (inl (is, inr (_, says)))
  asked_lint status (inl (refuses fault, says, is)) = absurd says
  asked_lint status (inr (inl never)) = absurd never
  asked_lint status (inr (inr high)) = inr (inr high)

  pub lint_ends : (hex : Bool) (cert : List ℕ) (status : ℕ) → StatusAsked asks.Lint hex f cert status → LintEnds f status
  lint_ends hex cert status asked = ∥∥₁_map asked (asked_lint status)

  pub found_ends : (finding : Finding) → IsFindingOf f finding → (status : ℕ) → IsOrFails (status_of finding) status → LintEnds f status
  found_ends finding is status (inr high) = failed_lint status high
  found_ends (findings.Sound reached height top) is status (inl same) = ∥∥₁_map is (λ sound. inl (same, sound))
  found_ends (findings.Broken fault way looks_like) is status (inl same) = merely (inr (inl (same, inl (fault, is))))
  found_ends (findings.Circle objects way) is status (inl same) = merely (inr (inl (same, inr (_, is))))
  found_ends (findings.Unread fault cause) is status (inl same) = failed_lint status (subst (λ s. 3 ≤ s) (sym same) is)

  -- only the name is printed
  pub named_ends : (answer : Result Said RawFault) → ((s : ℕ) → EndsWith answer s → LintEnds f s) → EndsWith answer 1
      → (s : ℕ) → IsOrFails 1 s → LintEnds f s
  named_ends answer ends one s (inl is) = ends s (subst (λ n. EndsWith answer n) (sym is) one)
  named_ends answer ends one s (inr high) = failed_lint s high

-- ---- files that are counted
pub raises : (P Q : ℕ → Type 0) (old new : ℕ) → ((s : ℕ) → P s → Q s) → Raises P old new → Raises Q old new
raises P Q old new means (status, ends, is) = (status, means status ends, is)

pub at_least : (n : ℕ) → 3 ≤ n → (s : ℕ) → IsOrFails n s → 3 ≤ s
at_least n high s (inl is) = omega (arith, is, high)
at_least n high s (inr higher) = higher

is_four : (s : ℕ) → EndsWith (Err (Run faults.Memory)) s → s ≡ 4
is_four s (inl is) = is
is_four s (inr is) = is

pub refused : (answer : Result Said RawFault) → answer ≡ Err (Run faults.Memory) → (s : ℕ) → EndsWith answer s → s ≡ 4
refused answer is s ends = is_four s (subst (λ r. EndsWith r s) is ends)

-- ---- inputs that could not be read
pub fails : (fault : RunFault) → 3 ≤ (report_of fault).1 → Fails (Err (Run fault))
fails fault high status (inl is) = omega (arith, is, high)
fails fault high status (inr four) = omega (arith, four)

-- the fault of a run whose input could not be read
abbrev pub unread_fault : InputFault → RunFault
unread_fault cause = elim cause [
  | inputs.Open _ ↦ faults.Open
  | inputs.Folder ↦ faults.Read Device
  | inputs.TooLong ↦ faults.InputTooLong
  | inputs.Read error ↦ faults.Read error
  | inputs.NoDigit _ _ ↦ faults.Hex
  | inputs.OddDigits _ ↦ faults.Hex
  | inputs.Memory ↦ faults.Memory
]

pub unread : (cause : InputFault) (fault : RunFault) → fault ≡ unread_fault cause → 3 ≤ (report_of fault).1
unread (inputs.Open _) fault is = subst (λ fault. 3 ≤ (report_of fault).1) (sym is) (omega arith)
unread cause fault is = subst (λ fault. 3 ≤ (report_of fault).1) (sym is) (omega arith)

-- a line could not be written
pub unwritten : (sent : ℕ) (old new : Result Said RawFault) → old ≡ Err (Run (faults.Write sent)) → IsStillEnd old new → Fails new
unwritten sent old new is still = still_ends (λ s. 3 ≤ s) (λ s high. high) old new still
    (λ s ends. fails (faults.Write sent) (omega arith) s (subst (λ r. EndsWith r s) is ends))

-- ---- a question of lint
pub lint_asked : (f : List ℕ) (ask : Ask) (hex : Bool) (cert : List ℕ) (answer : Result Said RawFault) → ask ≡ asks.Lint
    → EndsAsked ask hex f cert answer → (status : ℕ) → EndsWith answer status → LintEnds f status
lint_asked f ask hex cert answer is ends status with_it =
    lint_ends f hex cert status (subst (λ ask. StatusAsked ask hex f cert status) is (ends status with_it))
