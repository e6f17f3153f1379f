-- What FILE and CERT say about a question, and what a run leaves with the writer and ends with. Source: profile.
use Rattle.std.specs.Prelude.{◌≡◌, ◌⊎◌, ◌≤◌, ℕ, List, [], ◌∷◌, Bool, map, string_bytes, ⊤, Option, None, Some, Result, Ok, Err}
use Rattle.bplint.specs.declared.args.Ask.{Ask}
use Rattle.bplint.specs.declared.args.Ask.TheVariants as asks
use Rattle.bplint_lines.specs.declared.fault.RunFault.{RunFault}
use Rattle.bplint_lines.specs.declared.raw_fault.RawFault.{RawFault}
use Rattle.bplint_lines.specs.declared.raw_fault.RawFault.TheVariants.{Run}
use Rattle.bplint_lines.specs.declared.fault.Said.{Said}
use Rattle.bplint_lines.specs.declared.fault.Said.TheVariants.{All, SomeMissing}
use Rattle.bplint_lines.specs.declared.texts.Style.TheVariants.{OldStyle}
use Rattle.bplint_lines.specs.Answers.{Answer, gives, refuses, LeavesWithin}
use Rattle.bplint_lines.specs.FaultLines.{report_of}
use Rattle.bplist_objects.specs.declared.fault.Fault.{Fault}
use Rattle.bplist_cert.specs.Sound.{IsSound}
use Rattle.bplist_lint.specs.FileFault.{IsFileCircle, IsFileFault}
use Rattle.bplint.specs.ExitStatuses.{EndsWith}
use Rattle.bplint_engine.specs.declared.output.Led.{Led}
use Rattle.bplint_engine.specs.declared.output.Led.TheVariants.{There, Nowhere}
use Rattle.bplint_engine.specs.Certify.{CertifySays}
use Rattle.bplint_engine.specs.Check.{CheckSays}
use Rattle.bplint_engine.specs.Get.{LinesSay, found_line}
use Rattle.bplint_engine.specs.Lint.{LintSays}
use Rattle.bplint_engine.specs.Ls.{listed}
use Rattle.bplint_engine.specs.Output.{LeavesLed}
use Rattle.bplint_engine.specs.Print.{PrintSays}
use Rattle.bplint_engine.specs.Raw.{IsRawless, LeavesRawBy, ShowsRaw}
use Rattle.bplint_engine.specs.Tree.{ListsAll}

-- the answer of a run that has no fault of its own
abbrev pub answer_of : Result Said RunFault → Result Said RawFault
answer_of (Ok said) = Ok said
answer_of (Err fault) = Err (Run fault)

-- the same of a run that writes nothing but values
abbrev pub answer_of_led : Result Led RawFault → Result Said RawFault
answer_of_led (Ok There) = Ok All
answer_of_led (Ok (Nowhere line)) = Ok SomeMissing
answer_of_led (Err fault) = Err fault

-- the same answer, with a fault that other commands have as well
abbrev pub led_of : Result Led RunFault → Result Led RawFault
led_of (Ok led) = Ok led
led_of (Err fault) = Err (Run fault)

-- the answer to a question about the file f and the certificate with these bytes; with `hex` certify writes hexadecimal
-- text. What `show --readable`, other forms of `ls`, `map` and `textconv` say is tested
abbrev pub SaysAsked : Ask → Bool → List ℕ → List ℕ → Answer → Type 0
SaysAsked asks.Lint hex f cert answer = LintSays f answer
SaysAsked (asks.Certify sorted) hex f cert answer = CertifySays sorted hex f answer
SaysAsked asks.Check hex f cert answer = CheckSays f cert answer
SaysAsked (asks.Get paths) hex f cert answer =
    LinesSay (found_line OldStyle) (CheckSays f cert) f (map (λ path. string_bytes path) paths.items) answer
SaysAsked (asks.Print path limit) hex f cert answer = PrintSays limit (CheckSays f cert) f (path.now ∷ []) answer
SaysAsked (asks.Show paths style) hex f cert answer =
    LinesSay (found_line style) (LintSays f) f (map (λ path. string_bytes path) paths.items) answer
SaysAsked (asks.Text path limit) hex f cert answer = PrintSays limit (LintSays f) f (path.now ∷ []) answer
SaysAsked (asks.Raw path) hex f cert answer = ShowsRaw (LintSays f) f path.now answer
SaysAsked (asks.List path style) hex f cert answer = LinesSay (listed style path.now) (LintSays f) f (path.now ∷ []) answer
SaysAsked (asks.Tree branch) hex f cert answer = ListsAll branch.style branch.limit (LintSays f) f branch.path.now answer
SaysAsked _ hex f cert answer = ⊤

-- how many bytes may be written before a failed read or refused memory, if there is a bound
abbrev pub most_asked : Ask → Option ℕ
most_asked (asks.Print path limit) = Some limit
most_asked (asks.Text path limit) = Some limit
most_asked (asks.Raw path) = None
most_asked (asks.List path style) = None
most_asked (asks.Tree branch) = None
most_asked _ = Some 0

module _ (ask : Ask) (hex : Bool) (f cert : List ℕ) (old new : Option (List ℕ)) where
  -- the writer has the answer, and the run ends with it
  abbrev pub LeavesAnswer : Result Said RawFault → Type 0
  LeavesAnswer result = (answer : Result Said RunFault) × LeavesWithin (SaysAsked ask hex f cert) (most_asked ask) old new answer
      × (result ≡ answer_of answer)

-- what a run leaves with the writer, and ends with
abbrev pub LeavesAsked : Ask → Bool → List ℕ → List ℕ → Option (List ℕ) → Option (List ℕ) → Result Said RawFault → Type 0
LeavesAsked (asks.Text path limit) hex f cert old new result = (led : Result Led RunFault)
    × LeavesLed (PrintSays limit (LintSays f) f (path.now ∷ [])) (Some limit) old new led × (result ≡ answer_of_led (led_of led))
LeavesAsked (asks.Raw path) hex f cert old new result = (led : Result Led RawFault)
    × LeavesRawBy (ShowsRaw (LintSays f) f path.now) (IsRawless (LintSays f) f path.now) old new led × (result ≡ answer_of_led led)
LeavesAsked (asks.Readable paths) hex f cert old new result = ⊤
LeavesAsked (asks.Rows listed) hex f cert old new result = ⊤
LeavesAsked (asks.Map paths) hex f cert old new result = ⊤
LeavesAsked asks.Textconv hex f cert old new result = ⊤
LeavesAsked ask hex f cert old new result = LeavesAnswer ask hex f cert old new result

-- ---- exit statuses
-- the exit status of an answer
abbrev pub answer_status : Answer → ℕ
answer_status (gives All bytes) = 0
answer_status (gives SomeMissing bytes) = 1
answer_status (refuses fault) = (report_of fault).1

-- the exit status is that of a right answer
abbrev pub HasStatus : (Answer → Type 0) → ℕ → Type 0
HasStatus Says status = (answer : Answer) × Says answer × (status ≡ answer_status answer)

-- the exit status of a run without an answer: of `show --raw`, if the path leads to a value without raw bytes; of
-- `certify`, if OUT is left as it is
abbrev pub EndsUnanswered : Ask → List ℕ → ℕ → Type 0
EndsUnanswered (asks.Raw path) f status = (status ≡ 1) × (n : ℕ) × IsRawless (LintSays f) f path.now n
EndsUnanswered (asks.Certify sorted) f status = status ≡ 2
EndsUnanswered _ f status = ⊥

-- the exit status of a run about f and cert: that of a right answer, or of a run without one, or 3 or more, for which
-- the definition asks no cause
abbrev pub StatusAsked : Ask → Bool → List ℕ → List ℕ → ℕ → Type 0
StatusAsked ask hex f cert status =
    ∥ HasStatus (SaysAsked ask hex f cert) status ⊎ (EndsUnanswered ask f status ⊎ (3 ≤ status)) ∥₁

-- each exit status that the answer may have is right
abbrev pub EndsAsked : Ask → Bool → List ℕ → List ℕ → Result Said RawFault → Type 0
EndsAsked ask hex f cert result = (status : ℕ) → EndsWith result status → StatusAsked ask hex f cert status

-- the file breaks a rule: this is its first fault, or its circle
abbrev pub BreaksRule : List ℕ → Type 0
BreaksRule f = ((fault : Fault) × IsFileFault f fault) ⊎ ((circle : List ℕ) × IsFileCircle f circle)

-- the exit status of `lint`: 0 only for a sound file, 1 only for one that breaks a rule, or 3 or more. No file is both
-- (`fault_has_no_value`). The definition does not ask why it is 3 or more
abbrev pub LintEnds : List ℕ → ℕ → Type 0
LintEnds f status = ∥ ((status ≡ 0) × IsSound f) ⊎ (((status ≡ 1) × BreaksRule f) ⊎ (3 ≤ status)) ∥₁
