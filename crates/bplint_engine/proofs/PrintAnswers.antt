-- What `print` says and leaves, derived from the contracts of the cursor and the printer.
use Rattle.std.proofs.Common.{◌≡◌, inl, inr, ◌∙◌, append_assoc, ℕ, ◌+◌, List, [], ◌∷◌, ◌++◌, length, ap, sym, subst, refl, arith, Option, Some, Result, Ok, Err}
use Rattle.std.specs.List.{AllZip}
use Rattle.std.specs.Prelude.{IfOk, IfErr, MatchResult}
use Rattle.std.proofs.Math.Logic.{∥∥₁_map}
use Rattle.bplist_objects.specs.declared.frame.Frame.{Frame}
use Rattle.bplist_objects.specs.Value.{Value}
use Rattle.bplist_objects.specs.Holds.{Holds}
use Rattle.bplist_cert.specs.CheckedFile.{CheckedFile}
use Rattle.bplist_cursor.specs.declared.faults.CursorFault.{CursorFault}
use Rattle.bplist_cursor.specs.declared.faults.CursorFault.TheVariants as cursor_faults
use Rattle.bplist_cursor.specs.declared.node.Node.{Node}
use Rattle.bplist_cursor.specs.declared.node.Found.TheVariants.{At}
use Rattle.bplist_cursor.specs.declared.node.Why.{Why}
use Rattle.bplist_cursor.proofs.Causes.{IsExcused}
use Rattle.bplist_cursor.specs.Found.{IsFound, IsHeld}
use Rattle.bplist_cursor.specs.Leads.{LeadTo}
use Rattle.bplist_cursor.specs.Look.{look}
use Rattle.bplist_cursor.specs.Path.{IsPathOf}
use Rattle.bplist_octets.specs.Sending.{Sending, SendsSome, Takes, TakesPart, AtMost}
use Rattle.bplist_ascii.specs.Printed.{IsPut, HasText}
use Rattle.bplist_octets.specs.declared.sink.WriteFault.{WriteFault}
use Rattle.bplist_ascii.specs.declared.printer.PrintFault.{PrintFault}
use Rattle.bplist_ascii.specs.declared.printer.PrintFault.TheVariants as print_faults
use Rattle.bplist_octets.proofs.SinkSteps.{out_start, out_takes, out_end, out_part, part_of_more, takes_then_part}
use Rattle.bplint_lines.specs.declared.fault.RunFault.{RunFault}
use Rattle.bplint_lines.specs.declared.fault.RunFault.TheVariants as faults
use Rattle.bplint_engine.specs.declared.output.Led.{Led}
use Rattle.bplint_engine.specs.declared.output.Led.TheVariants.{There}
use Rattle.bplint_engine.specs.declared.output.Output.{Output}
use Rattle.bplint_lines.specs.declared.fault.Said.{Said}
use Rattle.bplint_lines.specs.declared.fault.Said.TheVariants.{All, SomeMissing}
use Rattle.bplint_lines.specs.Answers.{Answer, gives, BeginsAnswer, Leaves, LeavesBy}
use Rattle.bplint_engine.specs.Output.{Answers, IsRefusal, LeavesLed}
use Rattle.bplint_engine.proofs.LowerFaults.{cursor_fault, print_fault}
use Rattle.bplint_lines.specs.OutputLines.{missing_line}
use Rattle.bplint_engine.specs.Print.{NodeSays, PathSays, PrintSays}
use Rattle.bplint_engine.proofs.EqualAnswers.{same_gives}
use Rattle.bplint_engine.proofs.LeftBytes.{begins_nothing, kept_self, led_as, said_as}
use Rattle.bplint_engine.proofs.PathAnswers.{IsThere, IsYes}

-- the cursor met a failed read or refused memory
pub cursor_stopped : (Says : Answer → Type 0) (most : ℕ) (old : Option (List ℕ)) (fault : CursorFault) → IsExcused fault
    → LeavesBy Says most old old (Err (cursor_fault fault))
cursor_stopped Says most old (cursor_faults.Read _) h = begins_nothing Says most old old (kept_self old)
cursor_stopped Says most old cursor_faults.Changed h = absurd (h refl)
cursor_stopped Says most old cursor_faults.Memory h = begins_nothing Says most old old (kept_self old)

within : (old new : Option (List ℕ)) (s : Sending) (limit : ℕ) → s ≡ record { sent = 0; held = [] } → AtMost old new (length s.held + limit) → AtMost old new limit
within old new s limit start (gone, few, added) = (gone, omega (arith, few, ap (λ x. length x.held) start), added)

-- a first part of the text is a first part of the answer
begun_answer : (old new : Option (List ℕ)) (s : Sending) (f : List ℕ) (F : Frame) (n : ℕ) (w : Value) (limit : ℕ)
    → s ≡ record { sent = 0; held = [] } → HasText w limit (λ t. SendsSome old new (s.held ++ t)) → AtMost old new (length s.held + limit)
    → BeginsAnswer (NodeSays f F limit n w) (Some limit) old new
begun_answer old new s f F n w limit start (t, is, low, few, some) bound =
    let all : t ++ 10 ∷ [] ≡ some.0 ++ (some.1 ++ 10 ∷ []) =
    ap (λ l. l ++ 10 ∷ []) (sym (ap (λ x. x.held ++ t) start) ∙ some.3) ∙ append_assoc some.0 some.1 (10 ∷ []) in (
      within old new s limit start bound,
      inr (All, t ++ 10 ∷ [], (t, is, low, few, (refl, refl)), (some.0, some.1 ++ 10 ∷ [], some.2, all)),
    )

-- the text was not put in as a whole
print_failed : (old new : Option (List ℕ)) (s u : Sending) (f : List ℕ) (F : Frame) (n : ℕ) (w : Value) (limit : ℕ) (fault : PrintFault)
    → s ≡ record { sent = 0; held = [] } → IsPut old new s u f F n w limit (Err fault) → AtMost old new (length s.held + limit)
    → LeavesBy (NodeSays f F limit n w) limit old new (Err (print_fault fault))
print_failed old new s u f F n w limit (print_faults.NoAsciiForm part) start (none, formless, (kept, _)) bound = ((none, formless), kept)
print_failed old new s u f F n w limit print_faults.TooLong start (some, long, (kept, _)) bound = ((some, long), kept)
print_failed old new s u f F n w limit (print_faults.Write sent) start (t, is, low, few, part) bound = (
  All,
  t ++ 10 ∷ [],
  (t, is, low, few, (refl, refl)),
  part_of_more old new (record { sent = 0; held = [] }) t (10 ∷ []) sent (out_part old old new s [] t sent (out_start old s (ap (λ x. x.sent) start) (ap (λ x. x.held) start)) part),
)
print_failed old new s u f F n w limit (print_faults.Read _) start (inl (none, (kept, _))) bound = (within old new s limit start bound, inl kept)
print_failed old new s u f F n w limit (print_faults.Read _) start (inr begun) bound = begun_answer old new s f F n w limit start begun bound
print_failed old new s u f F n w limit print_faults.Changed start h bound = absurd h
print_failed old new s u f F n w limit print_faults.Memory start begun bound = begun_answer old new s f F n w limit start begun bound

-- the same for an answer that is known to be this fault
pub print_refused : (old new : Option (List ℕ)) (s u : Sending) (f : List ℕ) (F : Frame) (n : ℕ) (w : Value) (limit : ℕ) (r : Result (Unit {0}) PrintFault) (fault : PrintFault)
    → r ≡ Err fault → s ≡ record { sent = 0; held = [] } → IsPut old new s u f F n w limit r → AtMost old new (length s.held + limit)
    → LeavesBy (NodeSays f F limit n w) limit old new (Err (print_fault fault))
print_refused old new s u f F n w limit r fault is start put bound =
    print_failed old new s u f F n w limit fault start (subst (λ x. IsPut old new s u f F n w limit x) is put) bound

-- the text was put in, and its line feed was not
pub end_failed : (old mid new : Option (List ℕ)) (s t : Sending) (f : List ℕ) (F : Frame) (n : ℕ) (w : Value) (limit sent : ℕ)
    → s ≡ record { sent = 0; held = [] } → IsPut old mid s t f F n w limit (Ok tt) → TakesPart mid new t (10 ∷ []) sent
    → LeavesBy (NodeSays f F limit n w) limit old new (Err (faults.Write sent))
end_failed old mid new s t f F n w limit sent start (text, is, low, few, takes) part =
    let out = out_takes (out_start old s (ap (λ x. x.sent) start) (ap (λ x. x.held) start)) takes in
    (All, text ++ 10 ∷ [], (text, is, low, few, (refl, refl)), out_part old mid new t text (10 ∷ []) sent out part)

-- the text and the line feed were written
pub printed : (old mid new : Option (List ℕ)) (s t u : Sending) (f : List ℕ) (F : Frame) (n : ℕ) (w : Value) (limit : ℕ)
    → s ≡ record { sent = 0; held = [] } → IsPut old mid s t f F n w limit (Ok tt) → Takes mid new t u (10 ∷ []) → u.held ≡ []
    → LeavesBy (NodeSays f F limit n w) limit old new (Ok All)
printed old mid new s t u f F n w limit start (text, is, low, few, takes) ended empty =
    let out = out_takes (out_start old s (ap (λ x. x.sent) start) (ap (λ x. x.held) start)) takes in
    (text ++ 10 ∷ [], (text, is, low, few, (refl, refl)), out_end (out_takes out ended) empty)

-- the answer for what is under a path
abbrev pub FoundSays : List ℕ → Frame → ℕ → List (List ℕ) → Answer → Result Value (ℕ × Why) → Type 0
FoundSays f F limit steps answer found = MatchResult found
    (λ w. (n : ℕ) × LeadTo f F F.top.0 steps n × NodeSays f F limit n w answer)
    (λ missing. answer ≡ gives SomeMissing (missing_line missing.0 missing.1 ++ 10 ∷ []))

-- the answer for the node under a path is the answer for the path
node_to_path : (f : List ℕ) (F : Frame) (limit n : ℕ) (steps : List (List ℕ)) (v w : Value) → LeadTo f F F.top.0 steps n → look 0 v steps ≡ Ok w
    → (a : Answer) → NodeSays f F limit n w a → PathSays f F limit steps v a
node_to_path f F limit n steps v w leads is a h = subst (FoundSays f F limit steps a) (sym is) (n, leads, h)

pub at_node : (checked : CheckedFile) (v : Value) (steps : List (List ℕ)) (node : Node) (limit : ℕ) (old new : Option (List ℕ)) (result : Result Said RunFault)
    → IsFound checked checked.frame.top.0 v steps (At node)
    → ((w : Value) → IsHeld checked node.object.0 w → LeavesBy (NodeSays checked.source.octets checked.frame limit node.object.0 w) limit old new result)
    → LeavesBy (PathSays checked.source.octets checked.frame limit steps v) limit old new result
at_node checked v steps node limit old new result (leads, vouched, (w, is, holds)) left =
    said_as (NodeSays checked.source.octets checked.frame limit node.object.0 w) (PathSays checked.source.octets checked.frame limit steps v) limit old new result
    (node_to_path checked.source.octets checked.frame limit node.object.0 steps v w leads is) (left w (vouched, holds))

-- the node's text was written
pub text_written : (checked : CheckedFile) (v : Value) (steps : List (List ℕ)) (node : Node) (limit : ℕ) (old new : Option (List ℕ)) (said : Said)
    → IsFound checked checked.frame.top.0 v steps (At node)
    → ((w : Value) → IsHeld checked node.object.0 w → LeavesBy (NodeSays checked.source.octets checked.frame limit node.object.0 w) limit old new (Ok said))
    → LeavesLed (PathSays checked.source.octets checked.frame limit steps v) (Some limit) old new (Ok There)
text_written checked v steps node limit old new said (leads, vouched, (w, is, holds)) left =
    let (bytes, (text, has, low, few, (_, all)), added) = left w (vouched, holds) in
    (bytes, node_to_path checked.source.octets checked.frame limit node.object.0 steps v w leads is (gives All bytes) (text, has, low, few, (refl, all)), added)

-- a path leads nowhere
pub missing_says : (f : List ℕ) (F : Frame) (limit : ℕ) (steps : List (List ℕ)) (v : Value) (step : ℕ) (why : Why) (made : Result Output RunFault)
    → look 0 v steps ≡ Err (step, why)
    → IfOk made (λ output. (output.said ≡ SomeMissing) × (output.bytes.items ≡ missing_line step why ++ 10 ∷ []))
    → IfErr made (λ fault. fault ≡ faults.Memory) → Answers (PathSays f F limit steps v) made
missing_says f F limit steps v step why (Ok output) is told _ =
    subst (FoundSays f F limit steps (gives output.said output.bytes.items)) (sym is) (same_gives output.said SomeMissing output.bytes.items _ told.0 told.1)
missing_says f F limit steps v step why (Err fault) is _ memory = subst (IsRefusal (PathSays f F limit steps v)) (sym memory) tt

-- Says accepts the file, and the value under the path was printed
pub print_leaves : (Says : Answer → Type 0) (f : List ℕ) (texts : List (List ℕ)) (limit : ℕ) (steps : List (List ℕ)) (F : Frame) (old new : Option (List ℕ))
    (result : Result Said RunFault) → AllZip IsPathOf texts (steps ∷ []) → IsYes Says → ∥ IsThere f F ∥₁
    → ((v : Value) → Holds f F F.top.0 v → LeavesBy (PathSays f F limit steps v) limit old new result)
    → Leaves (PrintSays limit Says f texts) limit old new result
print_leaves Says f texts limit steps F old new result are (said, bytes, says) there left = ∥∥₁_map there (λ (v, frame, holds, held).
    said_as (PathSays f F limit steps v) (PrintSays limit Says f texts) limit old new result
    (λ a h. inr (steps ∷ [], gives said bytes, are, says, (v, holds, (steps, F, refl, frame, h)))) (left v held))

-- the same if the line of a path that leads nowhere is handed out
pub text_leaves : (Says : Answer → Type 0) (f : List ℕ) (texts : List (List ℕ)) (limit : ℕ) (steps : List (List ℕ)) (F : Frame) (old new : Option (List ℕ))
    (result : Result Led RunFault) → AllZip IsPathOf texts (steps ∷ []) → IsYes Says → IsThere f F
    → ((v : Value) → Holds f F F.top.0 v → LeavesLed (PathSays f F limit steps v) (Some limit) old new result)
    → LeavesLed (PrintSays limit Says f texts) (Some limit) old new result
text_leaves Says f texts limit steps F old new result are (said, bytes, says) (v, frame, holds, held) left =
    led_as (PathSays f F limit steps v) (PrintSays limit Says f texts) (Some limit) old new result
    (λ a h. inr (steps ∷ [], gives said bytes, are, says, (v, holds, (steps, F, refl, frame, h)))) (left v held)

-- a line feed was put in, and the flush failed
pub line_cut : (old mid new : Option (List ℕ)) (s t : Sending) (r : Result (Unit {0}) WriteFault) → Takes old mid s t (10 ∷ [])
    → IfErr r (λ fault. TakesPart mid new t [] fault.sent) → IfErr r (λ fault. TakesPart old new s (10 ∷ []) fault.sent)
line_cut old mid new s t (Ok _) takes part = tt
line_cut old mid new s t (Err fault) takes part = takes_then_part old mid new s t (10 ∷ []) [] fault.sent takes part
