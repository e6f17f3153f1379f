-- What an accepted certificate and the replies of the top's value say about the file.
use Rattle.std.proofs.Common.{◌≡◌, ℕ, List, map, sym, ◌∙◌, subst}
use Rattle.bplist_objects.specs.declared.frame.Frame.{Frame}
use Rattle.bplist_objects.specs.Value.{Value}
use Rattle.bplist_objects.specs.Holds.{Holds}
use Rattle.bplist_cert.specs.Valid.{IsValid}
use Rattle.bplist_cert.specs.declared.refusal.Refusal.{Refusal}
use Rattle.bplist_cert.specs.declared.refusal.Refusal.TheVariants as refusals
use Rattle.bplist_cert.specs.Refusals.{GivesRefusal}
use Rattle.bplist_cert.proofs.VouchedObjects.{sound}
use Rattle.bplist_objects.specs.declared.fault.Fault.{Fault}
use Rattle.bplist_cursor.specs.declared.replies.Query.{Query}
use Rattle.bplist_cursor.specs.declared.replies.Reply.{Reply}
use Rattle.bplist_cursor.specs.Replies.{reply}
use Rattle.bplist_cursor.specs.declared.certified_answers.AnswerFault.{AnswerFault}
use Rattle.bplist_cursor.specs.declared.certified_answers.AnswerFault.TheVariants as faults
use Rattle.bplist_cursor.specs.Answered.{IsAnswered, RefusesBy}

-- the replies of any value that the top holds under valid heights are those of the file's one value
pub answered : (f : List ℕ) (F : Frame) (heights : List ℕ) (queries : List Query) (replies : List Reply) → IsValid f F heights
    → ((v : Value) → Holds f F F.top.0 v → replies ≡ map (reply v) queries) → IsAnswered f queries replies
answered f F heights queries replies valid told =
    let is = sound f F heights valid in
    let same : is.holds.frame ≡ F = is.holds.is.spelled ∙ sym valid.frame.spelled in
    (is, told is.value (subst (λ G. Holds f G G.top.0 is.value) same is.holds.holds))

-- a refusal of the check as the fault of an answer
abbrev pub answer_fault_of : Refusal → AnswerFault
answer_fault_of (refusals.Fault fault) = faults.Fault fault
answer_fault_of (refusals.Read fault) = faults.Read fault
answer_fault_of refusals.Memory = faults.Memory

-- what is true of the fault of a refusal is true of that of the answer
pub refused_by : (Q : Fault → Type 0) (refusal : Refusal) → GivesRefusal Q refusal → RefusesBy Q (answer_fault_of refusal)
refused_by Q (refusals.Fault fault) h = h
refused_by Q (refusals.Read fault) h = tt
refused_by Q refusals.Memory h = tt
