-- What a run leaves that sends its answer in parts.
use Rattle.std.proofs.Common.{◌≡◌, ◌∙◌, ◌++◌, ap, append-nil, inl, inr, ℕ, List, [], ◌∷◌, Option, None, Result, Ok, Err, refl, subst, sym}
use Rattle.std.specs.Prelude.{IfOk, IfErr}
use Rattle.std.specs.List.{AllZip}
use Rattle.bplist_objects.specs.declared.frame.Frame.{Frame}
use Rattle.bplist_objects.specs.Holds.{Holds}
use Rattle.bplist_objects.specs.Value.{Value}
use Rattle.bplist_cursor.specs.declared.faults.CursorFault.{CursorFault}
use Rattle.bplist_cursor.specs.declared.node.Why.{Why}
use Rattle.bplist_cursor.proofs.Causes.{IsExcused as IsCursorExcused}
use Rattle.bplist_cursor.specs.Look.{look}
use Rattle.bplist_cursor.specs.Path.{IsPathOf}
use Rattle.bplint_lines.specs.declared.fault.RunFault.{RunFault}
use Rattle.bplint_lines.specs.declared.fault.RunFault.TheVariants as faults
use Rattle.bplint_lines.specs.declared.raw_fault.RawFault.{RawFault}
use Rattle.bplint_lines.specs.declared.raw_fault.RawFault.TheVariants.{Run, NoRawForm}
use Rattle.bplint_lines.specs.declared.fault.Said.{Said}
use Rattle.bplint_lines.specs.declared.fault.Said.TheVariants.{SomeMissing}
use Rattle.bplint_lines.specs.Answers.{Answer, LeavesSomeBy, gives}
use Rattle.bplint_lines.specs.Faults.{IsExcused}
use Rattle.bplint_lines.specs.declared.texts.Style.{Style}
use Rattle.bplint_lines.specs.OutputLines.{missing_line}
use Rattle.bplint_engine.specs.declared.output.Led.{Led}
use Rattle.bplint_engine.specs.declared.output.Output.{Output}
use Rattle.bplint_engine.specs.Get.{LinesSay, said_of}
use Rattle.bplint_engine.specs.Ls.{PathListed, listed}
use Rattle.bplint_engine.specs.Output.{Answers, IsRefusal}
use Rattle.bplint_engine.specs.Raw.{IsRawless, LeadsToRawless, LeavesRawBy, PathShowsRaw, ShowsRaw}
use Rattle.bplint_engine.specs.Streams.{Fails, begun}
use Rattle.bplint_engine.specs.Tree.{ListsAll, NodeLists, PathLists, RefusesNodes}
use Rattle.bplint_engine.proofs.PathAnswers.{IsThere, IsYes}
use Rattle.bplint_engine.proofs.EqualAnswers.{same_gives}
use Rattle.bplint_engine.proofs.LeftBytes.{kept_self, led_as, said_within}
use Rattle.bplint_engine.proofs.LowerFaults.{cursor_excused, cursor_fault}

-- only a first part of an answer was written
pub some_failed : (Says : Answer → Type 0) (said : Said) (bytes : List ℕ) (old new : Option (List ℕ)) (fault : RunFault) → Says (gives said bytes)
    → Fails old new begun bytes fault → LeavesSomeBy Says old new (Err fault)
some_failed Says said bytes old new (faults.Write sent) says part = (said, bytes, says, part)
some_failed Says said bytes old new (faults.Read _) says some = (tt, inr (said, bytes, says, some))
some_failed Says said bytes old new faults.Memory says some = (tt, inr (said, bytes, says, some))
some_failed Says said bytes old new _ says h = absurd h

-- a read failed or memory was refused before anything was written
pub excused_leaves : (Says : Answer → Type 0) (old : Option (List ℕ)) (fault : RunFault) → IsExcused fault → LeavesSomeBy Says old old (Err fault)
excused_leaves Says old (faults.Read _) h = (tt, inl (kept_self old))
excused_leaves Says old faults.Memory h = (tt, inl (kept_self old))
excused_leaves Says old _ h = absurd h

pub cursor_leaves : (Says : Answer → Type 0) (old : Option (List ℕ)) (fault : CursorFault) → IsCursorExcused fault → LeavesSomeBy Says old old (Err (cursor_fault fault))
cursor_leaves Says old fault h = excused_leaves Says old (cursor_fault fault) (cursor_excused fault h)

-- a failed read or refused memory is why nodes were not counted
pub excused_refuses : (w : Value) (limit : ℕ) (fault : RunFault) → IsExcused fault → RefusesNodes w limit fault
excused_refuses w limit (faults.Read _) h = tt
excused_refuses w limit faults.Memory h = tt
excused_refuses w limit _ h = absurd h

-- nodes were not counted, and nothing was written
pub uncounted : (style : Style) (limit : ℕ) (name : List ℕ) (w : Value) (old : Option (List ℕ)) (fault : RunFault) → RefusesNodes w limit fault
    → LeavesSomeBy (NodeLists style limit name w) old old (Err fault)
uncounted style limit name w old faults.TooLong h = (h, kept_self old)
uncounted style limit name w old (faults.Read _) h = (tt, inl (kept_self old))
uncounted style limit name w old faults.Memory h = (tt, inl (kept_self old))
uncounted style limit name w old _ h = absurd h

-- the same under another description of the answer
pub some_as : (P Q : Answer → Type 0) (old new : Option (List ℕ)) (result : Result Said RunFault) → ((a : Answer) → P a → Q a)
    → LeavesSomeBy P old new result → LeavesSomeBy Q old new result
some_as P Q old new result to left = said_within P Q None old new result to left

pub raw_as : (P Q : Answer → Type 0) (R T : ℕ → Type 0) (old new : Option (List ℕ)) (result : Result Led RawFault) → ((a : Answer) → P a → Q a)
    → ((n : ℕ) → R n → T n) → LeavesRawBy P R old new result → LeavesRawBy Q T old new result
raw_as P Q R T old new (Ok led) to also left = led_as P Q None old new (Ok led) to left
raw_as P Q R T old new (Err (Run fault)) to also left = led_as P Q None old new (Err fault) to left
raw_as P Q R T old new (Err (NoRawForm n)) to also left = (also n.0 left.0, left.1)

-- the line for a path that leads nowhere was made
pub missing_made : (P : Answer → Type 0) (step : ℕ) (why : Why) (made : Result Output RunFault) → ((a : Answer) → a ≡ gives SomeMissing (missing_line step why ++ 10 ∷ []) → P a)
    → IfOk made (λ output. (output.said ≡ SomeMissing) × (output.bytes.items ≡ missing_line step why ++ 10 ∷ []))
    → IfErr made (λ fault. fault ≡ faults.Memory) → Answers P made
missing_made P step why (Ok output) to told _ = to (gives output.said output.bytes.items) (same_gives output.said SomeMissing output.bytes.items _ told.0 told.1)
missing_made P step why (Err fault) to _ memory = subst (IsRefusal P) (sym memory) tt

-- ---- whole files
-- Says accepts the file, and what is under the path was shown raw
pub raw_says : (Says : Answer → Type 0) (f text : List ℕ) (steps : List (List ℕ)) (F : Frame) (old new : Option (List ℕ)) (result : Result Led RawFault)
    → AllZip IsPathOf (text ∷ []) (steps ∷ []) → IsYes Says → IsThere f F
    → ((v : Value) → Holds f F F.top.0 v → LeavesRawBy (PathShowsRaw steps v) (LeadsToRawless f F steps v) old new result)
    → LeavesRawBy (ShowsRaw Says f text) (IsRawless Says f text) old new result
raw_says Says f text steps F old new result are (said, octets, says) (v, frame, holds, held) left =
    raw_as (PathShowsRaw steps v) (ShowsRaw Says f text) (LeadsToRawless f F steps v) (IsRawless Says f text) old new result
    (λ a h. inr (steps ∷ [], gives said octets, are, says, (v, holds, (steps, refl, h))))
    (λ n h. (steps, said, octets, F, v, are.0, says, frame, holds, h))
    (left v held)

-- the same for what was listed
pub lists_all : (style : Style) (limit : ℕ) (Says : Answer → Type 0) (f text : List ℕ) (steps : List (List ℕ)) (F : Frame) (old new : Option (List ℕ)) (result : Result Said RunFault)
    → AllZip IsPathOf (text ∷ []) (steps ∷ []) → IsYes Says → IsThere f F
    → ((v : Value) → Holds f F F.top.0 v → LeavesSomeBy (PathLists style limit text steps v) old new result)
    → LeavesSomeBy (ListsAll style limit Says f text) old new result
lists_all style limit Says f text steps F old new result are (said, octets, says) (v, frame, holds, held) left =
    some_as (PathLists style limit text steps v) (ListsAll style limit Says f text) old new result
    (λ a h. inr (steps ∷ [], gives said octets, are, says, (v, holds, (steps, refl, h)))) (left v held)

-- the same for the lines of `ls`
pub path_listed : (style : Style) (Says : Answer → Type 0) (f text : List ℕ) (steps : List (List ℕ)) (F : Frame) (old new : Option (List ℕ)) (result : Result Said RunFault)
    → AllZip IsPathOf (text ∷ []) (steps ∷ []) → IsYes Says → IsThere f F
    → ((v : Value) → Holds f F F.top.0 v → LeavesSomeBy (PathListed style text steps v) old new result)
    → LeavesSomeBy (LinesSay (listed style text) Says f (text ∷ [])) old new result
path_listed style Says f text steps F old new result are (said, octets, says) (v, frame, holds, held) left =
    some_as (PathListed style text steps v) (LinesSay (listed style text) Says f (text ∷ [])) old new result
    (λ a h. inr (steps ∷ [], gives said octets, are, says, (v, holds, h ∙ ap (gives (said_of (look 0 v steps ∷ []))) (sym (append-nil (listed style text (look 0 v steps)))))))
    (left v held)
