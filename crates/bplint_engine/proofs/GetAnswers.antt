-- What `get` and `ls` say, derived from the contracts of the cursor.
use Rattle.std.proofs.Common.{◌≡◌, ◌∙◌, ◌++◌, ◌||◌, inr, ℕ, List, [], ◌∷◌, map, Bool, Result, Ok, Err, ap, refl, sym, subst}
use Rattle.std.proofs.Math.Logic.{∥∥₁_map, ∥∥₁_elim}
use Rattle.std.proofs.Props.{props}
use Rattle.std.proofs.lemmas.Grind.{merely}
use Rattle.std.specs.Prelude.{if◌then◌else◌, is_err, IfOk, IfErr, MatchResult}
use Rattle.std.specs.List.{AllZip, flat_map, list_any}
use Rattle.bplist_objects.specs.declared.frame.Frame.{Frame}
use Rattle.bplist_objects.specs.Value.{Value}
use Rattle.bplist_objects.specs.Holds.{Holds}
use Rattle.bplist_cursor.specs.declared.node.Why.{Why}
use Rattle.bplist_cursor.specs.declared.replies.Query.{Query}
use Rattle.bplist_cursor.specs.declared.replies.Query.TheVariants.{Get}
use Rattle.bplist_cursor.specs.declared.replies.Reply.{Reply}
use Rattle.bplist_cursor.specs.declared.replies.Reply.TheVariants.{Face, Missing}
use Rattle.bplist_cursor.specs.Answered.{IsAnswered, RefusesBy}
use Rattle.bplist_cursor.specs.declared.certified_answers.AnswerFault.{AnswerFault}
use Rattle.bplist_cert.specs.Encoding.{octets_of}
use Rattle.bplist_cert.specs.Lists.{Lists, IsCertificate}
use Rattle.bplist_cert.specs.PairFault.{IsPairFault}
use Rattle.bplist_cert.specs.Sorted.{IsAccepted}
use Rattle.bplist_cursor.specs.Look.{look}
use Rattle.bplist_cursor.specs.Path.{IsPathOf}
use Rattle.bplist_cursor.specs.Replies.{face, reply}
use Rattle.bplint_lines.specs.declared.fault.RunFault.{RunFault}
use Rattle.bplint_lines.specs.declared.fault.RunFault.TheVariants as faults
use Rattle.bplint_engine.specs.declared.output.Output.{Output}
use Rattle.bplint_lines.specs.Answers.{Answer, gives}
use Rattle.bplint_engine.specs.Output.{Answers, IsRefusal}
use Rattle.bplint_lines.specs.Faults.{GivesOrIsExcused, IsExcused}
use Rattle.bplint_lines.specs.declared.fault.Said.{Said}
use Rattle.bplint_lines.specs.declared.fault.Said.TheVariants.{All, SomeMissing}
use Rattle.bplint_lines.specs.declared.texts.Style.{Style}
use Rattle.bplint_lines.specs.declared.texts.Style.TheVariants.{OldStyle}
use Rattle.bplint_engine.specs.Get.{LinesSay, answer_fault, found_line, is_missing, replies_said, reply_line, said_of}
use Rattle.bplint_engine.specs.Check.{CheckSays}
use Rattle.bplint_engine.proofs.EqualAnswers.{same_gives}
use Rattle.bplint_engine.proofs.PathAnswers.{AreLines, IsThere, IsYes, check_yes, file_refused}
use Rattle.bplint_engine.proofs.RefusedCertificates.{answer_refused}

-- a read failed or memory was refused
pub excused_refused : (Says : Answer → Type 0) (fault : RunFault) → IsExcused fault → IsRefusal Says fault
excused_refused Says (faults.Read _) h = tt
excused_refused Says faults.Memory h = tt
excused_refused Says _ h = absurd h

-- a file that suits, or a fault that excuses, answers for what was there before
pub suited_or_refused : {T E : Type 0} (Says : Answer → Type 0) (P Q : T → Type 0) (R : (RunFault × E) → Type 0) (r : Result T (RunFault × E))
    → ((suited : T) → P suited → Q suited) → MatchResult r P R → IfErr r (λ refused. IsExcused refused.0)
    → MatchResult r Q (λ refused. IsRefusal Says refused.0)
suited_or_refused Says P Q R (Ok suited) keeps handed excused = keeps suited handed
suited_or_refused Says P Q R (Err refused) keeps handed excused = excused_refused Says refused.0 excused

module _ (style : Style) where
  -- ---- replies to paths
  line_of_found : (found : Result Value (ℕ × Why)) → reply_line style (elim found [ Ok w ↦ Face (face w) | Err (k, why) ↦ Missing k why ]) ≡ found_line style found
  line_of_found (Ok w) = refl
  line_of_found (Err (k, why)) = refl

  lines_told : (v : Value) (paths : List (List (List ℕ))) → flat_map (reply_line style) (map (reply v) (map Get paths)) ≡ flat_map (found_line style) (map (look 0 v) paths)
  lines_told v [] = refl
  lines_told v (path ∷ paths) = λ i. line_of_found (look 0 v path) i ++ lines_told v paths i

  missing_of_found : (found : Result Value (ℕ × Why)) → is_missing (elim found [ Ok w ↦ Face (face w) | Err (k, why) ↦ Missing k why ]) ≡ is_err found
  missing_of_found (Ok w) = refl
  missing_of_found (Err (k, why)) = refl

  missing_told : (v : Value) (paths : List (List (List ℕ))) → list_any is_missing (map (reply v) (map Get paths)) ≡ list_any is_err (map (look 0 v) paths)
  missing_told v [] = refl
  missing_told v (path ∷ paths) = λ i. missing_of_found (look 0 v path) i || missing_told v paths i

  -- the replies and what the paths lead to give the same `Said`
  pub told_of : (v : Value) (paths : List (List (List ℕ))) (queries : List Query) (said : Said) (bytes : List ℕ) → queries ≡ map Get paths
      → (said ≡ replies_said (map (reply v) queries)) × (bytes ≡ flat_map (reply_line style) (map (reply v) queries))
      → (said ≡ said_of (map (look 0 v) paths)) × (bytes ≡ flat_map (found_line style) (map (look 0 v) paths))
  told_of v paths queries said bytes asked (is, lines) = (
    is ∙ ap (λ (qs : List Query). replies_said (map (reply v) qs)) asked ∙ ap (λ (m : Bool). if m then SomeMissing else All) (missing_told v paths),
    lines ∙ ap (λ (qs : List Query). flat_map (reply_line style) (map (reply v) qs)) asked ∙ lines_told v paths,
  )

  -- Says accepts the file, and the queries have replies
  pub queries_say : (Says : Answer → Type 0) (f : List ℕ) (texts : List (List ℕ)) (paths : List (List (List ℕ))) (queries : List Query) (F : Frame) (made : Result Output RunFault)
      → AllZip IsPathOf texts paths → queries ≡ map Get paths → IsYes Says → ∥ IsThere f F ∥₁
      → GivesOrIsExcused (λ output. (v : Value) → Holds f F F.top.0 v
      → (output.said ≡ replies_said (map (reply v) queries)) × (output.bytes.items ≡ flat_map (reply_line style) (map (reply v) queries))) made
      → ∥ Answers (LinesSay (found_line style) Says f texts) made ∥₁
  queries_say Says f texts paths queries F (Ok output) are asked (said, bytes, says) there told = ∥∥₁_map there (λ (v, _, holds, held).
      let t = told_of v paths queries output.said output.bytes.items asked (told v held) in
      inr (paths, gives said bytes, are, says, (v, holds, same_gives output.said (said_of (map (look 0 v) paths)) output.bytes.items (flat_map (found_line style) (map (look 0 v) paths)) t.0 t.1)))
  queries_say Says f texts paths queries F (Err fault) are asked sure there told = merely (excused_refused (LinesSay (found_line style) Says f texts) fault told)

  -- the same for the replies that the file's value gives
  pub replies_say : (Says : Answer → Type 0) (f : List ℕ) (texts : List (List ℕ)) (paths : List (List (List ℕ))) (queries : List Query) (replies : List Reply) (made : Result Output RunFault)
      → AllZip IsPathOf texts paths → queries ≡ map Get paths → ∥ IsYes Says ∥₁ → ∥ IsAnswered f queries replies ∥₁
      → GivesOrIsExcused (λ output. (output.said ≡ replies_said replies) × (output.bytes.items ≡ flat_map (reply_line style) replies)) made
      → ∥ Answers (LinesSay (found_line style) Says f texts) made ∥₁
  replies_say Says f texts paths queries replies (Ok output) are asked sure there told =
      ∥∥₁_elim sure (hlevel props) (λ (said, bytes, says). ∥∥₁_map there (λ a.
      let t = told_of a.0.value paths queries output.said output.bytes.items asked (told.0 ∙ ap replies_said a.1, told.1 ∙ ap (λ (rs : List Reply). flat_map (reply_line style) rs) a.1) in
      inr (paths, gives said bytes, are, says, (a.0.value, a.0.holds, same_gives output.said (said_of (map (look 0 a.0.value) paths)) output.bytes.items (flat_map (found_line style) (map (look 0 a.0.value) paths)) t.0 t.1))))
  replies_say Says f texts paths queries replies (Err fault) are asked sure there told = merely (excused_refused (LinesSay (found_line style) Says f texts) fault told)

-- the same for a file and a certificate, for which there may be no replies
pub certified_say : (f cert : List ℕ) (texts : List (List ℕ)) (paths : List (List (List ℕ))) (queries : List Query) (lists : Lists) {R : Type 0} (items : R → List Reply) (told : Result R AnswerFault) (made : Result Output RunFault)
    → AllZip IsPathOf texts paths → queries ≡ map Get paths → IsCertificate lists × (cert ≡ octets_of lists)
    → IfOk told (λ replies. ∥ IsAnswered f queries (items replies) ∥₁) → IfOk told (λ _. ∥ ((F : Frame) × IsAccepted f F lists) ∥₁)
    → IfErr told (RefusesBy (IsPairFault f lists))
    → MatchResult told (λ replies. GivesOrIsExcused (λ output. (output.said ≡ replies_said (items replies)) × (output.bytes.items ≡ flat_map (reply_line OldStyle) (items replies))) made) (λ fault. made ≡ Err (answer_fault fault))
    → ∥ Answers (LinesSay (found_line OldStyle) (CheckSays f cert) f texts) made ∥₁
certified_say f cert texts paths queries lists items (Ok replies) made are asked (is, spelled) there accepted refused lines =
    replies_say OldStyle (CheckSays f cert) f texts paths queries (items replies) made are asked (∥∥₁_map accepted (λ a. check_yes f cert a.0 lists (is, spelled, merely a.1))) there lines
certified_say f cert texts paths queries lists items (Err fault) made are asked (is, spelled) there accepted refused lines =
    subst (λ x. ∥ Answers (LinesSay (found_line OldStyle) (CheckSays f cert) f texts) x ∥₁) (sym lines)
    (merely (file_refused (CheckSays f cert) f texts (AreLines (found_line OldStyle)) paths (answer_fault fault) are (answer_refused f cert lists fault is spelled refused)))
