-- What is returned for an object by its rules, in the words of the definitions.
use Rattle.std.proofs.Common.{◌≡◌, ℕ, ◌<◌, List, Result}
use Rattle.bplist_objects.specs.declared.fault.ObjectFault.{ObjectFault}
use Rattle.bplist_objects.specs.declared.frame.Frame.{Frame}
use Rattle.bplist_objects.specs.declared.head.Head.{Head}
use Rattle.bplist_objects.specs.Answers.{Gives, Never}
use Rattle.bplist_objects.specs.Frame.{IsFrame}
use Rattle.bplist_objects.specs.Heads.{Content, HasShape, Spells, IsHeadOf, content_at}
use Rattle.bplist_objects.specs.Rules.{KeepsAll}
use Rattle.bplist_objects.specs.Announced.{HasHead}
use Rattle.bplist_objects.specs.ObjectRules.{KeepsByObject, IsObjectFault, shape_rules, object_rules}
use Rattle.bplist_objects.proofs.AnswerLaws.{answers_mean}
use Rattle.bplist_objects.proofs.Fronts.{one_shape, one_head}
use Rattle.bplist_objects.proofs.HeadTies.{shape_tie, head_tie}
use Rattle.bplist_objects.proofs.FirstFaults.{no_shape, no_content}

module _ (f : List ℕ) (F : Frame) (n : ℕ) (frame : IsFrame f F) (lt : n < F.objects) (result : Result Head ObjectFault) where
  -- the result by rules 14 to 17
  abbrev GivesShape : Type 0
  GivesShape = Gives (λ head. HasHead f F n head × KeepsAll (KeepsByObject f F n) shape_rules) (IsObjectFault f F n shape_rules) result

  pub shape_exact : GivesShape → Gives (HasShape f F n) (IsObjectFault f F n shape_rules) result
  shape_exact h = answers_mean _ (HasShape f F n) (IsObjectFault f F n shape_rules) (IsObjectFault f F n shape_rules) result (λ head. (shape_tie f F n frame lt head).0) (λ fault k. k) h

  -- if the object has a head, that head is returned
  pub shape_answered : GivesShape → (x : Head) → HasShape f F n x → Gives (λ y. y ≡ x) Never result
  shape_answered h x has = answers_mean (HasShape f F n) (λ y. y ≡ x) (IsObjectFault f F n shape_rules) Never result (λ y k. one_shape f F n y x k has) (λ fault k. no_shape f F n fault x k has) (shape_exact h)

  -- the result by rules 14 to 20
  abbrev GivesHead : Type 0
  GivesHead = Gives (λ head. HasHead f F n head × KeepsAll (KeepsByObject f F n) object_rules) (IsObjectFault f F n object_rules) result

  pub head_exact : GivesHead → Gives (IsHeadOf f F n) (IsObjectFault f F n object_rules) result
  head_exact h = answers_mean _ (IsHeadOf f F n) (IsObjectFault f F n object_rules) (IsObjectFault f F n object_rules) result (λ head. (head_tie f F n frame lt head).0) (λ fault k. k) h

  -- if the object spells a content, a head with that content is returned
  pub content_answered : GivesHead → (c : Content) → Spells f F n c → Gives (λ head. c ≡ content_at f F head) Never result
  content_answered h c spelled = answers_mean (IsHeadOf f F n) (λ head. c ≡ content_at f F head) (IsObjectFault f F n object_rules) Never result (λ head k. one_head f F n c (content_at f F head) spelled k.1) (λ fault k. no_content f F n frame lt fault c k spelled) (head_exact h)
