-- A file has at most one first fault, and a file that has one holds no value.
use Rattle.std.proofs.Common.{◌≡◌, ◌⊎◌, ℕ, inl, inr, List, [], None, sym, ◌∙◌, subst}
use Rattle.bplist_objects.specs.declared.rule.Rule.{Rule}
use Rattle.bplist_objects.specs.declared.fault.Fault.{Fault}
use Rattle.bplist_objects.specs.declared.frame.Frame.{Frame}
use Rattle.bplist_objects.specs.Frame.{IsFrame}
use Rattle.bplist_objects.specs.Reach.{Reach}
use Rattle.bplist_objects.proofs.ReachedObjects.{reach_within}
use Rattle.bplist_objects.proofs.FirstFaults.{no_frame, one_frame_fault}
use Rattle.bplist_objects.proofs.FrameTies.{numbered}
use Rattle.bplist_cert.specs.Lists.{lists}
use Rattle.bplist_cert.specs.CheckRules.{key_rules}
use Rattle.bplist_cert.proofs.AcceptedCertificates.{no_least_fault}
use Rattle.bplist_cert.proofs.OneFault.{one_least_fault}
use Rattle.bplist_lint.specs.ReachRules.{IsReachedFault, KeepReached, reach_rules}
use Rattle.bplist_lint.specs.FileFault.{IsCircle, IsFileFault, IsFileCircle}
use Rattle.bplist_lint.specs.WellFormed.{IsWellFormed}
use Rattle.bplist_lint.proofs.KeptRules.{kept_each, formed_reach, formed_keys}
use Rattle.bplist_lint.proofs.OneCircle.{one_circle, circle_not_founded}

-- a file has one frame
pub one_frame : (f : List ℕ) (F G : Frame) → IsFrame f F → IsFrame f G → F ≡ G
one_frame f F G a b = a.spelled ∙ sym b.spelled

-- the first fault of the objects, with this frame
abbrev IsObjectsFault : List ℕ → Frame → Fault → Type 0
IsObjectsFault f F fault =
    IsReachedFault f F reach_rules fault ⊎ (KeepReached f F reach_rules F.objects × IsReachedFault f F (key_rules None) fault)

-- ---- the first fault of the objects is one
module _ (f : List ℕ) (F : Frame) (frame : IsFrame f F) where
  -- if all reached objects keep their rules, there is no fault by them
  all_kept : (kept_rules : List Rule) (a : Fault) → KeepReached f F kept_rules F.objects → IsReachedFault f F kept_rules a → ⊥
  all_kept kept_rules = no_least_fault f F (Reach f F) (lists [] None) kept_rules F.objects (reach_within f F (numbered frame).top)

  objects_kept : (a : Fault) → KeepReached f F reach_rules F.objects → KeepReached f F (key_rules None) F.objects → IsObjectsFault f F a → ⊥
  objects_kept a kept keys (inl h) = all_kept reach_rules a kept h
  objects_kept a kept keys (inr h) = all_kept (key_rules None) a keys h.1

  one_objects_fault : (a b : Fault) → IsObjectsFault f F a → IsObjectsFault f F b → a ≡ b
  one_objects_fault a b (inl h) (inl k) = one_least_fault f F (Reach f F) (lists [] None) reach_rules a b h k
  one_objects_fault a b (inl h) (inr k) = absurd (all_kept reach_rules a k.0 h)
  one_objects_fault a b (inr h) (inl k) = absurd (all_kept reach_rules b h.0 k)
  one_objects_fault a b (inr h) (inr k) = one_least_fault f F (Reach f F) (lists [] None) (key_rules None) a b h.1 k.1

-- ---- the first fault of a file
module _ (f : List ℕ) where
  pub one_file_fault : (a b : Fault) → IsFileFault f a → IsFileFault f b → a ≡ b
  one_file_fault a b (inl h) (inl k) = one_frame_fault f a b h k
  one_file_fault a b (inl h) (inr (F, frame, k)) = absurd (no_frame f F a h frame)
  one_file_fault a b (inr (F, frame, h)) (inl k) = absurd (no_frame f F b k frame)
  one_file_fault a b (inr (F, frame, h)) (inr (G, other, k)) =
      one_objects_fault f F frame a b h (subst (λ E. IsObjectsFault f E b) (one_frame f G F other frame) k)

  pub one_file_circle : (a b : List ℕ) → IsFileCircle f a → IsFileCircle f b → a ≡ b
  one_file_circle a b (F, frame, kept, h) (G, other, kept', k) =
      one_circle f F a b h (subst (λ E. IsCircle f E b) (one_frame f G F other frame) k)

  pub fault_or_circle : (a : Fault) (circle : List ℕ) → IsFileFault f a → IsFileCircle f circle → ⊥
  fault_or_circle a circle (inl h) (F, frame, kept, c) = no_frame f F a h frame
  fault_or_circle a circle (inr (F, frame, h)) (G, other, kept, c) =
      let each = kept_each f G G.objects kept in
      objects_kept f G other a each.0 each.1 (subst (λ E. IsObjectsFault f E a) (one_frame f F G frame other) h)

  -- ---- and it is final
  pub fault_not_formed : (F : Frame) (a : Fault) → IsFileFault f a → IsWellFormed f F → ⊥
  fault_not_formed F a (inl h) w = no_frame f F a h w.frame
  fault_not_formed F a (inr (G, frame, h)) w =
      objects_kept f F w.frame a (formed_reach f F w) (formed_keys f F w) (subst (λ E. IsObjectsFault f E a) (one_frame f G F frame w.frame) h)

  pub circle_not_formed : (F : Frame) (circle : List ℕ) → IsFileCircle f circle → IsWellFormed f F → ⊥
  circle_not_formed F circle (G, frame, kept, c) w =
      circle_not_founded f F circle (subst (λ E. IsCircle f E circle) (one_frame f G F frame w.frame) c) w.founded
