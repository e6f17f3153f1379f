-- What a quick look at object n shows.
use Rattle.std.proofs.Common.{◌≡◌, ℕ, ◌+◌, ◌-◌, ◌<◌, List, length, slice_index, Result, Ok, Err, OnOk, arith, refl, sym, ap, ◌∙◌, subst}
use Rattle.bplist_objects.specs.declared.frame.Frame.{Frame}
use Rattle.bplist_objects.specs.declared.head.Head.{Head}
use Rattle.bplist_objects.specs.declared.head.Kind.{Kind}
use Rattle.bplist_objects.specs.declared.head.Kind.TheVariants as kinds
use Rattle.bplist_objects.specs.declared.fault.Fault.{Fault}
use Rattle.bplist_objects.specs.declared.fault.ObjectFault.{ObjectFault}
use Rattle.bplist_objects.specs.declared.fault.ObjectFault.TheVariants as errors
use Rattle.bplist_objects.specs.Answers.{Gives}
use Rattle.bplist_objects.specs.Safe.{ref_count}
use Rattle.bplist_objects.specs.Announced.{HasHead}
use Rattle.bplist_objects.specs.Extents.{Sums}
use Rattle.bplist_objects.specs.Frame.{off}
use Rattle.bplist_objects.specs.Heads.{HasShape}
use Rattle.bplist_objects.specs.Rules.{KeepsAll}
use Rattle.bplist_objects.specs.Scan.{AreBelow, ref}
use Rattle.bplist_objects.specs.ObjectRules.{IsObjectFault, KeepsByObject, body_rules, shape_rules}
use Rattle.bplist_objects.proofs.AnswerLaws.{answers_mean}
use Rattle.bplist_objects.proofs.BodyLaws.{HasHead-unique}
use Rattle.bplist_objects.proofs.Broken.{no_object_fault}
use Rattle.bplist_objects.proofs.ExtentSums.{overfull, shape_extent, sums_more}
use Rattle.bplist_objects.proofs.RuleLaws.{kept_all_parts}
use Rattle.bplist_cert.specs.declared.heights.Wanted.TheVariants.{VouchedBelow}
use Rattle.bplist_cert.specs.Heights.{AreMet, IsUnmetFault}
use Rattle.bplist_cert.specs.Looks.{KeepsBeforeKeys, KeepsRest}
use Rattle.bplist_cert.specs.Valid.{IsVouchedBy}
use Rattle.bplist_cert.proofs.CheckSteps.{vouched_inside}
use Rattle.bplist_cert.proofs.KeyRepeats.{seen_lower, seen_own, seen_parts}

module _ (f : List ℕ) (F : Frame) (heights : List ℕ) (n : ℕ) (head : Head) where
  abbrev refs : ℕ
  refs = ref_count head.kind head.count

  module _ (has : HasHead f F n head) (some : refs ≡ 0 → ⊥) (all : length heights ≡ F.objects) where
    -- an object of a kind without references
    other_kind : (kind : Kind) → ref_count kind head.count ≡ 0 → (other : Head) → HasHead f F n other → other.kind ≡ kind → ⊥
    other_kind kind none other h e =
        some (subst (λ k. ref_count k head.count ≡ 0) (sym (ap (λ (x : Head). x.kind) (HasHead-unique f F n head other has h) ∙ e)) none)

    module _ (met : AreMet f F heights head (VouchedBelow (slice_index heights n)) refs) where
      -- references with heights are those of objects
      inside : AreBelow f head.body F.ref_size refs F.objects
      inside k lt = vouched_inside heights F.objects (ref f F head k) all (met k lt).0

      refs_below : (other : Head) → HasHead f F n other → AreBelow f other.body F.ref_size (ref_count other.kind other.count) F.objects
      refs_below other h = subst (λ (x : Head). AreBelow f x.body F.ref_size (ref_count x.kind x.count) F.objects) (HasHead-unique f F n head other has h) inside

      -- with references the body keeps its rules
      pub body_kept : KeepsAll (KeepsByObject f F n) body_rules
      body_kept = ((λ other h e. absurd (other_kind kinds.Ascii refl other h e)), ((λ other h e. absurd (other_kind kinds.Uid refl other h e)), (refs_below, tt)))

  abbrev Rest : Type 0
  Rest = KeepsRest f F heights n head

  -- without references the body decides the rest, and what follows from no more
  pub rest_by_body : {B : Type 0} (result : Result (Unit {0}) ObjectFault) → refs ≡ 0 → B → Gives (λ _. KeepsAll (KeepsByObject f F n) body_rules) (IsObjectFault f F n body_rules) result
      → Gives (λ _. Rest × B) (λ _. Rest → ⊥) result
  rest_by_body result none b =
      answers_mean _ _ _ _ result (λ _ body. ((body, (λ k lt. absurd (omega (arith, lt, none)), λ k lt. absurd (omega (arith, lt, none)))), b)) (λ fault h kept. no_object_fault f F n body_rules fault kept.0 h)

  -- with references their heights decide it, and what follows from more claims
  pub rest_by_heights : {A B : Type 0} (result : Result (Unit {0}) ObjectFault) → HasHead f F n head → (refs ≡ 0 → ⊥) → length heights ≡ F.objects
      → (AreMet f F heights head (VouchedBelow (slice_index heights n)) refs → A → B)
      → Gives (λ _. AreMet f F heights head (VouchedBelow (slice_index heights n)) refs) (IsUnmetFault f F heights n head (VouchedBelow (slice_index heights n))) result → OnOk result A
      → Gives (λ _. Rest × B) (λ _. Rest → ⊥) result
  rest_by_heights (Ok _) has some all more met a = ((body_kept has some all met, (λ k lt. (met k lt).0, λ k lt. (met k lt).1)), more met a)
  rest_by_heights (Err (errors.Fault fault)) has some all more (_, _, (i, (within, _, never), _)) a = λ kept. never (λ k lt. (kept.1.0 k (omega (arith, lt, within)), kept.1.1 k (omega (arith, lt, within))))
  rest_by_heights (Err (errors.Read r)) has some all more met a = tt

-- what a quick look finds is a fault
module _ (f : List ℕ) (F : Frame) (heights : List ℕ) (n : ℕ) where
  parts : KeepsBeforeKeys f F heights n → KeepsAll (KeepsByObject f F n) shape_rules × KeepsAll (KeepsByObject f F n) body_rules
  parts kept = kept_all_parts (KeepsByObject f F n) shape_rules body_rules (seen_own f F heights n kept)

  pub shape_shown : (fault : Fault) → IsObjectFault f F n shape_rules fault → KeepsBeforeKeys f F heights n → ⊥
  shape_shown fault h kept = no_object_fault f F n shape_rules fault (parts kept).0 h

  module _ (head : Head) where
    pub rest_shown : HasHead f F n head → (KeepsRest f F heights n head → ⊥) → KeepsBeforeKeys f F heights n → ⊥
    rest_shown has h kept = h ((parts kept).1, (λ k lt. (seen_lower f F heights n kept head has k lt).0, λ k lt. (seen_lower f F heights n kept head has k lt).1))

    pub sum_shown : HasShape f F n head → IsVouchedBy heights n → (t : ℕ) → Sums f F (IsVouchedBy heights) n t → F.table < t + (head.«end» - off f F n) + 8 → KeepsBeforeKeys f F heights n → ⊥
    sum_shown shape vouched t sums large kept =
        let more = sums_more f F (IsVouchedBy heights) n (head.«end» - off f F n) t vouched (shape_extent f F n head shape) sums in
        (seen_parts f F heights n kept).1.0 (overfull f F (IsVouchedBy heights) n (t + (head.«end» - off f F n)) more large)

-- what is true anyway
pub on_ok : {T E P : Type 0} → (result : Result T E) → P → OnOk result P
on_ok (Ok _) p = p
on_ok (Err _) p = tt
