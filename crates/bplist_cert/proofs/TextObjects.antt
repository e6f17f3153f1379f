-- Objects that are texts, and keys.
use Rattle.std.proofs.Common.{◌≡◌, ℕ, suc, ◌<◌, inl, inr, List, refl, subst, arith}
use Rattle.std.proofs.lemmas.Bool.{cases_lt}
use Rattle.bplist_objects.specs.declared.fault.Fault.{Fault}
use Rattle.bplist_objects.specs.declared.frame.Frame.{Frame}
use Rattle.bplist_objects.specs.declared.head.Head.{Head}
use Rattle.bplist_objects.specs.declared.head.Kind.{Kind}
use Rattle.bplist_objects.specs.declared.head.Kind.TheVariants as kinds
use Rattle.bplist_objects.specs.Frame.{IsFrame}
use Rattle.bplist_objects.specs.Heads.{content_at}
use Rattle.bplist_objects.specs.Units.{IsTextKind}
use Rattle.bplist_objects.specs.Announced.{HasHead}
use Rattle.bplist_objects.specs.Rules.{KeepsAll}
use Rattle.bplist_objects.specs.ObjectRules.{KeepsByObject, IsObjectFault, shape_rules, object_rules}
use Rattle.bplist_objects.proofs.BodyLaws.{HasHead-unique}
use Rattle.bplist_objects.proofs.Broken.{no_object_fault}
use Rattle.bplist_objects.proofs.HeadTies.{kept_spells, shape_announced}
use Rattle.bplist_objects.proofs.FirstFaults.{no_content}
use Rattle.bplist_objects.specs.Scan.{ref}
use Rattle.bplist_cert.specs.DictKeys.{IsText, KeysAreTexts}

-- a text that is not Ascii is Wide
pub wide_text : (kind : Kind) → IsTextKind kind → (kind ≡ kinds.Ascii → ⊥) → kind ≡ kinds.Wide
wide_text kinds.Ascii text other = absurd (other refl)
wide_text kinds.Wide text other = refl
wide_text _ text other = absurd text

module _ (f : List ℕ) (F : Frame) (m : ℕ) where
  -- an object with a head of a text's kind is a text
  pub text_there : IsFrame f F → m < F.objects → (head : Head) → HasHead f F m head → KeepsAll (KeepsByObject f F m) object_rules → IsTextKind head.kind → IsText f F m head
  text_there frame lt head has kept kind = record { within = lt; is = kept_spells f F m frame lt head has kept; kind = kind }

  -- an object that breaks a rule is not a text
  pub no_text : IsFrame f F → m < F.objects → (fault : Fault) → IsObjectFault f F m object_rules fault → (key : Head) → IsText f F m key → ⊥
  no_text frame lt fault h key text = no_content f F m frame lt fault (content_at f F key) h text.is.1

  -- an object with a head of another kind is not a text
  pub other_kind : (head : Head) → HasHead f F m head → (IsTextKind head.kind → ⊥) → (key : Head) → IsText f F m key → ⊥
  other_kind head has never key text =
      let same = HasHead-unique f F m key head (shape_announced f F m key text.is.0) has in
      never (subst (λ (x : Head). IsTextKind x.kind) same text.kind)

  -- an object that keeps rules 14 to 20 has no fault by rules 14 to 17
  pub shape_kept : (fault : Fault) → KeepsAll (KeepsByObject f F m) object_rules → IsObjectFault f F m shape_rules fault → ⊥
  shape_kept fault kept h = no_object_fault f F m shape_rules fault (kept.0, (kept.1.0, (kept.1.1.0, (kept.1.1.1.0, tt)))) h

-- one more key is a text
pub texts_more : (f : List ℕ) (F : Frame) (head : Head) (i : ℕ) → KeysAreTexts f F head i → (key : Head) × IsText f F (ref f F head i) key → KeysAreTexts f F head (suc i)
texts_more f F head i before here k low = elim (cases_lt k i) [
  | inl earlier ↦ before k earlier
  | inr last ↦ let e : i ≡ k = omega (arith, last, low) in subst (λ j. (key : Head) × IsText f F (ref f F head j) key) e here
]
