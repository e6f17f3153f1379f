-- A kept rule is not broken, there is only one first fault, and if there is one the definitions do not hold.
use Rattle.std.proofs.Common.{◌≡◌, ℕ, ◌<◌, ◌+◌, ◌*◌, inl, inr, List, [], ◌∷◌, slice_index, Option, Some, sym, ap, ◌∙◌, subst, arith}
use Rattle.bplist_objects.specs.declared.rule.Rule.{Rule}
use Rattle.bplist_objects.specs.declared.rule.Rule.TheVariants as rules
use Rattle.bplist_objects.specs.declared.fault.Fault.{Fault}
use Rattle.bplist_objects.specs.declared.frame.Frame.{Frame}
use Rattle.bplist_objects.specs.declared.frame.ObjectNo.{ObjectNo}
use Rattle.bplist_objects.specs.declared.head.Head.{Head}
use Rattle.bplist_objects.specs.Frame.{off, trailer, header, Keeps, frame_rules, IsFrame}
use Rattle.bplist_objects.specs.Heads.{Content, HasShape, Spells}
use Rattle.bplist_objects.specs.Rules.{IsFirstFault, OfObject}
use Rattle.bplist_objects.specs.Scan.{nth_number, IsFirstNotBelow}
use Rattle.bplist_objects.specs.Safe.{ref_count}
use Rattle.bplist_objects.specs.FrameRules.{Breaks, IsFrameFault}
use Rattle.bplist_objects.specs.ObjectRules.{KeepsByObject, BreaksByObject, shape_rules, object_rules, IsObjectFault}
use Rattle.bplist_objects.proofs.ClaimLaws.{one_first}
use Rattle.bplist_objects.proofs.Broken.{kept_or_broken, no_first_fault, no_object_fault}
use Rattle.bplist_objects.proofs.BodyLaws.{HasHead-unique}
use Rattle.bplist_objects.proofs.HeadTies.{shape_keeps, spells_keeps}

-- ---- rules 1 to 13
-- a rule that is kept is not broken
pub frame_kept_or_broken : (f : List ℕ) (rule : Rule) (object : Option ObjectNo) (place : ℕ) → Keeps f rule → Breaks f rule object place → ⊥
frame_kept_or_broken f rules.Magic object place k b = b.0.2 (λ i l. k i (omega (arith, l, b.0.0)))
frame_kept_or_broken f rules.OffsetHigh object place k b = b.1.2 (λ n l. k n (omega (arith, l, b.1.0)))
frame_kept_or_broken f _ object place k b = b.0 k

-- if one of rules 1 to 13 is broken, there is no frame
pub no_frame : (f : List ℕ) (F : Frame) (fault : Fault) → IsFrameFault f fault → IsFrame f F → ⊥
no_frame f F fault h frame = no_first_fault (Keeps f) (Breaks f) (frame_kept_or_broken f) frame_rules fault frame.kept h

-- ---- rules 14 to 20
module _ (f : List ℕ) (F : Frame) (n : ℕ) where
  -- if one of rules 14 to 17 is broken, there is no head
  pub no_shape : (fault : Fault) (head : Head) → IsObjectFault f F n shape_rules fault → HasShape f F n head → ⊥
  no_shape fault head h shape = no_object_fault f F n shape_rules fault (shape_keeps f F n head shape) h

  -- if one of rules 14 to 20 is broken, nothing is spelled
  pub no_content : IsFrame f F → n < F.objects → (fault : Fault) (c : Content) → IsObjectFault f F n object_rules fault → Spells f F n c → ⊥
  no_content frame lt fault c h s = no_object_fault f F n object_rules fault (spells_keeps f F n c s) h

-- ---- there is only one first fault
abbrev OnePlace : (Rule → Option ObjectNo → ℕ → Type 0) → Type 0
OnePlace breaks = (rule : Rule) (o o' : Option ObjectNo) (p p' : ℕ) → breaks rule o p → breaks rule o' p' → (o ≡ o') × (p ≡ p')

pub one_first_fault : (keeps : Rule → Type 0) (breaks : Rule → Option ObjectNo → ℕ → Type 0)
    → ((rule : Rule) (object : Option ObjectNo) (place : ℕ) → keeps rule → breaks rule object place → ⊥) → OnePlace breaks
    → (list : List Rule) (a b : Fault) → IsFirstFault keeps breaks list a → IsFirstFault keeps breaks list b → a ≡ b
one_first_fault keeps breaks never one [] a b h k = absurd h
one_first_fault keeps breaks never one (rule ∷ rest) a b (inl h) (inl k) =
    let same = one rule a.object b.object a.place b.place h.1 k.1 in
    let r : a.rule ≡ b.rule = h.0 ∙ sym k.0 in
    λ i. record { rule = r i; object = same.0 i; place = same.1 i }
one_first_fault keeps breaks never one (rule ∷ rest) a b (inl h) (inr k) = absurd (never rule a.object a.place k.0 h.1)
one_first_fault keeps breaks never one (rule ∷ rest) a b (inr h) (inl k) = absurd (never rule b.object b.place h.0 k.1)
one_first_fault keeps breaks never one (rule ∷ rest) a b (inr h) (inr k) = one_first_fault keeps breaks never one rest a b h.1 k.1

same_rest : (p p' k : ℕ) → p + k ≡ p' + k → p ≡ p'
same_rest p p' k e = omega (arith, e)

one_frame_place : (f : List ℕ) → OnePlace (Breaks f)
one_frame_place f rules.Magic o o' p p' b c =
    (b.1 ∙ sym c.1, one_first (λ i. slice_index f i ≡ slice_index header i) 8 p p' b.0 c.0)
one_frame_place f rules.OffsetHigh o o' p p' b c =
    let F = trailer f in
    let e : b.0 ≡ c.0 = one_first (λ n. off f F n < F.table) F.objects b.0 c.0 b.1 c.1 in
    (b.2 ∙ ap (λ n. Some (record { 0 = n })) e ∙ sym c.2, b.3 ∙ ap (λ n. F.table + n * F.offset_size) e ∙ sym c.3)
one_frame_place f rule o o' p p' b c = (b.1 ∙ sym c.1, same_rest p p' _ (b.2 ∙ sym c.2))

pub one_frame_fault : (f : List ℕ) (a b : Fault) → IsFrameFault f a → IsFrameFault f b → a ≡ b
one_frame_fault f = one_first_fault (Keeps f) (Breaks f) (frame_kept_or_broken f) (one_frame_place f) frame_rules

module _ (f : List ℕ) (F : Frame) (n : ℕ) where
  -- there is only one first number that is not below a bound
  one_not_below : (head other : Head) (width : ℕ) (count : Head → ℕ) (bound i j : ℕ) → head ≡ other
      → IsFirstNotBelow f head.body width (count head) bound i → IsFirstNotBelow f other.body width (count other) bound j → head.body + i * width ≡ other.body + j * width
  one_not_below head other width count bound i j e a b =
      let c : IsFirstNotBelow f head.body width (count head) bound j = subst (λ (x : Head). IsFirstNotBelow f x.body width (count x) bound j) (sym e) b in
      let same : i ≡ j = one_first (λ k. nth_number f head.body width k < bound) (count head) i j a c in
      ap (λ (x : Head). x.body + i * width) e ∙ ap (λ k. other.body + k * width) same

  pub one_object_place : OnePlace (OfObject n (BreaksByObject f F n))
  one_object_place rules.NotAscii o o' p p' (e, (head, i, has, kind, first, place)) (e', (other, j, has', kind', first', place')) =
      let same = one_not_below head other 1 (λ x. x.count) 128 i j (HasHead-unique f F n head other has has') first first' in
      (e ∙ sym e', omega (arith, same, place, place'))
  one_object_place rules.RefHigh o o' p p' (e, (head, i, has, first, place)) (e', (other, j, has', first', place')) =
      let same = one_not_below head other F.ref_size (λ x. ref_count x.kind x.count) F.objects i j (HasHead-unique f F n head other has has') first first' in
      (e ∙ sym e', place ∙ same ∙ sym place')
  one_object_place _ o o' p p' b c = (b.0 ∙ sym c.0, b.1.1 ∙ sym c.1.1)

  pub one_object_fault : (list : List Rule) (a b : Fault) → IsObjectFault f F n list a → IsObjectFault f F n list b → a ≡ b
  one_object_fault list = one_first_fault (KeepsByObject f F n) (OfObject n (BreaksByObject f F n)) (λ rule object place k b. kept_or_broken f F n rule place k b.1) one_object_place list
