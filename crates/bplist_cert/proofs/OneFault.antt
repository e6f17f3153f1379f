-- A file and a certificate have at most one first fault.
use Rattle.std.proofs.Common.{◌≡◌, ℕ, ◌+◌, ◌*◌, ◌⊎◌, inl, inr, List, length, Option, Some, None, MatchOption, sym, ap, ◌∙◌, subst, arith}
use Rattle.bplist_objects.specs.declared.rule.Rule.{Rule}
use Rattle.bplist_objects.specs.declared.rule.Rule.TheVariants as rules
use Rattle.bplist_objects.specs.declared.fault.Fault.{Fault}
use Rattle.bplist_objects.specs.declared.frame.Frame.{Frame}
use Rattle.bplist_objects.specs.declared.frame.ObjectNo.{ObjectNo}
use Rattle.bplist_objects.specs.declared.head.Head.{Head}
use Rattle.bplist_objects.specs.Safe.{ref_count}
use Rattle.bplist_objects.specs.Rules.{IsFirstFault, OfObject}
use Rattle.bplist_objects.proofs.BodyLaws.{HasHead-unique}
use Rattle.bplist_objects.proofs.Lists.{one_number}
use Rattle.bplist_objects.proofs.FirstFaults.{no_frame, one_frame_fault, one_object_place, one_first_fault}
use Rattle.bplist_objects.specs.Claims.{FailsAt}
use Rattle.bplist_objects.proofs.ClaimLaws.{one_failure}
use Rattle.bplist_cert.specs.Lists.{Keyed, Lists, list_of}
use Rattle.bplist_cert.specs.Valid.{IsVouchedBy}
use Rattle.bplist_cert.specs.DictKeys.{AreInOrder}
use Rattle.bplist_cert.specs.CheckRules.{is_of_refs, Asks, BreaksByRefs, KeepsRule, BreaksRule, IsLeastFault, BreaksOrder, check_rules}
use Rattle.bplist_cert.specs.PairFault.{IsVouchedFault, IsCountFault, IsPairFault}
use Rattle.bplist_cert.proofs.AcceptedCertificates.{by_class, fewer, rule_or_broken, no_rule_fault}

module _ (f : List ℕ) (F : Frame) (head : Head) where
  one_order : (count : ℕ) (keys : Option Keyed) (n p q : ℕ) → MatchOption keys ⊥ (λ keyed. BreaksOrder f F count keyed n head p) → MatchOption keys ⊥ (λ keyed. BreaksOrder f F count keyed n head q) → p ≡ q
  one_order count None n p q a b = absurd a
  one_order count (Some keyed) n p q (inl a) (inl b) = a.1 ∙ sym b.1
  one_order count (Some keyed) n p q (inl a) (inr b) = absurd (omega (arith, a.0, b.0))
  one_order count (Some keyed) n p q (inr a) (inl b) = absurd (omega (arith, a.0, b.0))
  one_order count (Some keyed) n p q (inr (w, (i, a, is))) (inr (v, (j, b, js))) =
      let e = one_failure (AreInOrder f F head (list_of keyed n head.count)) (λ m k few o i l. o i (omega (arith, few, l))) head.count i j a b in
      omega (arith, is, js, e)

module _ (f : List ℕ) (F : Frame) (S : ℕ → Type 0) (certificate : Lists) where
  -- a rule of references fails at one of them
  one_ref : (n : ℕ) (rule : Rule) (p p' : ℕ) → BreaksByRefs f F certificate.heights n rule p → BreaksByRefs f F certificate.heights n rule p' → p ≡ p'
  one_ref n rule p p' b c =
      let other = c.0 in
      let same = HasHead-unique f F n b.0 other b.2 c.2 in
      let here : FailsAt (Asks f F certificate.heights n rule other) (ref_count other.kind other.count) b.1 =
      subst (λ (x : Head). FailsAt (Asks f F certificate.heights n rule x) (ref_count x.kind x.count) b.1) same b.3 in
      let number = one_failure (Asks f F certificate.heights n rule other) (fewer f F certificate.heights n rule other) (ref_count other.kind other.count) b.1 c.1 here c.3 in
      b.4 ∙ ap (λ (x : Head). x.body + b.1 * F.ref_size) same ∙ ap (λ k. other.body + k * F.ref_size) number ∙ sym c.4

  -- a rule is broken at one place
  one_place : (n : ℕ) (rule : Rule) (o o' : Option ObjectNo) (p p' : ℕ) → OfObject n (BreaksRule f F S certificate n) rule o p → OfObject n (BreaksRule f F S certificate n) rule o' p' → (o ≡ o') × (p ≡ p')
  one_place n rules.Overfull o o' p p' b c = (b.0 ∙ sym c.0, b.1.1 ∙ sym c.1.1)
  one_place n rules.KeyOrder o o' p p' (e, (head, has, kind, b)) (e', (other, has', kind', c)) =
      let same = HasHead-unique f F n head other has has' in
      (e ∙ sym e', one_order f F other (length certificate.heights) certificate.keys n p p' (subst (λ (x : Head). MatchOption certificate.keys ⊥ (λ keyed. BreaksOrder f F (length certificate.heights) keyed n x p)) same b) c)
  one_place n rule o o' p p' b c =
      (b.0 ∙ sym c.0, by_class (is_of_refs rule) (p ≡ p') (one_ref n rule p p') (λ x y. (one_object_place f F n rule o o' p p' (b.0, x) (c.0, y)).1) b.1 c.1)

  -- the objects of S have at most one first fault
  pub one_least_fault : (listed : List Rule) (a b : Fault) → IsLeastFault f F S certificate listed a → IsLeastFault f F S certificate listed b → a ≡ b
  one_least_fault listed a b h k =
      let same = one_number h.object k.object
      (λ l. no_rule_fault f F S certificate h.object listed a (k.least h.object l h.member) h.first)
      (λ l. no_rule_fault f F S certificate k.object listed b (h.least k.object l k.member) k.first) in
      one_first_fault (KeepsRule f F S certificate k.object) (OfObject k.object (BreaksRule f F S certificate k.object)) (rule_or_broken f F S certificate k.object) (one_place k.object) listed a b
      (subst (λ n. IsFirstFault (KeepsRule f F S certificate n) (OfObject n (BreaksRule f F S certificate n)) listed a) same h.first) k.first

module _ (f : List ℕ) (F : Frame) (certificate : Lists) where
  abbrev FaultIn : Fault → Type 0
  FaultIn a = IsCountFault F certificate.heights a ⊎ ((length certificate.heights ≡ F.objects) × IsVouchedBy certificate.heights F.top.0 × IsVouchedFault f F certificate a)

  one_fault_in : (a b : Fault) → FaultIn a → FaultIn b → a ≡ b
  one_fault_in a b (inl (inl x)) (inl (inl y)) = x.1 ∙ sym y.1
  one_fault_in a b (inl (inl x)) (inl (inr y)) = absurd (x.0 y.0)
  one_fault_in a b (inl (inl x)) (inr y) = absurd (x.0 y.0)
  one_fault_in a b (inl (inr x)) (inl (inl y)) = absurd (y.0 x.0)
  one_fault_in a b (inl (inr x)) (inl (inr y)) = x.2 ∙ sym y.2
  one_fault_in a b (inl (inr x)) (inr y) = absurd (omega (arith, x.1, y.1))
  one_fault_in a b (inr x) (inl (inl y)) = absurd (y.0 x.0)
  one_fault_in a b (inr x) (inl (inr y)) = absurd (omega (arith, x.1, y.1))
  one_fault_in a b (inr x) (inr y) = one_least_fault f F (IsVouchedBy certificate.heights) certificate (check_rules certificate.keys) a b x.2 y.2

pub one_pair_fault : (f : List ℕ) (certificate : Lists) (a b : Fault) → IsPairFault f certificate a → IsPairFault f certificate b → a ≡ b
one_pair_fault f certificate a b (inl x) (inl y) = one_frame_fault f a b x y
one_pair_fault f certificate a b (inl x) (inr (G, frame, y)) = absurd (no_frame f G a x frame)
one_pair_fault f certificate a b (inr (F, frame, x)) (inl y) = absurd (no_frame f F b y frame)
one_pair_fault f certificate a b (inr (F, frame, x)) (inr (G, other, y)) =
    let same : F ≡ G = frame.spelled ∙ sym other.spelled in
    one_fault_in f G certificate a b (subst (λ (H : Frame). FaultIn f H certificate a) same x) y
