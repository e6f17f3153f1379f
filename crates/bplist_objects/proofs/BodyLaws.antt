-- How the rules of bodies are kept and broken.
use Rattle.std.proofs.Common.{◌≡◌, ℕ, ◌+◌, ◌*◌, ◌≤◌, List, refl, sym, ap, ◌∙◌, subst, arith}
use Rattle.std.proofs.Math.Nat.{mul-le-mul_left, mul_assoc, mul_comm}
use Rattle.std.proofs.lemmas.Option.{same_Some}
use Rattle.bplist_objects.specs.declared.fault.ObjectFault.{ObjectFault}
use Rattle.bplist_objects.specs.declared.fault.ObjectFault.TheVariants as errors
use Rattle.bplist_objects.specs.declared.frame.Frame.{Frame}
use Rattle.bplist_objects.specs.declared.head.Head.{Head}
use Rattle.bplist_objects.specs.declared.head.Kind.{Kind}
use Rattle.bplist_objects.specs.declared.head.Kind.TheVariants as kinds
use Rattle.bplist_objects.specs.Rules.{KeepsAll, OfObject}
use Rattle.bplist_objects.specs.Answers.{GivesFault}
use Rattle.bplist_objects.specs.Safe.{IsSafe, IsSafeHead, ref_count}
use Rattle.bplist_objects.specs.Numbers.{num_at}
use Rattle.bplist_objects.specs.Scan.{AreBelow}
use Rattle.bplist_objects.specs.Announced.{HasHead, item_size}
use Rattle.bplist_objects.specs.ObjectRules.{KeepsByObject, BreaksByObject, IsObjectFault, shape_rules, body_rules, object_rules}
use Rattle.bplist_objects.proofs.HeadLaws.{head_is_found}
use Rattle.bplist_objects.proofs.RuleLaws.{first_fault_after, first_fault_among}
use Rattle.bplist_objects.proofs.ScanLaws.{block_within}

-- an object that is no container has no references
pub no_refs : (kind : Kind) (count : ℕ) → (kind ≡ kinds.Array → ⊥) → (kind ≡ kinds.Set → ⊥) → (kind ≡ kinds.Dict → ⊥) → ref_count kind count ≡ 0
no_refs kinds.Array count a s d = absurd (a refl)
no_refs kinds.Set count a s d = absurd (s refl)
no_refs kinds.Dict count a s d = absurd (d refl)
no_refs _ count a s d = refl

-- references are in the body
pub refs_fit : (ref_size count : ℕ) (kind : Kind) → 1 ≤ ref_size → (ref_count kind count * ref_size ≤ count * item_size ref_size kind) × (ref_count kind count ≤ count * item_size ref_size kind)
refs_fit r c kinds.Array h = let one : c * 1 ≤ c * r = mul-le-mul_left c h in (omega arith, omega arith)
refs_fit r c kinds.Set h = let one : c * 1 ≤ c * r = mul-le-mul_left c h in (omega arith, omega arith)
refs_fit r c kinds.Dict h =
    let one : (2 * c) * 1 ≤ (2 * c) * r = mul-le-mul_left (2 * c) h in
    let turned : (2 * c) * r ≡ c * (2 * r) = ap (λ x. x * r) (mul_comm 2 c) ∙ mul_assoc c 2 r in
    (omega arith, omega arith)
refs_fit r c _ h = (omega arith, omega arith)

-- this many references from one of them on are in the source
pub refs_within : (len from many : ℕ) (F : Frame) (head : Head) → IsSafe len F → IsSafeHead F head → from + many ≤ ref_count head.kind head.count → (head.body + from * F.ref_size) + many * F.ref_size ≤ len
refs_within len from many F head safe inside few =
    let fit = refs_fit F.ref_size head.count head.kind safe.ref_low in
    let all : head.body + ref_count head.kind head.count * F.ref_size ≤ len = omega (arith, fit.0, inside.body, inside.table, safe.room) in
    block_within head.body (ref_count head.kind head.count) F.ref_size len from many all few

module _ (f : List ℕ) (F : Frame) (n : ℕ) where
  -- at most one head
  pub HasHead-unique : (head other : Head) → HasHead f F n head → HasHead f F n other → head ≡ other
  HasHead-unique head other h k = same_Some head other (sym (head_is_found f F n head h) ∙ head_is_found f F n other k)

  -- if the head is of another kind, no head is of this kind
  pub of_other_kind : (head : Head) → HasHead f F n head → (kind : Kind) → (head.kind ≡ kind → ⊥) → (other : Head) → HasHead f F n other → other.kind ≡ kind → ⊥
  of_other_kind head h kind not_it other k e = not_it (ap (λ (x : Head). x.kind) (HasHead-unique head other h k) ∙ e)

  -- the body of the object's head decides rules 18 to 20
  pub bodies_keep : (head : Head) → HasHead f F n head → (head.kind ≡ kinds.Ascii → AreBelow f head.body 1 head.count 128) → (head.kind ≡ kinds.Uid → num_at f head.body head.count ≤ 4294967295)
      → AreBelow f head.body F.ref_size (ref_count head.kind head.count) F.objects → KeepsAll (KeepsByObject f F n) body_rules
  bodies_keep head h ascii uid below = (
    λ other k. subst (λ (x : Head). x.kind ≡ kinds.Ascii → AreBelow f x.body 1 x.count 128) (HasHead-unique head other h k) ascii,
    (
      λ other k. subst (λ (x : Head). x.kind ≡ kinds.Uid → num_at f x.body x.count ≤ 4294967295) (HasHead-unique head other h k) uid,
      (λ other k. subst (λ (x : Head). AreBelow f x.body F.ref_size (ref_count x.kind x.count) F.objects) (HasHead-unique head other h k) below, tt),
    ),
  )

  -- a fault of marker and count stays the first fault, whatever rules of the body come after
  pub object_fault_before : (e : ObjectFault) → GivesFault (IsObjectFault f F n shape_rules) e → GivesFault (IsObjectFault f F n object_rules) e
  object_fault_before (errors.Read _) h = tt
  object_fault_before (errors.Fault fault) h =
      first_fault_among (KeepsByObject f F n) (OfObject n (BreaksByObject f F n)) shape_rules body_rules fault h

  -- rules of marker and count that are kept come before a fault of the body
  pub object_fault_after : (e : ObjectFault) → KeepsAll (KeepsByObject f F n) shape_rules → GivesFault (IsObjectFault f F n body_rules) e → GivesFault (IsObjectFault f F n object_rules) e
  object_fault_after (errors.Read _) kept h = tt
  object_fault_after (errors.Fault fault) kept h =
      first_fault_after (KeepsByObject f F n) (OfObject n (BreaksByObject f F n)) shape_rules body_rules fault kept h
