-- One visit of a reached object: the rules that it keeps, and its references.
use Rattle.std.proofs.Common.{◌≡◌, ℕ, ◌<◌, ◌≤◌, inl, inr, Bool, true, List, [], ◌∷◌, ◌++◌, length, set, ap, subst, arith}
use Rattle.std.proofs.lemmas.List.Elements.{Contains-push}
use Rattle.bplist_objects.specs.declared.frame.Frame.{Frame}
use Rattle.bplist_objects.specs.declared.head.Head.{Head}
use Rattle.bplist_objects.specs.declared.head.Kind.{Kind}
use Rattle.bplist_objects.specs.declared.head.Kind.TheVariants as kinds
use Rattle.bplist_objects.specs.Announced.{HasHead}
use Rattle.bplist_objects.specs.Frame.{off, IsFrame}
use Rattle.bplist_objects.specs.Heads.{content_at, refs}
use Rattle.bplist_objects.specs.Numbers.{num_at}
use Rattle.bplist_objects.specs.ObjectRules.{KeepsByObject, shape_rules, body_rules, object_rules}
use Rattle.bplist_objects.specs.Rules.{KeepsAll}
use Rattle.bplist_objects.specs.Safe.{ref_count}
use Rattle.bplist_objects.specs.Scan.{AreBelow, ref}
use Rattle.bplist_objects.specs.Spelled.{refs_at}
use Rattle.bplist_objects.proofs.BodyLaws.{HasHead-unique}
use Rattle.bplist_objects.proofs.ReachedObjects.{refs_spelled}
use Rattle.bplist_objects.proofs.References.{length-refs}
use Rattle.bplist_objects.proofs.RuleLaws.{kept_all_after}
use Rattle.bplist_objects.proofs.HeadTies.{head_tie, shape_tie}
use Rattle.bplist_keys.specs.Marks.{IsMarked}
use Rattle.bplist_lint.specs.declared.tally.Tally.{Tally}
use Rattle.bplist_lint.specs.Tallies.{IsTalliedWith}
use Rattle.bplist_lint.specs.ReachWalk.{Noted, IsWalkState}
use Rattle.bplist_lint.proofs.MarkSteps.{noted_none, fresh-set}
use Rattle.bplist_lint.proofs.ObjectReferences.{no_refs_leaf}
use Rattle.bplist_lint.proofs.Walks.{walking_visit}

module _ (f : List ℕ) (F : Frame) (n : ℕ) (head : Head) (has : HasHead f F n head) (kept : KeepsAll (KeepsByObject f F n) shape_rules) where
  -- a claim about this head is one about any head that the object has
  body_kept : (head.kind ≡ kinds.Ascii → AreBelow f head.body 1 head.count 128) → (head.kind ≡ kinds.Uid → num_at f head.body head.count ≤ 4294967295)
      → AreBelow f head.body F.ref_size (ref_count head.kind head.count) F.objects → KeepsAll (KeepsByObject f F n) object_rules
  body_kept ascii uid below = kept_all_after (KeepsByObject f F n) shape_rules body_rules kept (
    (λ other h e. subst (λ (x : Head). x.kind ≡ kinds.Ascii → AreBelow f x.body 1 x.count 128) (HasHead-unique f F n head other has h) ascii e),
    (
      (λ other h e. subst (λ (x : Head). x.kind ≡ kinds.Uid → num_at f x.body x.count ≤ 4294967295) (HasHead-unique f F n head other has h) uid e),
      (
        (λ other h. subst (λ (x : Head). AreBelow f x.body F.ref_size (ref_count x.kind x.count) F.objects) (HasHead-unique f F n head other has h) below),
        tt,
      ),
    ),
  )

  none_of : (kind : Kind) (count : ℕ) → 0 < ref_count kind count → ((kind ≡ kinds.Ascii → ⊥) × (kind ≡ kinds.Uid → ⊥))
  none_of kinds.Ascii count some = absurd (omega (arith, some))
  none_of kinds.Uid count some = absurd (omega (arith, some))
  none_of _ count some = ((λ e. cc), (λ e. cc))

  -- what has references, each the number of an object
  pub container_kept : 0 < ref_count head.kind head.count → AreBelow f head.body F.ref_size (ref_count head.kind head.count) F.objects → KeepsAll (KeepsByObject f F n) object_rules
  container_kept some below =
      let no1 = none_of head.kind head.count some in
      body_kept (λ e. absurd (no1.0 e)) (λ e. absurd (no1.1 e)) below

  module _ (frame : IsFrame f F) (within : n < F.objects) (next : ℕ) (stack : List ℕ) (marks childless keys : List Bool) (tally tally' : Tally) (w : IsWalkState f F next (stack ++ n ∷ []) marks childless keys tally) (t : IsTalliedWith tally (off f F n) head tally') where
    -- an object without references was visited
    pub walking_leaf : ref_count head.kind head.count ≡ 0 → KeepsAll (KeepsByObject f F n) object_rules → IsWalkState f F next stack marks (set childless n true) keys tally'
    walking_leaf none all =
        let empty : refs_at f F n ≡ [] = no_refs_leaf f F n head ((shape_tie f F n frame within head).0 (has, kept)) none in
        let noted : Noted (refs_at f F n) next (length (refs_at f F n)) marks stack marks stack = rw (ap length empty) (noted_none (refs_at f F n) next marks stack) in
        walking_visit f F frame next n within stack marks childless keys tally w head has all stack marks (set childless n true) keys tally' noted
        (λ m h. elim (fresh-set childless n m h) [ inl old ↦ w.childless_known m old | inr e ↦ rw e (w.sound n (w.waiting n (Contains-push stack n)).0, empty) ]) (λ m h. h)
        (λ other h dict k low. let has_none : ref_count other.kind other.count ≡ 0 = subst (λ (x : Head). ref_count x.kind x.count ≡ 0) (HasHead-unique f F n head other has h) none in
        absurd (let zero = rw dict at has_none in omega (arith, zero, low))) t

    -- an object whose references are marked was visited
    pub walking_container : 0 < ref_count head.kind head.count → AreBelow f head.body F.ref_size (ref_count head.kind head.count) F.objects → (stack' : List ℕ) (marks' keys' : List Bool)
        → Noted (refs (content_at f F head)) next (ref_count head.kind head.count) marks stack marks' stack'
        → ((m : ℕ) → IsMarked keys m → IsMarked keys' m) → (head.kind ≡ kinds.Dict → (k : ℕ) → k < head.count → IsMarked keys' (ref f F head k)) → IsWalkState f F next stack' marks' childless keys' tally'
    walking_container some below stack' marks' keys' noted more named =
        let all = container_kept some below in
        let spelled = (head_tie f F n frame within head).0 (has, all) in
        let same : refs_at f F n ≡ refs (content_at f F head) = refs_spelled f F n (content_at f F head) spelled.1 in
        walking_visit f F frame next n within stack marks childless keys tally w head has all stack' marks' childless keys' tally'
        (rw (same, length-refs f F head.kind head.count head.body) noted) w.childless_known more
        (λ other h. subst (λ (x : Head). x.kind ≡ kinds.Dict → (k : ℕ) → k < x.count → IsMarked keys' (ref f F x k)) (HasHead-unique f F n head other has h) named) t
