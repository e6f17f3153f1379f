-- A file is well formed exactly if its reached objects keep their rules and its top is founded.
use Rattle.std.proofs.Common.{◌≡◌, ℕ, suc, ◌<◌, ◌≤◌, ◌+◌, ◌++◌, inl, inr, List, [], ◌∷◌, None, subst, arith}
use Rattle.std.specs.List.{AllByRecursion}
use Rattle.std.proofs.lemmas.Bool.{cases_eq, cases_lt}
use Rattle.bplist_objects.specs.declared.rule.Rule.{Rule}
use Rattle.bplist_objects.specs.declared.rule.Rule.TheVariants as rules
use Rattle.bplist_objects.specs.declared.frame.Frame.{Frame}
use Rattle.bplist_objects.specs.declared.head.Head.{Head}
use Rattle.bplist_objects.specs.declared.head.Kind.TheVariants.{Dict}
use Rattle.bplist_objects.specs.Frame.{IsFrame}
use Rattle.bplist_objects.specs.Heads.{Content, Spells}
use Rattle.bplist_objects.specs.Announced.{HasHead}
use Rattle.bplist_objects.specs.Rules.{KeepsAll}
use Rattle.bplist_objects.specs.ObjectRules.{KeepsByObject, object_rules}
use Rattle.bplist_objects.specs.Reach.{Reach, Founded}
use Rattle.bplist_objects.specs.Extents.{HaveRoom, IsOverfull}
use Rattle.bplist_objects.proofs.RuleLaws.{kept_all_after, kept_all_parts}
use Rattle.bplist_objects.proofs.Lists.{all_weaker}
use Rattle.bplist_objects.proofs.BodyLaws.{HasHead-unique}
use Rattle.bplist_objects.proofs.ReachedObjects.{reach_within}
use Rattle.bplist_objects.proofs.HeadTies.{shape_announced, spells_keeps, keeps_iff}
use Rattle.bplist_objects.proofs.FrameTies.{numbered}
use Rattle.bplist_cert.specs.Lists.{lists}
use Rattle.bplist_cert.specs.Valid.{HasKeys}
use Rattle.bplist_cert.specs.CheckRules.{KeepsRule, key_rules}
use Rattle.bplist_cert.proofs.CheckSteps.{kept_by_good, good_by_kept}
use Rattle.bplist_cert.proofs.KeyTies.{HaveKeys, keys_from_rules, rules_from_keys}
use Rattle.bplist_lint.specs.ReachRules.{KeepReached, reach_rules}
use Rattle.bplist_lint.specs.WellFormed.{IsWellFormed}

-- the greatest of some numbers is one of them
pub record IsGreatest (S : ℕ → Type 0) (ns : List ℕ) (m : ℕ) : Type 0 where
  pub member : S m
  pub high : AllByRecursion (λ n. S n × (n ≤ m)) ns

pub greatest_member : (S : ℕ → Type 0) (n : ℕ) (ns : List ℕ) → AllByRecursion S (n ∷ ns) → (m : ℕ) × IsGreatest S (n ∷ ns) m
greatest_member S n [] a = (n, record { member = a.0; high = ((a.0, omega arith), tt) })
greatest_member S n (k ∷ ks) a =
    let (m, g) = greatest_member S k ks a.1 in
    elim (cases_lt m n) [
      | inl l ↦ (n, record { member = a.0; high = ((a.0, omega arith), all_weaker _ _ (λ x p. (p.0, omega (arith, p.1, l))) (k ∷ ks) g.high) })
      | inr h ↦ (m, record { member = g.member; high = ((a.0, h), g.high) })
    ]

module _ (f : List ℕ) (F : Frame) where
  -- the rules of keys are kept in addition to the others
  pub kept_both : (n : ℕ) → KeepReached f F reach_rules n → KeepReached f F (key_rules None) n → KeepReached f F (reach_rules ++ key_rules None) n
  kept_both n kept keys m low r = kept_all_after (KeepsRule f F (Reach f F) (lists [] None) m) reach_rules (key_rules None) (kept m low r) (keys m low r)

  pub kept_each : (n : ℕ) → KeepReached f F (reach_rules ++ key_rules None) n → KeepReached f F reach_rules n × KeepReached f F (key_rules None) n
  kept_each n all =
      let parts : (m : ℕ) → m < n → Reach f F m → KeepsAll (KeepsRule f F (Reach f F) (lists [] None) m) reach_rules × KeepsAll (KeepsRule f F (Reach f F) (lists [] None) m) (key_rules None) =
      λ m low r. kept_all_parts (KeepsRule f F (Reach f F) (lists [] None) m) reach_rules (key_rules None) (all m low r) in
      (λ m low r. (parts m low r).0, λ m low r. (parts m low r).1)

  -- one more object keeps its rules, if it is reached
  pub keep_more : (kept_rules : List Rule) (n next : ℕ) → next ≤ suc n → KeepReached f F kept_rules n
      → (Reach f F n → KeepsAll (KeepsRule f F (Reach f F) (lists [] None) n) kept_rules) → KeepReached f F kept_rules next
  keep_more kept_rules n next few before own m low r = elim (cases_eq m n) [
    | inl e ↦ rw e (own (rw e at r))
    | inr ne ↦ before m (omega arith) r
  ]

  -- the rules of a reached object are those of an object by itself, and rule 31
  pub parted_rules : (n : ℕ) → KeepsAll (KeepsRule f F (Reach f F) (lists [] None) n) reach_rules → KeepsAll (KeepsByObject f F n) object_rules × ((IsOverfull f F (Reach f F) n → ⊥) × Unit {0})
  parted_rules n k = kept_all_parts (KeepsRule f F (Reach f F) (lists [] None) n) object_rules (rules.Overfull ∷ []) k

  pub both_rules : (n : ℕ) → KeepsAll (KeepsByObject f F n) object_rules → (IsOverfull f F (Reach f F) n → ⊥) → KeepsAll (KeepsRule f F (Reach f F) (lists [] None) n) reach_rules
  both_rules n k room = kept_all_after (KeepsRule f F (Reach f F) (lists [] None) n) object_rules (rules.Overfull ∷ []) k (room, tt)

  module _ (frame : IsFrame f F) where
    -- a reached object that keeps rules 14 to 20 spells a content
    pub kept_spells : KeepReached f F reach_rules F.objects → (n : ℕ) → Reach f F n → (c : Content) × Spells f F n c
    kept_spells kept n r = let lt = reach_within f F (numbered frame).top n r in (keeps_iff f F n frame lt).0 (parted_rules n (kept n lt r)).0

    pub kept_room : KeepReached f F reach_rules F.objects → HaveRoom f F (Reach f F)
    kept_room kept [] r d a t = omega (arith, t, (numbered frame).table_early)
    kept_room kept (n ∷ ns) r d a t = elim (cases_lt F.table (r + 8)) [
      | inl l ↦ let g = greatest_member (Reach f F) n ns a in absurd ((parted_rules g.0 (kept g.0 (reach_within f F (numbered frame).top g.0 g.1.member) g.1.member)).1.0 (n ∷ ns, r, d, g.1.high, t, l))
      | inr h ↦ h
    ]

    kept_content : KeepReached f F reach_rules F.objects → KeepReached f F (key_rules None) F.objects → (n : ℕ) → Reach f F n → (c : Content) × Spells f F n c × HasKeys f F c
    kept_content kept keys n r =
        let s = kept_spells kept n r in
        let head = s.1.shape in
        let there = shape_announced f F n head s.1.has in
        let k = keys n (reach_within f F (numbered frame).top n r) r in
        (s.0, s.1, keys_from_rules f F n head s.1.has s.0 s.1 (good_by_kept f F (Reach f F) [] n None k head there))

    -- if all rules are kept and the top is founded, the file is well formed
    pub kept_formed : KeepReached f F reach_rules F.objects → KeepReached f F (key_rules None) F.objects → Founded f F F.top.0 → IsWellFormed f F
    kept_formed kept keys ends = record { frame = frame; contents = kept_content kept keys; room = kept_room kept; founded = ends }

  -- in a well formed file all rules are kept
  module _ (w : IsWellFormed f F) where
    pub formed_reach : KeepReached f F reach_rules F.objects
    formed_reach n lt r =
        let s = w.contents n r in
        both_rules n (spells_keeps f F n s.0 s.1) (λ o.
        let room = w.room o.0 o.1 o.2 (all_weaker _ _ (λ m k. k.0) o.0 o.3) o.4 in
        omega (arith, room, o.5))

    pub formed_keys : KeepReached f F (key_rules None) F.objects
    formed_keys n lt r = kept_by_good f F (Reach f F) [] n None of_head
      where
        of_head : (head : Head) → HasHead f F n head → head.kind ≡ Dict → HaveKeys f F head
        of_head head has =
            let s = w.contents n r in
            let own = s.1.shape in
            let same = HasHead-unique f F n own head (shape_announced f F n own s.1.has) has in
            subst (λ (x : Head). x.kind ≡ Dict → HaveKeys f F x) same (rules_from_keys f F n own s.1.has s.0 s.1 s.2)
