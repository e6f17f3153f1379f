-- Each file is well formed or has a first fault.
use Rattle.std.proofs.Common.{ℕ, zero, suc, ◌+◌, ◌-◌, ◌*◌, ◌<◌, ◌≤◌, ◌⊎◌, inl, inr, List, [], None, Contains, refl, arith}
use Rattle.std.proofs.Math.Logic.{⊎_map}
use Rattle.std.proofs.lemmas.Bool.{cases_lt}
use Rattle.bplist_objects.specs.declared.rule.Rule.TheVariants as rules
use Rattle.bplist_objects.specs.declared.fault.Fault.{Fault}
use Rattle.bplist_objects.specs.declared.frame.Frame.{Frame}
use Rattle.bplist_objects.specs.declared.head.Head.{Head}
use Rattle.bplist_objects.specs.Frame.{IsFrame, off, trailer}
use Rattle.bplist_objects.specs.Heads.{Content, Spells}
use Rattle.bplist_objects.specs.Value.{Value}
use Rattle.bplist_objects.specs.File.{FileHolds}
use Rattle.bplist_objects.specs.Announced.{HasHead}
use Rattle.bplist_objects.specs.Rules.{KeepsAll}
use Rattle.bplist_objects.specs.ObjectRules.{KeepsByObject, object_rules}
use Rattle.bplist_objects.specs.Reach.{Reach, top, Founded}
use Rattle.bplist_objects.specs.Extents.{Sums}
use Rattle.bplist_objects.specs.Spelled.{refs_at}
use Rattle.bplist_objects.proofs.KeptOrBroken.{frame_kept_or_fault, object_kept_or_fault}
use Rattle.bplist_objects.proofs.ExtentSums.{sums_none, sums_same}
use Rattle.bplist_objects.proofs.FrameTies.{numbered, trailer_is_frame}
use Rattle.bplist_objects.proofs.ReachedObjects.{refs_iff, refs_within}
use Rattle.bplist_objects.proofs.Lists.{Either, all_or_first}
use Rattle.bplist_objects.proofs.HeadTies.{keeps_iff, shape_announced}
use Rattle.bplist_cert.proofs.DecidedObjects.{fault_at}
use Rattle.bplist_cert.proofs.DecidedKeys.{dict_decided, texts_or_first, differ_or_first}
use Rattle.bplist_cert.specs.CheckRules.{key_rules}
use Rattle.bplist_cert.specs.KeyRepeats.{HasGoodKeys, BreaksKeys}
use Rattle.bplist_lint.specs.ReachRules.{IsReachedFault, KeepReached, reach_rules}
use Rattle.bplist_lint.specs.FileFault.{IsCircle, IsFileFault, IsFileCircle}
use Rattle.bplist_lint.specs.WellFormed.{IsWellFormed}
use Rattle.bplist_lint.proofs.FiniteGraphs.{reach_decided, founded_or_circle}
use Rattle.bplist_lint.proofs.HeldValues.{formed_holds}
use Rattle.bplist_lint.proofs.ReferenceGraph.{reach_iff, founded_iff, circle_iff}
use Rattle.bplist_cert.proofs.CheckSteps.{kept_by_good}
use Rattle.bplist_cert.proofs.KeyRepeats.{good_at}
use Rattle.bplist_lint.proofs.KeySteps.{keys_fault}
use Rattle.bplist_lint.proofs.KeptRules.{keep_more, kept_both, kept_spells, kept_formed}
use Rattle.bplist_lint.proofs.TallySteps.{sums_with, object_fault, room_fault, kept_with}

module _ (f : List ℕ) (F : Frame) (frame : IsFrame f F) where
  -- ---- the graph of the references is finite
  refs_inside : (n m : ℕ) → Contains (refs_at f F n) m → m < F.objects
  refs_inside n m c = refs_within f F n m ((refs_iff f F n m).1 c)

  reached_or_not : (n : ℕ) → Either (Reach f F n)
  reached_or_not n =
      ⊎_map (reach_iff f F n).0 (λ never r. never ((reach_iff f F n).1 r)) (reach_decided (refs_at f F) F.objects refs_inside F.top.0 (numbered frame).top n)

  -- ---- rules 14 to 20 and 31
  -- the reached objects below n keep these rules and take t bytes, for which there is room
  record IsPassed (n t : ℕ) : Type 0 where
    kept : KeepReached f F reach_rules n
    sums : Sums f F (Reach f F) n t
    room : t + 8 ≤ F.table

  module _ (n t : ℕ) (lt : n < F.objects) (p : IsPassed n t) (r : Reach f F n) where
    pass_kept : KeepsAll (KeepsByObject f F n) object_rules → ((u : ℕ) × IsPassed (suc n) u) ⊎ ((fault : Fault) × IsReachedFault f F reach_rules fault)
    pass_kept kept =
        let s = ((keeps_iff f F n frame lt).0 kept).1 in
        let u = t + (s.shape.«end» - off f F n) in
        elim (cases_lt F.table (u + 8)) [
          | inl full ↦ inr (fault_at rules.Overfull n (off f F n), room_fault f F n r p.kept frame lt t p.sums s.shape s.has.has kept (fault_at rules.Overfull n (off f F n)) refl refl refl full)
          | inr room ↦ inl (
            u,
            record {
              kept = kept_with f F n r p.kept frame lt t p.sums s.shape s.has.has kept room;
              sums = sums_with f F n r p.kept frame lt t p.sums s.shape s.has.has kept;
              room = room;
            },
          )
        ]

    pass_reached : ((u : ℕ) × IsPassed (suc n) u) ⊎ ((fault : Fault) × IsReachedFault f F reach_rules fault)
    pass_reached = elim (object_kept_or_fault f F n object_rules) [
      | inl kept ↦ pass_kept kept
      | inr broken ↦ inr (broken.0, object_fault f F n r p.kept broken.0 broken.1)
    ]

  pass : (n : ℕ) → n ≤ F.objects → ((t : ℕ) × IsPassed n t) ⊎ ((fault : Fault) × IsReachedFault f F reach_rules fault)
  pass zero l = inl (0, record { kept = λ m lt r. absurd (omega (arith, lt)); sums = sums_none f F (Reach f F); room = omega (arith, (numbered frame).table_early) })
  pass (suc n) l = elim (pass n (omega (arith, l))) [
    | inr fault ↦ inr fault
    | inl before ↦ elim (reached_or_not n) [
      | inl r ↦ pass_reached n before.0 (omega (arith, l)) before.1 r
      | inr never ↦ inl (
        before.0,
        record {
          kept = keep_more f F reach_rules n (suc n) (omega arith) before.1.kept (λ r. absurd (never r));
          sums = sums_same f F (Reach f F) n before.0 never before.1.sums;
          room = before.1.room;
        },
      )
    ]
  ]

  -- ---- rules 21 and 22
  keys_or_fault : (n : ℕ) (c : Content) → Spells f F n c → HasGoodKeys f F None n ⊎ ((fault : Fault) × BreaksKeys f F F.objects None n fault)
  keys_or_fault n c s = elim (dict_decided head.kind) [
    | inr other ↦ inl (good_at f F None n head there (λ dict. absurd (other dict)))
    | inl dict ↦ elim (texts_or_first f F frame head) [
      | inr (i, first) ↦
          let fault = fault_at rules.KeyKind n (head.body + i * F.ref_size) in
          inr (fault, (head, there, (dict, inl (refl, refl, (i, first, refl)))))
      | inl texts ↦ elim (differ_or_first f F frame head) [
        | inr (j, first) ↦
            let fault = fault_at rules.KeyTwice n (head.body + j * F.ref_size) in
            inr (fault, (head, there, (dict, inr (texts, (refl, refl, (j, first, refl))))))
        | inl differ ↦ inl (good_at f F None n head there (λ _. (texts, differ)))
      ]
    ]
  ]
    where
      head : Head
      head = s.shape

      there : HasHead f F n head
      there = shape_announced f F n head s.has

  module _ (reach : KeepReached f F reach_rules F.objects) where
    pass_keys : KeepReached f F (key_rules None) F.objects ⊎ ((fault : Fault) × IsReachedFault f F (key_rules None) fault)
    pass_keys = elim (all_or_first (λ n. Reach f F n → HasGoodKeys f F None n) Broken each F.objects) [
      | inl all ↦ inl (λ n lt r. kept_by_good f F (Reach f F) [] n None (all n lt r))
      | inr first ↦
          let before : KeepReached f F (key_rules None) first.0 = λ m lt r. kept_by_good f F (Reach f F) [] m None (first.3 m lt r) in
          inr (first.2.1.0, keys_fault f F first.0 first.2.1.0 first.2.0 before first.2.1.1)
    ]
      where
        Broken : ℕ → Type 0
        Broken n = Reach f F n × ((fault : Fault) × BreaksKeys f F F.objects None n fault)

        each : (n : ℕ) → (Reach f F n → HasGoodKeys f F None n) ⊎ Broken n
        each n = elim (reached_or_not n) [
          | inr never ↦ inl (λ r. absurd (never r))
          | inl r ↦ let s = kept_spells f F frame reach n r in elim (keys_or_fault n s.0 s.1) [
            | inl kept ↦ inl (λ on. kept)
            | inr broken ↦ inr (r, broken)
          ]
        ]

    -- ---- the circle
    pub ends_or_circle : Founded f F F.top.0 ⊎ ((circle : List ℕ) × IsCircle f F circle)
    ends_or_circle = elim (founded_or_circle (refs_at f F) F.objects refs_inside F.top.0 (numbered frame).top) [
      | inl is ↦ inl ((founded_iff f F (kept_spells f F frame reach) F.top.0 top).0 is)
      | inr circle ↦ inr (circle.0, (circle_iff f F (kept_spells f F frame reach) circle.0).0 circle.1)
    ]

  -- with this frame the file is well formed, or an object or a circle is its first fault
  pub formed_or_objects : IsWellFormed f F ⊎ (((fault : Fault) × IsFileFault f fault) ⊎ ((circle : List ℕ) × IsFileCircle f circle))
  formed_or_objects = elim (pass F.objects (omega arith)) [
    | inr fault ↦ inr (inl (fault.0, inr (F, frame, inl fault.1)))
    | inl passed ↦ elim (pass_keys passed.1.kept) [
      | inr fault ↦ inr (inl (fault.0, inr (F, frame, inr (passed.1.kept, fault.1))))
      | inl keys ↦ elim (ends_or_circle passed.1.kept) [
        | inl is ↦ inl (kept_formed f F frame passed.1.kept keys is)
        | inr circle ↦ inr (inr (circle.0, (F, frame, kept_both f F F.objects passed.1.kept keys, circle.1)))
      ]
    ]
  ]

-- a file is well formed, or a rule or a circle is its first fault
pub formed_or_fault : (f : List ℕ) → ((F : Frame) × IsWellFormed f F) ⊎ (((fault : Fault) × IsFileFault f fault) ⊎ ((circle : List ℕ) × IsFileCircle f circle))
formed_or_fault f = elim (frame_kept_or_fault f) [
  | inr fault ↦ inr (inl (fault.0, inl fault.1))
  | inl kept ↦ ⊎_map (λ (w : IsWellFormed f (trailer f)). (trailer f, w)) (λ fault. fault) (formed_or_objects f (trailer f) (trailer_is_frame f kept))
]

-- a file that is well formed holds a value
pub value_or_fault : (f : List ℕ) → ((v : Value) × FileHolds f v) ⊎ (((fault : Fault) × IsFileFault f fault) ⊎ ((circle : List ℕ) × IsFileCircle f circle))
value_or_fault f = ⊎_map (λ (w : (F : Frame) × IsWellFormed f F). formed_holds f w.0 w.1) (λ fault. fault) (formed_or_fault f)
