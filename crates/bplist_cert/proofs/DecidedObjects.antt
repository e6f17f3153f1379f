-- A vouched object keeps all rules, or there is a first one that it breaks. So a file and a certificate have a yes or a
-- first fault.
use Rattle.std.proofs.Common.{◌≡◌, ℕ, zero, suc, ◌+◌, ◌-◌, ◌*◌, ◌<◌, ◌≤◌, ◌⊎◌, inl, inr, List, length}
use Rattle.std.proofs.Common.{slice_index, Option, Some, None, refl, arith}
use Rattle.std.proofs.lemmas.Bool.{cases_lt, cases_eq}
use Rattle.bplist_objects.specs.declared.rule.Rule.{Rule}
use Rattle.bplist_objects.specs.declared.rule.Rule.TheVariants as rules
use Rattle.bplist_objects.specs.declared.fault.Fault.{Fault}
use Rattle.bplist_objects.specs.declared.fault.ObjectFault.TheVariants as errors
use Rattle.bplist_objects.specs.declared.frame.Frame.{Frame}
use Rattle.bplist_objects.specs.declared.head.Head.{Head}
use Rattle.bplist_objects.specs.declared.head.Kind.TheVariants as kinds
use Rattle.bplist_objects.specs.Frame.{IsFrame, off, trailer}
use Rattle.bplist_objects.specs.Announced.{HasHead}
use Rattle.bplist_objects.specs.Safe.{ref_count}
use Rattle.bplist_objects.specs.Rules.{KeepsAll}
use Rattle.bplist_objects.specs.ObjectRules.{KeepsByObject, object_rules}
use Rattle.bplist_objects.specs.Extents.{Sums}
use Rattle.bplist_objects.proofs.Lists.{Either, all_or_first}
use Rattle.bplist_objects.proofs.KeptOrBroken.{frame_kept_or_fault, object_kept_or_fault}
use Rattle.bplist_objects.proofs.FrameTies.{trailer_is_frame}
use Rattle.bplist_objects.proofs.HeadTies.{kept_announces}
use Rattle.bplist_objects.specs.Scan.{ref}
use Rattle.bplist_cert.specs.declared.heights.Wanted.{Wanted}
use Rattle.bplist_cert.specs.declared.heights.Wanted.TheVariants.{Vouched, Below, VouchedBelow}
use Rattle.bplist_cert.specs.declared.walk.Pass.TheVariants.{Exact}
use Rattle.bplist_cert.specs.Lists.{Keyed, Lists, lists, list_of}
use Rattle.bplist_cert.specs.Valid.{IsVouchedBy}
use Rattle.bplist_cert.specs.Heights.{Meets, AreMet, IsFirstUnmet, IsHeightFault}
use Rattle.bplist_cert.specs.DictKeys.{KeysAreTexts}
use Rattle.bplist_cert.specs.CheckRules.{KeepsLast, IsLastFault, IsKeysFault, IsCheckFault}
use Rattle.bplist_cert.specs.PairFault.{IsCheckedObject, AreCheckedBelow, IsVouchedFault, IsCountFault, IsPairFault}
use Rattle.bplist_cert.specs.Sorted.{IsAccepted}
use Rattle.bplist_cert.proofs.CheckSteps.{object_fault, overfull_fault, heights_fault, keys_break, seen, held, held_more, passed, start}
use Rattle.bplist_cert.proofs.AcceptedCertificates.{accepted}
use Rattle.bplist_cert.proofs.DecidedKeys.{dict_decided, texts_or_first, differ_or_first, order_or_first}

meets_decided : (wanted : Wanted) (height : ℕ) → Either (Meets wanted height)
meets_decided Vouched height = elim (cases_lt height 1) [
  | inl low ↦ inr (λ m. omega (arith, low, m))
  | inr high ↦ inl high
]
meets_decided (Below bound) height = elim (cases_lt height bound) [
  | inl low ↦ inl low
  | inr high ↦ inr (λ m. omega (arith, high, m))
]
meets_decided (VouchedBelow bound) height = elim (cases_lt height 1) [
  | inl low ↦ inr (λ m. omega (arith, low, m.0))
  | inr high ↦ elim (cases_lt height bound) [
    | inl low ↦ inl (high, low)
    | inr over ↦ inr (λ m. omega (arith, over, m.1))
  ]
]

-- the fault of object n by this rule at this place
abbrev pub fault_at : Rule → ℕ → ℕ → Fault
fault_at rule n place = record { rule = rule; object = Some (record { 0 = n }); place = place }

module _ (f : List ℕ) (F : Frame) where
  -- ---- rules 28 and 29
  module _ (heights : List ℕ) (head : Head) where
    abbrev AllMet : Wanted → Type 0
    AllMet wanted = AreMet f F heights head wanted (ref_count head.kind head.count)

    met_or_first : (wanted : Wanted) → AllMet wanted ⊎ ((i : ℕ) × IsFirstUnmet f F heights head wanted i)
    met_or_first wanted = elim (all_or_first Met (λ i. Met i → ⊥) met_decided (ref_count head.kind head.count)) [
      | inl all ↦ inl all
      | inr (i, within, unmet, before) ↦ inr (i, (within, before, λ more. unmet (more i (omega arith))))
    ]
      where
        Met : ℕ → Type 0
        Met i = Meets wanted (slice_index heights (ref f F head i))

        met_decided : (i : ℕ) → Either (Met i)
        met_decided i = meets_decided wanted (slice_index heights (ref f F head i))

    heights_or_fault : (n : ℕ)
        → (AllMet Vouched × AllMet (Below (slice_index heights n))) ⊎ ((fault : Fault) × IsHeightFault f F heights n head fault)
    heights_or_fault n = elim (met_or_first Vouched) [
      | inr (i, first) ↦
          inr (fault_at rules.ChildNotVouched n (head.body + i * F.ref_size), inl (refl, refl, (i, first, refl)))
      | inl met ↦ elim (met_or_first (Below (slice_index heights n))) [
        | inr (i, first) ↦
            inr (fault_at rules.HeightNotLess n (head.body + i * F.ref_size), inr (met, (refl, refl, (i, first, refl))))
        | inl low ↦ inl (met, low)
      ]
    ]

  module _ (frame : IsFrame f F) where
    -- ---- rules 21, 22 and 32
    last_or_fault : (count : ℕ) (keys : Option Keyed) (n : ℕ) (head : Head)
        → KeepsLast f F keys n head ⊎ ((fault : Fault) × IsLastFault f F count keys n head fault)
    last_or_fault count None n head = elim (differ_or_first f F frame head) [
      | inl differ ↦ inl differ
      | inr (i, first) ↦ inr (fault_at rules.KeyTwice n (head.body + i * F.ref_size), (refl, refl, (i, first, refl)))
    ]
    last_or_fault count (Some keyed) n head = elim (cases_lt (length keyed.positions) (slice_index keyed.starts n + head.count)) [
      | inl short ↦ inr (fault_at rules.KeyOrder n (16 + 4 * count + 4 * n), (refl, refl, inl (short, refl)))
      | inr whole ↦ elim (order_or_first f F frame head (list_of keyed n head.count)) [
        | inl order ↦ inl (whole, order)
        | inr (j, first) ↦
            let place = 16 + 8 * count + 4 * (slice_index keyed.starts n + j) in
            inr (fault_at rules.KeyOrder n place, (refl, refl, inr (whole, (j, first, refl))))
      ]
    ]

    keys_or_fault : (count : ℕ) (keys : Option Keyed) (n : ℕ) (head : Head)
        → (head.kind ≡ kinds.Dict → KeysAreTexts f F head head.count × KeepsLast f F keys n head)
        ⊎ ((fault : Fault) × IsKeysFault f F count keys n head fault)
    keys_or_fault count keys n head = elim (dict_decided head.kind) [
      | inr other ↦ inl (λ dict. absurd (other dict))
      | inl dict ↦ elim (texts_or_first f F frame head) [
        | inr (i, first) ↦
            inr (fault_at rules.KeyKind n (head.body + i * F.ref_size), (dict, inl (refl, refl, (i, first, refl))))
        | inl texts ↦ elim (last_or_fault count keys n head) [
          | inl last ↦ inl (λ d. (texts, last))
          | inr (fault, h) ↦ inr (fault, (dict, inr (texts, h)))
        ]
      ]
    ]

    module _ (heights : List ℕ) (keys : Option Keyed) where
      abbrev certificate : Lists
      certificate = lists heights keys

      -- ---- all rules of a vouched object
      module _ (n : ℕ) (lt : n < F.objects) (vouched : IsVouchedBy heights n) (t : ℕ) (sums : Sums f F (IsVouchedBy heights) n t) where
        abbrev HeldOrFault : Type 0
        HeldOrFault =
            ((u : ℕ) × IsCheckedObject f F certificate Exact n u)
            ⊎ ((fault : Fault) × IsCheckFault f F certificate n fault)

        module _ (head : Head) (has : HasHead f F n head) (kept : KeepsAll (KeepsByObject f F n) object_rules) where
          -- the bytes that the vouched objects take, with this one
          abbrev now : ℕ
          now = t + (head.«end» - off f F n)

          with_room : now + 8 ≤ F.table → HeldOrFault
          with_room room = elim (heights_or_fault heights head n) [
            | inr (fault, h) ↦
                inr (fault, heights_fault f F heights keys n frame lt head has kept vouched t sums room (errors.Fault fault) h)
            | inl (met, low) ↦ elim (keys_or_fault (length heights) keys n head) [
              | inr (fault, h) ↦
                  inr (fault, keys_break f F heights keys n (seen f F heights keys n frame lt head has kept vouched t sums room met low).kept fault (head, has, h))
              | inl last ↦ inl (now, held f F heights keys n frame lt head has kept vouched t sums room met low last)
            ]
          ]

          with_head : HeldOrFault
          with_head = elim (cases_lt F.table (now + 8)) [
            | inl large ↦
                let fault = fault_at rules.Overfull n (off f F n) in
                inr (fault, overfull_fault f F heights keys n frame lt head has kept vouched t sums fault refl refl refl large)
            | inr room ↦ with_room room
          ]

        held_or_fault : HeldOrFault
        held_or_fault = elim (object_kept_or_fault f F n object_rules) [
          | inr (fault, h) ↦ inr (fault, object_fault f F heights keys n (errors.Fault fault) h)
          | inl kept ↦
              let there = kept_announces f F n frame lt (kept.0, (kept.1.0, (kept.1.1.0, (kept.1.1.1.0, tt)))) in
              with_head there.0 there.1 kept
        ]

      -- ---- all vouched objects
      running_or_fault : (n : ℕ) → n ≤ F.objects
          → ((t : ℕ) × AreCheckedBelow f F certificate Exact n t) ⊎ ((fault : Fault) × IsVouchedFault f F certificate fault)
      running_or_fault zero l = inl (0, start f F certificate Exact frame)
      running_or_fault (suc n) l = elim (running_or_fault n (omega (arith, l))) [
        | inr fault ↦ inr fault
        | inl (t, run) ↦ elim (cases_lt (slice_index heights n) 1) [
          | inl low ↦ inl (t, passed f F heights keys n Exact (omega (arith, low)) t run)
          | inr vouched ↦ elim (held_or_fault n (omega (arith, l)) vouched t run.sums) [
            | inl (u, h) ↦ inl (u, held_more f F heights keys n Exact t run u h)
            | inr (fault, h) ↦ inr (fault, record { object = n; member = vouched; first = h; least = run.kept })
          ]
        ]
      ]

      -- ---- rules 26 and 27, and then the vouched objects
      accepted_or_fault : IsAccepted f F certificate ⊎ ((fault : Fault) × (IsCountFault F heights fault ⊎ ((length heights ≡ F.objects) × IsVouchedBy heights F.top.0 × IsVouchedFault f F certificate fault)))
      accepted_or_fault = elim (cases_eq (length heights) F.objects) [
        | inr other ↦ inr (record { rule = rules.CertCount; object = None; place = 8 }, inl (inl (other, refl)))
        | inl count ↦ elim (cases_lt (slice_index heights F.top.0) 1) [
          | inl low ↦ inr (fault_at rules.TopNotVouched F.top.0 (16 + 4 * F.top.0), inl (inr (count, omega (arith, low), refl)))
          | inr top ↦ elim (running_or_fault F.objects (omega arith)) [
            | inr (fault, h) ↦ inr (fault, inr (count, top, h))
            | inl (total, running) ↦
                inl (accepted f F certificate (record { framed = frame; count = count; top = top; total = total; running = running }))
          ]
        ]
      ]

-- a file and a certificate have a yes or a first fault
pub yes_or_fault : (f : List ℕ) (certificate : Lists)
    → ((F : Frame) × IsAccepted f F certificate) ⊎ ((fault : Fault) × IsPairFault f certificate fault)
yes_or_fault f certificate = elim (frame_kept_or_fault f) [
  | inr (fault, h) ↦ inr (fault, inl h)
  | inl kept ↦
      let F = trailer f in
      let frame = trailer_is_frame f kept in
      elim (accepted_or_fault f F frame certificate.heights certificate.keys) [
        | inl yes1 ↦ inl (F, yes1)
        | inr (fault, h) ↦ inr (fault, inr (F, frame, h))
      ]
]
