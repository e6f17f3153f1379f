-- Stretches of low bytes that are put together, and texts by them.
use Rattle.std.proofs.Common.{Option, Some, None, MatchOption, is_some, false, ◌≡◌, ℕ, ◌+◌, ◌*◌, ◌-◌, ◌<◌, ◌≤◌, inl, inr, List, length, set, replicate, sym, ap, ◌∙◌, subst, arith}
use Rattle.std.proofs.lemmas.Bool.{cases_eq, cases_lt, false≢true}
use Rattle.std.proofs.lemmas.List.{get_or-set_same, get_or-set_other, get_or-replicate, get_or_past, length-replicate}
use Rattle.bplist_objects.specs.declared.frame.Frame.{Frame}
use Rattle.bplist_objects.specs.declared.head.Head.{Head}
use Rattle.bplist_objects.specs.declared.head.Kind.TheVariants as kinds
use Rattle.bplist_objects.specs.Numbers.{num_at}
use Rattle.bplist_objects.specs.Scan.{AreBelow, IsFirstNotBelow}
use Rattle.bplist_objects.specs.Safe.{ref_count}
use Rattle.bplist_objects.specs.Announced.{HasHead}
use Rattle.bplist_objects.specs.Rules.{KeepsAll}
use Rattle.bplist_objects.specs.ObjectRules.{KeepsByObject, shape_rules, body_rules, object_rules}
use Rattle.bplist_objects.specs.Heads.{content_at}
use Rattle.bplist_objects.proofs.BodyLaws.{HasHead-unique}
use Rattle.bplist_objects.proofs.RuleLaws.{kept_all_after}
use Rattle.bplist_objects.proofs.ProperLeaves.{spells_bodies}
use Rattle.bplist_objects.proofs.HeadTies.{shape_announced}
use Rattle.bplist_cert.specs.DictKeys.{IsText}
use Rattle.bplist_cert.specs.declared.caches.Stretch.{Stretch}
use Rattle.bplist_cert.specs.LowBytes.{IsLow, stretch_at, AreLowStretches}

-- no stretch
abbrev pub no_stretch : Stretch
no_stretch = record { from = 0; to = 0 }

abbrev LowStretch : List ℕ → Stretch → Type 0
LowStretch f x = IsLow f x.from x.to

-- a stretch that is put
pub low_put : (f : List ℕ) (slots : List Stretch) (r : ℕ) (x : Stretch) → r < length slots → AreLowStretches f slots → IsLow f x.from x.to → AreLowStretches f (set slots r x)
low_put f slots r x within old new i = elim (cases_eq i r) [
  | inl e ↦ subst (λ j. LowStretch f (stretch_at (set slots r x) j)) (sym e) (subst (LowStretch f) (sym (get_or-set_same slots r x no_stretch within)) new)
  | inr d ↦ subst (LowStretch f) (sym (get_or-set_other slots r i x no_stretch d)) (old i)
]

-- a table without stretches
pub low_none : (f : List ℕ) (n : ℕ) → AreLowStretches f (replicate n no_stretch)
low_none f n i = elim (cases_lt i n) [
  | inl within ↦ subst (LowStretch f) (sym (get_or-replicate n i no_stretch no_stretch within)) (λ k from l. absurd (omega (arith, l)))
  | inr past ↦ subst (LowStretch f) (sym (get_or_past (replicate n no_stretch) i no_stretch (omega (arith, past, length-replicate {A = Stretch} n no_stretch)))) (λ k from l. absurd (omega (arith, l)))
]

module _ (f : List ℕ) where
  -- bytes below 128 one by one from a place on
  pub below_low : (from to : ℕ) → AreBelow f from 1 (to - from) 128 → IsLow f from to
  below_low from to below k low high =
      let e : from + (k - from) * 1 ≡ k = omega (arith, low) in
      subst (λ p. num_at f p 1 < 128) e (below (k - from) (omega (arith, low, high)))

  pub low_below : (body count : ℕ) → IsLow f body (body + count) → AreBelow f body 1 count 128
  low_below body count low k l = low (body + k * 1) (omega arith) (omega (arith, l))

  -- no high byte is found
  pub none_high : (from to : ℕ) (found : Option ℕ) → is_some found ≡ false → MatchOption found (AreBelow f from 1 (to - from) 128) (IsFirstNotBelow f from 1 (to - from) 128) → IsLow f from to
  none_high from to None none h = below_low from to h
  none_high from to (Some i) none h = absurd (false≢true (sym none))

  -- a known stretch, with what was read before it and after it
  pub low_filled : (known : Stretch) (from to begin end : ℕ) → IsLow f known.from known.to → IsLow f from begin → IsLow f end to → (begin < to → known.from ≤ begin) → (begin < end → end ≤ known.to) → IsLow f from to
  low_filled known from to begin end inside front back starts stops k low high = elim (cases_lt k begin) [
    | inl before ↦ front k low before
    | inr from_begin ↦ elim (cases_lt k end) [
      | inr behind ↦ back k behind high
      | inl between ↦
          let s = starts (omega (arith, from_begin, high)) in
          let t = stops (omega (arith, from_begin, between)) in
          inside k (omega (arith, s, from_begin)) (omega (arith, between, t))
    ]
  ]

module _ (f : List ℕ) (F : Frame) (m : ℕ) (head : Head) (has : HasHead f F m head) (kept : KeepsAll (KeepsByObject f F m) shape_rules) where
  -- an Ascii text with low bytes keeps rules 14 to 20
  pub low_kept : head.kind ≡ kinds.Ascii → IsLow f head.body (head.body + head.count) → KeepsAll (KeepsByObject f F m) object_rules
  low_kept ascii low = kept_all_after (KeepsByObject f F m) shape_rules body_rules kept (
    λ other h _. subst (λ (x : Head). AreBelow f x.body 1 x.count 128) (HasHead-unique f F m head other has h) (low_below f head.body head.count low),
    (
      λ other h uid. absurd (let same = HasHead-unique f F m head other has h in cc (ascii, same, uid)),
      (
        λ other h. subst (λ (x : Head). AreBelow f x.body F.ref_size (ref_count x.kind x.count) F.objects) (HasHead-unique f F m head other has h)
            (subst (λ kind. AreBelow f head.body F.ref_size (ref_count kind head.count) F.objects) (sym ascii) (λ k l. absurd (omega (arith, l)))),
        tt,
      ),
    ),
  )

  -- a Wide text keeps rules 14 to 20
  pub wide_kept : head.kind ≡ kinds.Wide → KeepsAll (KeepsByObject f F m) object_rules
  wide_kept wide = kept_all_after (KeepsByObject f F m) shape_rules body_rules kept (
    λ other h ascii. absurd (let same = HasHead-unique f F m head other has h in cc (wide, same, ascii)),
    (
      λ other h uid. absurd (let same = HasHead-unique f F m head other has h in cc (wide, same, uid)),
      (
        λ other h. subst (λ (x : Head). AreBelow f x.body F.ref_size (ref_count x.kind x.count) F.objects) (HasHead-unique f F m head other has h)
            (subst (λ kind. AreBelow f head.body F.ref_size (ref_count kind head.count) F.objects) (sym wide) (λ k l. absurd (omega (arith, l)))),
        tt,
      ),
    ),
  )

-- the bytes of an Ascii text are low
pub text_low : (f : List ℕ) (F : Frame) (m : ℕ) (key : Head) → IsText f F m key → key.kind ≡ kinds.Ascii → IsLow f key.body (key.body + key.count)
text_low f F m key is ascii k low high =
    let bytes = (spells_bodies f F m (content_at f F key) is.is.1).0 key is.is.0.has ascii in
    let e : key.body + (k - key.body) * 1 ≡ k = omega (arith, low) in
    subst (λ p. num_at f p 1 < 128) e (bytes (k - key.body) (omega (arith, low, high)))

pub text_is_low : (f : List ℕ) (F : Frame) (m : ℕ) (head : Head) → HasHead f F m head → head.kind ≡ kinds.Ascii → (key : Head) → IsText f F m key → IsLow f head.body (head.body + head.count)
text_is_low f F m head has ascii key is =
    let same : key ≡ head = HasHead-unique f F m key head (shape_announced f F m key is.is.0) has in
    subst (λ (x : Head). IsLow f x.body (x.body + x.count)) same
    (text_low f F m key is (ap (λ (x : Head). x.kind) same ∙ ascii))
