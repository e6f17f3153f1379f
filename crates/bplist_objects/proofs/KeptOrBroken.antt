-- Each rule is kept or broken, and so either all rules are kept or there is a first fault.
use Rattle.std.proofs.Common.{◌≡◌, ℕ, ◌<◌, ◌≤◌, ◌+◌, ◌-◌, ◌*◌, ◌^◌, ◌⊎◌, inl, inr, List, [], ◌∷◌, length, slice_index, Option, Some, None, refl, sym, ◌∙◌, subst, arith}
use Rattle.std.proofs.lemmas.Bool.{cases_lt, cases_eq}
use Rattle.bplist_objects.specs.declared.rule.Rule.{Rule}
use Rattle.bplist_objects.specs.declared.rule.Rule.TheVariants as rules
use Rattle.bplist_objects.specs.declared.fault.Fault.{Fault}
use Rattle.bplist_objects.specs.declared.frame.Frame.{Frame}
use Rattle.bplist_objects.specs.declared.frame.ObjectNo.{ObjectNo}
use Rattle.bplist_objects.specs.declared.head.Head.{Head}
use Rattle.bplist_objects.specs.declared.head.Kind.{Kind}
use Rattle.bplist_objects.specs.declared.head.Kind.TheVariants as kinds
use Rattle.bplist_objects.specs.Numbers.{num_at}
use Rattle.bplist_objects.specs.Frame.{off, trailer, header, Keeps, frame_rules}
use Rattle.bplist_objects.specs.Rules.{KeepsAll, IsFirstFault, OfObject}
use Rattle.bplist_objects.specs.Scan.{AreBelow, IsFirstNotBelow, nth_number}
use Rattle.bplist_objects.specs.FrameRules.{Breaks, IsFrameFault}
use Rattle.bplist_objects.specs.Announced.{HasHead, IsMarker}
use Rattle.bplist_objects.specs.Markers.{kind_at, head_found}
use Rattle.bplist_objects.specs.ObjectRules.{KeepsByObject, BreaksByObject, IsObjectFault}
use Rattle.bplist_objects.specs.Safe.{ref_count}
use Rattle.bplist_objects.proofs.Lists.{Either}
use Rattle.bplist_objects.proofs.ClaimLaws.{all_or_failure}
use Rattle.bplist_objects.proofs.BodyLaws.{HasHead-unique}
use Rattle.bplist_objects.proofs.HeadLaws.{marker_marks, marks_marker, marked_kind, kind_marked, head_is_found, found_head, head_within}
use Rattle.std.proofs.lemmas.Option.{same_Some}

is_le : (a b : ℕ) → Either (a ≤ b)
is_le a b = elim (cases_lt b a) [
  | inl l ↦ inr (λ h. omega (arith, l, h))
  | inr h ↦ inl h
]

is_both : {P Q : Type 0} → Either P → Either Q → Either (P × Q)
is_both (inl p) (inl q) = inl (p, q)
is_both (inr no1) d = inr (λ b. no1 b.0)
is_both (inl p) (inr no1) = inr (λ b. no1 b.1)

is_between : (a low high : ℕ) → Either ((low ≤ a) × (a ≤ high))
is_between a low high = is_both (is_le low a) (is_le a high)

-- what is kept or broken if A holds is so without it
if_so : {A P Q : Type 0} → A ⊎ (A → ⊥) → P ⊎ Q → (A → P) ⊎ (A × Q)
if_so (inr no1) d = inl (λ a. absurd (no1 a))
if_so (inl a) (inl p) = inl (λ a. p)
if_so (inl a) (inr q) = inr (a, q)

is_less : (a b : ℕ) → Either (a < b)
is_less a b = elim (cases_lt a b) [
  | inl l ↦ inl l
  | inr h ↦ inr (λ l. omega (arith, h, l))
]

-- an implication is decided if both sides are
is_implied : {A P : Type 0} → Either A → Either P → Either (A → P)
is_implied (inr no1) d = inl (λ a. absurd (no1 a))
is_implied (inl a) (inl p) = inl (λ _. p)
is_implied (inl a) (inr no1) = inr (λ k. no1 (k a))

-- numbers are below a bound, or there is a first one that is not
below_or_first : (f : List ℕ) (place size count bound : ℕ) → AreBelow f place size count bound ⊎ ((i : ℕ) × IsFirstNotBelow f place size count bound i)
below_or_first f place size count bound =
    all_or_failure (λ k. nth_number f place size k < bound) (λ k. is_less (nth_number f place size k) bound) count

-- ---- each rule of a list
abbrev Decided : (Rule → Type 0) → (Rule → Option ObjectNo → ℕ → Type 0) → Type 0
Decided keeps breaks = (rule : Rule) → keeps rule ⊎ ((object : Option ObjectNo) × (place : ℕ) × breaks rule object place)

pub kept_or_first_fault : (keeps : Rule → Type 0) (breaks : Rule → Option ObjectNo → ℕ → Type 0) → Decided keeps breaks
    → (list : List Rule) → KeepsAll keeps list ⊎ ((fault : Fault) × IsFirstFault keeps breaks list fault)
kept_or_first_fault keeps breaks each [] = inl tt
kept_or_first_fault keeps breaks each (rule ∷ rest) = go (each rule) (kept_or_first_fault keeps breaks each rest)
  where
    go : keeps rule ⊎ ((object : Option ObjectNo) × (place : ℕ) × breaks rule object place) → KeepsAll keeps rest ⊎ ((fault : Fault) × IsFirstFault keeps breaks rest fault)
        → KeepsAll keeps (rule ∷ rest) ⊎ ((fault : Fault) × IsFirstFault keeps breaks (rule ∷ rest) fault)
    go (inl k) (inl ks) = inl (k, ks)
    go (inl k) (inr (fault, h)) = inr (fault, inr (k, h))
    go (inr (object, place, b)) r = inr (record { rule = rule; object = object; place = place }, inl (refl, b))

-- ---- rules 1 to 13
module _ (f : List ℕ) (long : 41 ≤ length f) where
  abbrev F : Frame
  F = trailer f

  -- a rule that is broken at a place this far from the end
  at_end : {P : Type 0} (k : ℕ) → k ≤ 41 → Either P → P ⊎ ((object : Option ObjectNo) × (place : ℕ) × ((P → ⊥) × (object ≡ None) × (place + k ≡ length f)))
  at_end k l (inl p) = inl p
  at_end k l (inr no1) = inr (None, length f - k, (no1, refl, omega (arith, l, long)))

  frame_rule_decided : Decided (Keeps f) (Breaks f)
  frame_rule_decided rules.TooLarge = at_end 0 (omega arith) (is_le (length f) 4294967295)
  frame_rule_decided rules.TooShort = inl long
  frame_rule_decided rules.Magic = elim (all_or_failure (λ k. slice_index f k ≡ slice_index header k) (λ k. cases_eq (slice_index f k) (slice_index header k)) 8) [
    | inl all ↦ inl all
    | inr first ↦ inr (None, first.0, (first.1, refl))
  ]
  frame_rule_decided rules.NoObjects = at_end 24 (omega arith) (is_le 1 F.objects)
  frame_rule_decided rules.Top = at_end 16 (omega arith) (is_less F.top.0 F.objects)
  frame_rule_decided rules.TableEarly = at_end 8 (omega arith) (is_le 9 F.table)
  frame_rule_decided rules.TableLate = at_end 8 (omega arith) (is_less F.table (length f - 32))
  frame_rule_decided rules.OffsetSize = at_end 26 (omega arith) (is_between F.offset_size 1 8)
  frame_rule_decided rules.RefSize = at_end 25 (omega arith) (is_between F.ref_size 1 8)
  frame_rule_decided rules.Length = at_end 32 (omega arith) (cases_eq (F.table + F.objects * F.offset_size + 32) (length f))
  frame_rule_decided rules.RefNarrow = at_end 25 (omega arith) (is_implied (is_less F.ref_size 8) (is_less F.objects (256 ^ F.ref_size)))
  frame_rule_decided rules.OffsetNarrow = at_end 26 (omega arith) (is_implied (is_less F.offset_size 8) (is_less F.table (256 ^ F.offset_size)))
  frame_rule_decided rules.OffsetHigh = elim (below_or_first f F.table F.offset_size F.objects F.table) [
    | inl all ↦ inl all
    | inr first ↦ inr (Some (record { 0 = first.0 }), F.table + first.0 * F.offset_size, (first.0, first.1, refl, refl))
  ]
  frame_rule_decided _ = inl tt

-- a file keeps rules 1 to 13, or one of them is the first that it breaks
pub frame_kept_or_fault : (f : List ℕ) → KeepsAll (Keeps f) frame_rules ⊎ ((fault : Fault) × IsFrameFault f fault)
frame_kept_or_fault f = elim (cases_lt (length f) 41) [
  | inl short ↦ inr (record { rule = rules.TooShort; object = None; place = length f }, inr (omega (arith, short), inl (refl, (λ long. omega (arith, short, long), refl, omega arith))))
  | inr long ↦ kept_or_first_fault (Keeps f) (Breaks f) (frame_rule_decided f long) frame_rules
]

-- ---- rules 14 to 20
marker_decided : (m : ℕ) → Either (IsMarker m)
marker_decided m = go (kind_at m) refl
  where
    go : (found : Option Kind) → kind_at m ≡ found → Either (IsMarker m)
    go None e = inr (λ is. let marks = marker_marks m is in absurd (cc (e, kind_marked m marks.0 marks.1)))
    go (Some kind) e = inl (marks_marker m kind (marked_kind m kind e))

ascii_decided : (kind : Kind) → Either (kind ≡ kinds.Ascii)
ascii_decided kinds.Ascii = inl refl
ascii_decided _ = inr (λ e. cc e)

uid_decided : (kind : Kind) → Either (kind ≡ kinds.Uid)
uid_decided kinds.Uid = inl refl
uid_decided _ = inr (λ e. cc e)

module _ (f : List ℕ) (F : Frame) (n : ℕ) where
  -- whether a head is announced
  head_decided : Either ((head : Head) × HasHead f F n head)
  head_decided = go (head_found f F n) refl
    where
      go : (found : Option Head) → head_found f F n ≡ found → Either ((head : Head) × HasHead f F n head)
      go None e = inr (λ h. absurd (cc (e, head_is_found f F n h.0 h.1)))
      go (Some head) e = elim (is_le head.body (length f)) [
        | inl l ↦ inl (head, found_head f F n head l e)
        | inr far ↦ inr (λ h. far (subst (λ (x : Head). x.body ≤ length f) (same_Some h.0 head (sym (head_is_found f F n h.0 h.1) ∙ e)) (head_within f F n h.0 h.1)))
      ]

  -- for the head that is announced, if there is one, one of two things holds
  with_head : (P Q : Head → Type 0) → ((head : Head) → P head ⊎ Q head) → ((head : Head) → HasHead f F n head → P head) ⊎ ((head : Head) × HasHead f F n head × Q head)
  with_head P Q each = elim head_decided [
    | inr none ↦ inl (λ head h. absurd (none (head, h)))
    | inl there ↦ elim (each there.0) [
      | inl p ↦ inl (λ other k. subst P (HasHead-unique f F n there.0 other there.1 k) p)
      | inr q ↦ inr (there.0, there.1, q)
    ]
  ]

  of_head : (P : Head → Type 0) → ((head : Head) → Either (P head)) → Either ((head : Head) → HasHead f F n head → P head)
  of_head P each = elim (with_head P (λ head. P head → ⊥) each) [
    | inl all ↦ inl all
    | inr b ↦ inr (λ all. b.2 (all b.0 b.1))
  ]

  abbrev o : ℕ
  o = off f F n

  -- a rule that is broken at this place
  at : {P : Type 0} (p : ℕ) → Either P → P ⊎ ((place : ℕ) × ((P → ⊥) × (place ≡ p)))
  at p (inl k) = inl k
  at p (inr no1) = inr (p, (no1, refl))

  count_decided : Either (o + 1 < F.table → (head : Head) × HasHead f F n head)
  count_decided = is_implied (is_less (o + 1) F.table) head_decided

  -- whether a head is announced that ends before the table
  early_decided : Either ((head : Head) × HasHead f F n head × (head.«end» ≤ F.table))
  early_decided = elim head_decided [
    | inr none ↦ inr (λ h. none (h.0, h.1))
    | inl there ↦ elim (is_le there.0.«end» F.table) [
      | inl l ↦ inl (there.0, there.1, l)
      | inr late ↦ inr (λ h. late (subst (λ (x : Head). x.«end» ≤ F.table) (HasHead-unique f F n h.0 there.0 h.1 there.1) h.2))
    ]
  ]

  object_rule_decided : (rule : Rule) → KeepsByObject f F n rule ⊎ ((place : ℕ) × BreaksByObject f F n rule place)
  object_rule_decided rules.OffsetLow = at (F.table + n * F.offset_size) (is_le 8 o)
  object_rule_decided rules.Marker = at o (marker_decided (slice_index f o))
  object_rule_decided rules.Count = at (o + 1) (is_implied (marker_decided (slice_index f o)) count_decided)
  object_rule_decided rules.Extent = at o (is_implied (marker_decided (slice_index f o)) (is_implied count_decided early_decided))
  object_rule_decided rules.UidLarge =
      at o (of_head (λ head. head.kind ≡ kinds.Uid → num_at f head.body head.count ≤ 4294967295)
      (λ head. is_implied (uid_decided head.kind) (is_le (num_at f head.body head.count) 4294967295)))
  object_rule_decided rules.NotAscii =
      elim (with_head (λ head. head.kind ≡ kinds.Ascii → AreBelow f head.body 1 head.count 128)
      (λ head. (head.kind ≡ kinds.Ascii) × ((i : ℕ) × IsFirstNotBelow f head.body 1 head.count 128 i))
      (λ head. if_so (ascii_decided head.kind) (below_or_first f head.body 1 head.count 128))) [
        | inl k ↦ inl k
        | inr b ↦ inr (b.0.body + b.2.1.0, (b.0, b.2.1.0, b.1, b.2.0, b.2.1.1, refl))
      ]
  object_rule_decided rules.RefHigh =
      elim (with_head (λ head. AreBelow f head.body F.ref_size (ref_count head.kind head.count) F.objects)
      (λ head. (i : ℕ) × IsFirstNotBelow f head.body F.ref_size (ref_count head.kind head.count) F.objects i)
      (λ head. below_or_first f head.body F.ref_size (ref_count head.kind head.count) F.objects)) [
        | inl k ↦ inl k
        | inr b ↦ inr (b.0.body + b.2.0 * F.ref_size, (b.0, b.2.0, b.1, b.2.1, refl))
      ]
  object_rule_decided _ = inl tt

  -- an object keeps rules, or one of them is the first that it breaks
  pub object_kept_or_fault : (list : List Rule) → KeepsAll (KeepsByObject f F n) list ⊎ ((fault : Fault) × IsObjectFault f F n list fault)
  object_kept_or_fault = kept_or_first_fault (KeepsByObject f F n) (OfObject n (BreaksByObject f F n)) each
    where
      each : Decided (KeepsByObject f F n) (OfObject n (BreaksByObject f F n))
      each rule = elim (object_rule_decided rule) [
        | inl k ↦ inl k
        | inr b ↦ inr (Some (record { 0 = n }), b.0, (refl, b.1))
      ]
