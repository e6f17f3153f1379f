-- What the marker by itself says of an object.
use Rattle.std.proofs.Common.{◌≡◌, ℕ, zero, suc, ◌+◌, ◌-◌, ◌*◌, ◌<◌, ◌≤◌, Bool, true, false, ◌&&◌, nat_eq, if◌then◌else◌, List, [], ◌∷◌, length, slice_index, Option, Some, None, ◌⊎◌, inl, inr, IsTrue, sym, ap, ◌∙◌, arith, refl, subst}
use Rattle.std.proofs.lemmas.Bool.Decides.{nat_tests}
use Rattle.std.proofs.lemmas.Bool.{false≢true}
use Rattle.std.specs.Option.{option_map, option_and_then}
use Rattle.std.proofs.lemmas.Option.{same_Some}
use Rattle.bplist_objects.specs.declared.rule.Rule.TheVariants.{Extent}
use Rattle.bplist_objects.specs.declared.fault.Fault.{Fault}
use Rattle.bplist_objects.specs.declared.frame.Frame.{Frame}
use Rattle.bplist_objects.specs.declared.head.Head.{Head}
use Rattle.bplist_objects.specs.declared.head.Kind.{Kind}
use Rattle.bplist_objects.specs.declared.head.Kind.TheVariants as kinds
use Rattle.bplist_objects.specs.Frame.{off}
use Rattle.bplist_objects.specs.Safe.{ref_count}
use Rattle.bplist_objects.specs.Rules.{KeepsAll}
use Rattle.bplist_objects.specs.Announced.{HasHead, item_size}
use Rattle.bplist_objects.specs.Markers.{Markers, plain, counted, markers_of, Marks, AnnouncesAs, kind_at, count_found, long_found}
use Rattle.bplist_objects.specs.ObjectRules.{KeepsByObject, IsObjectFault, shape_rules, body_rules, object_rules}
use Rattle.bplist_objects.specs.Visits.{is_looked_into, count_in, size_of_kind, size_said}
use Rattle.bplist_objects.proofs.HeadLaws.{marked_kind, kind_marked, announced_marks, found_announced, head_announced, head_parts}
use Rattle.bplist_objects.proofs.ShapeLaws.{shape_kept, shape_extent}
use Rattle.bplist_objects.proofs.BodyLaws.{HasHead-unique}
use Rattle.bplist_objects.proofs.RuleLaws.{kept_all_after}

-- ---- the table of sizes
-- the size in the table, or 0 for none, is the one that the marker gives
abbrev pub is_said : ℕ → Option ℕ → Bool
is_said x None = nat_eq x 0
is_said zero (Some size) = false
is_said (suc x) (Some size) = nat_eq (suc x) size

-- so are all sizes from this marker on
abbrev pub are_said : ℕ → List ℕ → Bool
are_said marker [] = true
are_said marker (x ∷ xs) = is_said x (size_said marker) && are_said (suc marker) xs

both : (a b : Bool) → (a && b) ≡ true → (a ≡ true) × (b ≡ true)
both true b e = (refl, e)
both false b e = absurd (false≢true e)

said_at : (xs : List ℕ) (first k : ℕ) → are_said first xs ≡ true → k < length xs → is_said (slice_index xs k) (size_said (first + k)) ≡ true
said_at [] first k e lt = absurd (omega arith)
said_at (x ∷ xs) first zero e lt =
    subst (λ m. is_said x (size_said m) ≡ true) (omega arith) (both (is_said x (size_said first)) (are_said (suc first) xs) e).0
said_at (x ∷ xs) first (suc k) e lt =
    subst (λ m. is_said (slice_index xs k) (size_said m) ≡ true) (omega arith)
    (said_at xs (suc first) k (both (is_said x (size_said first)) (are_said (suc first) xs) e).1 (omega (arith, lt)))

said_none : (x : ℕ) (said : Option ℕ) → is_said x said ≡ true → x ≡ 0 → None ≡ said
said_none x None e none = refl
said_none zero (Some size) e none = absurd (false≢true e)
said_none (suc x) (Some size) e none = absurd (omega (arith, none))

said_some : (x : ℕ) (said : Option ℕ) → is_said x said ≡ true → (x ≡ 0 → ⊥) → Some x ≡ said
said_some x None e some = let none : x ≡ 0 = grind (arith, nat_tests) in absurd (some none)
said_some zero (Some size) e some = absurd (some refl)
said_some (suc x) (Some size) e some = let same : suc x ≡ size = grind (arith, nat_tests) in ap (λ y. Some y) same

module _ (xs : List ℕ) (marker : ℕ) where
  -- what a correct table says
  said_there : marker < length xs → are_said 0 xs ≡ true → is_said (slice_index xs marker) (size_said marker) ≡ true
  said_there lt e =
      subst (λ m. is_said (slice_index xs marker) (size_said m) ≡ true) (omega arith) (said_at xs 0 marker e lt)

  pub none_there : slice_index xs marker ≡ 0 → marker < length xs → are_said 0 xs ≡ true → None ≡ size_said marker
  none_there none lt e = said_none (slice_index xs marker) (size_said marker) (said_there lt e) none

  pub some_there : (slice_index xs marker ≡ 0 → ⊥) → marker < length xs → are_said 0 xs ≡ true → Some (slice_index xs marker) ≡ size_said marker
  some_there some lt e = said_some (slice_index xs marker) (size_said marker) (said_there lt e) some

-- ---- what is said
-- a marker that gives the size is of a kind that no rule is about, and holds the count
abbrev SaysCount : ℕ → ℕ → Type 0
SaysCount marker size =
    (kind : Kind) × (count : ℕ) × Marks marker kind × (is_looked_into kind ≡ false) × (count_in (markers_of kind) marker ≡ Some count)
    × (size ≡ 1 + count * item_size 1 kind)

said_count : (marker size : ℕ) → size_said marker ≡ Some size → SaysCount marker size
said_count marker size e = of_found (kind_at marker) refl e
  where
    of_count : (kind : Kind) → Marks marker kind → is_looked_into kind ≡ false → (found : Option ℕ) → count_in (markers_of kind) marker ≡ found
        → option_map (λ count. 1 + count * item_size 1 kind) found ≡ Some size → SaysCount marker size
    of_count kind marks free None s r = absurd (cc r)
    of_count kind marks free (Some count) s r = (kind, count, marks, free, s, sym (same_Some _ size r))

    of_kind : (kind : Kind) → Marks marker kind → (looked : Bool) → is_looked_into kind ≡ looked
        → (if looked then None else option_map (λ count. 1 + count * item_size 1 kind) (count_in (markers_of kind) marker)) ≡ Some size → SaysCount marker size
    of_kind kind marks true s r = absurd (cc r)
    of_kind kind marks false s r = of_count kind marks s (count_in (markers_of kind) marker) refl r

    of_found : (found : Option Kind) → kind_at marker ≡ found → option_and_then (size_of_kind marker) found ≡ Some size → SaysCount marker size
    of_found None s r = absurd (cc r)
    of_found (Some kind) s r = of_kind kind (marked_kind marker kind s) (is_looked_into kind) refl r

-- a count in the marker is found
in_found : (f : List ℕ) (p : ℕ) (form : Markers) (count : ℕ) → count_in form (slice_index f p) ≡ Some count → count_found f p form ≡ Some (count, p + 1)
in_found f p (plain low high says) count e = ap (λ c. Some (c, p + 1)) (same_Some (says (slice_index f p)) count e)
in_found f p (counted high) count e = go (nat_eq (slice_index f p) (16 * high + 15)) e
  where
    go : (long : Bool) → (if long then None else Some (slice_index f p - 16 * high)) ≡ Some count
        → (if long then long_found f p else Some (slice_index f p - 16 * high, p + 1)) ≡ Some (count, p + 1)
    go true r = absurd (cc r)
    go false r = ap (λ c. Some (c, p + 1)) (same_Some (slice_index f p - 16 * high) count r)

-- a body that no rule is about has no references, and is of none of the kinds of rules 18 and 19
free_size : (r : ℕ) (kind : Kind) → is_looked_into kind ≡ false → item_size r kind ≡ item_size 1 kind
free_size r kinds.Array e = absurd (cc e)
free_size r kinds.Set e = absurd (cc e)
free_size r kinds.Dict e = absurd (cc e)
free_size r _ e = refl

free_refs : (count : ℕ) (kind : Kind) → is_looked_into kind ≡ false → ref_count kind count ≡ 0
free_refs count kinds.Array e = absurd (cc e)
free_refs count kinds.Set e = absurd (cc e)
free_refs count kinds.Dict e = absurd (cc e)
free_refs count _ e = refl

module _ (f : List ℕ) (F : Frame) (n size : ℕ) (far : 8 ≤ off f F n) (inside : off f F n < length f) (said : size_said (slice_index f (off f F n)) ≡ Some size) where
  abbrev o : ℕ
  o = off f F n

  says : SaysCount (slice_index f o) size
  says = said_count (slice_index f o) size said

  abbrev kind : Kind
  kind = says.0

  abbrev count : ℕ
  count = says.1

  free : is_looked_into kind ≡ false
  free = says.3

  -- the head that the marker announces
  abbrev head : Head
  head = record { kind = kind; count = count; body = o + 1; «end» = o + 1 + count * item_size F.ref_size kind }

  has : HasHead f F n head
  has = head_announced f F n head (omega (arith, inside)) (found_announced f o (markers_of kind) says.2 (count, o + 1) (in_found f o (markers_of kind) count says.4), refl)

  ends : head.«end» ≡ o + size
  ends =
      let same = ap (λ x. count * x) (free_size F.ref_size kind free) in
      let whole : size ≡ 1 + count * item_size 1 kind = says.5 in
      omega (arith, same, whole)

  -- any head of the object is of a kind that no rule is about
  free_head : (other : Head) → HasHead f F n other → is_looked_into other.kind ≡ false
  free_head other h = subst (λ (x : Head). is_looked_into x.kind ≡ false) (HasHead-unique f F n head other has h) free

  other_kind : (other : Head) → HasHead f F n other → (k : Kind) → is_looked_into k ≡ true → other.kind ≡ k → ⊥
  other_kind other h k looked e = false≢true (sym (free_head other h) ∙ ap is_looked_into e ∙ looked)

  bodies_kept : KeepsAll (KeepsByObject f F n) body_rules
  bodies_kept = (
    λ other h e. absurd (other_kind other h kinds.Ascii refl e),
    (
      λ other h e. absurd (other_kind other h kinds.Uid refl e),
      (λ other h k lt. absurd (let none = free_refs other.count other.kind (free_head other h) in omega (arith, lt, none)), tt),
    ),
  )

  -- an object whose marker gives its size, and that ends before the table, keeps all rules of an object by itself
  pub said_kept : o + size ≤ F.table
      → (x : Head) × HasHead f F n x × (x.«end» ≡ o + size) × (ref_count x.kind x.count ≡ 0) × KeepsAll (KeepsByObject f F n) object_rules
  said_kept l = (
    head,
    has,
    ends,
    free_refs count kind free,
    kept_all_after (KeepsByObject f F n) shape_rules body_rules (shape_kept f F n far head has (omega (arith, l, ends))) bodies_kept,
  )

  -- one that does not end before the table breaks rule 17 first
  pub said_late : F.table < o + size → (fault : Fault) → fault.rule ≡ Extent → fault.object ≡ Some (record { 0 = n }) → fault.place ≡ o
      → IsObjectFault f F n shape_rules fault
  said_late l = shape_extent f F n far head has (omega (arith, l, ends))

-- an object whose marker does not give its size has a body that a rule is about, or a count after the marker
module _ (f : List ℕ) (F : Frame) (n : ℕ) (head : Head) (h : HasHead f F n head) where
  parts : AnnouncesAs f (off f F n) (markers_of head.kind) head.count head.body
  parts = (head_parts f F n head h).0

  count_unsaid : is_looked_into head.kind ≡ false → size_said (slice_index f (off f F n)) ≡ None
      → count_in (markers_of head.kind) (slice_index f (off f F n)) ≡ None
  count_unsaid free none =
      let marker = slice_index f (off f F n) in
      let kind = kind_marked marker head.kind (announced_marks f (off f F n) (markers_of head.kind) head.count head.body parts) in
      of_count (count_in (markers_of head.kind) marker) ((rw (kind, free) at none))
    where
      of_count : (found : Option ℕ) → option_map (λ count. 1 + count * item_size 1 head.kind) found ≡ None → found ≡ None
      of_count None e = refl
      of_count (Some count) e = absurd (cc e)

  follows : (form : Markers) → AnnouncesAs f (off f F n) form head.count head.body → count_in form (slice_index f (off f F n)) ≡ None
      → off f F n + 1 < head.body
  follows (plain low high says) a e = absurd (cc e)
  follows (counted high) (inl a) e =
      let short : nat_eq (slice_index f (off f F n)) (16 * high + 15) ≡ false = grind (arith, nat_tests) in absurd (cc (rw short at e))
  follows (counted high) (inr a) e = omega (arith, a.1.4)

  pub unsaid : size_said (slice_index f (off f F n)) ≡ None → IsTrue (is_looked_into head.kind) ⊎ (off f F n + 1 < head.body)
  unsaid none = go (is_looked_into head.kind) refl
    where
      go : (looked : Bool) → is_looked_into head.kind ≡ looked → IsTrue (is_looked_into head.kind) ⊎ (off f F n + 1 < head.body)
      go true s = inl s
      go false s = inr (follows (markers_of head.kind) parts (count_unsaid s none))
