-- Laws of heads: what marker and count announce is what is found there, and so an object has at most one announced
-- head.
use Rattle.std.proofs.Common.{◌≡◌, ℕ, ◌+◌, ◌-◌, ◌*◌, ◌^◌, ◌<◌, ◌≤◌, Bool, true, false, ◌&&◌, nat_le, nat_eq, if◌then◌else◌, List, [], ◌∷◌, length, slice_index, Option, Some, None, find, sym, ap, ap₂, ◌∙◌, arith, drop, length-drop, refl, inl, inr, subst}
use Rattle.std.proofs.lemmas.Bool.Decides.{nat_tests}
use Rattle.std.proofs.lemmas.Bool.{cases_eq}
use Rattle.std.specs.Option.{option_map, option_and_then}
use Rattle.std.proofs.lemmas.Option.{same_Some}
use Rattle.std.proofs.lemmas.List.{length-take}
use Rattle.bplist_octets.specs.Octets.{num}
use Rattle.bplist_objects.specs.declared.frame.Frame.{Frame}
use Rattle.bplist_objects.specs.declared.head.Head.{Head}
use Rattle.bplist_objects.specs.declared.head.Kind.{Kind}
use Rattle.bplist_objects.specs.declared.head.Kind.TheVariants as kinds
use Rattle.bplist_objects.specs.Numbers.{num_at}
use Rattle.bplist_objects.specs.Frame.{off}
use Rattle.bplist_objects.specs.Announced.{IsCount, IsFront, IsMarker, MayCount, HasHead, item_size}
use Rattle.bplist_objects.specs.Markers.{Markers, plain, counted, markers_of, least_marker, greatest_marker, is_marker_of, is_counted, all_kinds, Marks, MarkersCount, IsLong, IsLongOf, HasLongCount, AnnouncesAs, Announces, kind_at, long_found, count_found, head_with, head_found}
use Rattle.bplist_objects.proofs.AnnouncedHeads.{announced_short, announced, fronted}

-- what is found under a test
pub if_some : {X : Type 0} (t : Bool) (x y : X) → (if t then Some x else None) ≡ Some y → (t ≡ true) × (x ≡ y)
if_some true x y e = (refl, same_Some x y e)
if_some false x y e = absurd (cc e)

-- ---- the kind
-- what is found passes the test
find_passes : {X : Type 0} (test : X → Bool) (xs : List X) (x : X) → find test xs ≡ Some x → test x ≡ true
find_passes test [] x e = absurd (cc e)
find_passes test (y ∷ ys) x e = go (test y) refl e (find_passes test ys x)
  where
    go : (t : Bool) → test y ≡ t → (if t then Some y else find test ys) ≡ Some x → (find test ys ≡ Some x → test x ≡ true) → test x ≡ true
    go true s r more = subst (λ z. test z ≡ true) (same_Some y x r) s
    go false s r more = more r

-- what a test of a form means
of_markers : (form : Markers) (m : ℕ) → is_marker_of form m ≡ true → (least_marker form ≤ m) × (m ≤ greatest_marker form)
of_markers (plain low high says) m t = grind (arith, nat_tests)
of_markers (counted high) m t = grind (arith, nat_tests)

-- a marker is of the kind that is found
pub kind_marked : (m : ℕ) (kind : Kind) → Marks m kind → kind_at m ≡ Some kind
unfolding kind_at
kind_marked m kinds.Null h = grind (arith, nat_tests)
kind_marked m kinds.False h = grind (arith, nat_tests)
kind_marked m kinds.True h = grind (arith, nat_tests)
kind_marked m kinds.Int h = grind (arith, nat_tests)
kind_marked m kinds.Real h = grind (arith, nat_tests)
kind_marked m kinds.Date h = grind (arith, nat_tests)
kind_marked m kinds.Bytes h = grind (arith, nat_tests)
kind_marked m kinds.Ascii h = grind (arith, nat_tests)
kind_marked m kinds.Wide h = grind (arith, nat_tests)
kind_marked m kinds.Uid h = grind (arith, nat_tests)
kind_marked m kinds.Array h = grind (arith, nat_tests)
kind_marked m kinds.Set h = grind (arith, nat_tests)
kind_marked m kinds.Dict h = grind (arith, nat_tests)

pub marked_kind : (m : ℕ) (kind : Kind) → kind_at m ≡ Some kind → Marks m kind
unfolding kind_at
marked_kind m kind e = of_markers (markers_of kind) m (find_passes (λ k. is_marker_of (markers_of k) m) all_kinds kind e)

-- a byte is a marker if and only if it is a marker of some kind
same_byte : (m b : ℕ) (rest l : List ℕ) → m ∷ rest ≡ b ∷ l → m ≡ b
same_byte m b rest l e = ap (λ x. slice_index x 0) e

count_marks : (high count m : ℕ) (rest : List ℕ) → IsCount high count (m ∷ rest) → (16 * high ≤ m) × (m ≤ 16 * high + 15)
count_marks high count m rest (inl (low, e)) = let at = same_byte m _ rest _ e in (omega (arith, at), omega (arith, at, low))
count_marks high count m rest (inr (w, l, w4, len, value, e)) = let at = same_byte m _ rest _ e in (omega (arith, at), omega (arith, at))

front_marks : (kind : Kind) (count m : ℕ) (rest : List ℕ) → IsFront kind count (m ∷ rest) → Marks m kind
front_marks kinds.Null count m rest (c, e) = let at = same_byte m _ rest _ e in (omega (arith, at), omega (arith, at))
front_marks kinds.False count m rest (c, e) = let at = same_byte m _ rest _ e in (omega (arith, at), omega (arith, at))
front_marks kinds.True count m rest (c, e) = let at = same_byte m _ rest _ e in (omega (arith, at), omega (arith, at))
front_marks kinds.Int count m rest (w, w4, c, e) = let at = same_byte m _ rest _ e in (omega (arith, at), omega (arith, at, w4))
front_marks kinds.Real count m rest (w, w2, w3, c, e) = let at = same_byte m _ rest _ e in (omega (arith, at, w2), omega (arith, at, w3))
front_marks kinds.Date count m rest (c, e) = let at = same_byte m _ rest _ e in (omega (arith, at), omega (arith, at))
front_marks kinds.Uid count m rest (n, few, c, e) = let at = same_byte m _ rest _ e in (omega (arith, at), omega (arith, at, few))
front_marks kinds.Bytes count m rest i = count_marks 4 count m rest i
front_marks kinds.Ascii count m rest i = count_marks 5 count m rest i
front_marks kinds.Wide count m rest i = count_marks 6 count m rest i
front_marks kinds.Array count m rest i = count_marks 10 count m rest i
front_marks kinds.Set count m rest i = count_marks 12 count m rest i
front_marks kinds.Dict count m rest i = count_marks 13 count m rest i

pub marker_marks : (m : ℕ) → IsMarker m → (kind : Kind) × Marks m kind
marker_marks m (kind, count, rest, i) = (kind, front_marks kind count m rest i)

-- each marker gives some count
alone : {m n : ℕ} → m ≡ n → m ∷ [] ≡ n ∷ []
alone e = ap (λ x. x ∷ []) e

counts_marker : (high m : ℕ) → (16 * high ≤ m) × (m ≤ 16 * high + 15) → (count : ℕ) × (rest : List ℕ) × IsCount high count (m ∷ rest)
unfolding num
counts_marker high m (low, most) = elim (cases_eq m (16 * high + 15)) [
  | inl e ↦ (0, 16 ∷ 0 ∷ [], inr (0, 0 ∷ [], omega arith, refl, refl, ap (λ x. x ∷ 16 ∷ 0 ∷ []) e))
  | inr ne ↦ (m - 16 * high, [], inl (omega (arith, low, most, ne), alone (omega (arith, low))))
]

pub marks_marker : (m : ℕ) (kind : Kind) → Marks m kind → IsMarker m
marks_marker m kinds.Null (low, high) = (kinds.Null, 0, [], (refl, alone (omega arith)))
marks_marker m kinds.False (low, high) = (kinds.False, 0, [], (refl, alone (omega arith)))
marks_marker m kinds.True (low, high) = (kinds.True, 0, [], (refl, alone (omega arith)))
marks_marker m kinds.Int (low, high) = (kinds.Int, 2 ^ (m - 16), [], (m - 16, omega arith, refl, alone (omega arith)))
marks_marker m kinds.Real (low, high) = (kinds.Real, 2 ^ (m - 32), [], (m - 32, omega arith, omega arith, refl, alone (omega arith)))
marks_marker m kinds.Date (low, high) = (kinds.Date, 8, [], (refl, alone (omega arith)))
marks_marker m kinds.Uid (low, high) = (kinds.Uid, m - 128 + 1, [], (m - 128, omega arith, refl, alone (omega arith)))
marks_marker m kinds.Bytes marks = let c = counts_marker 4 m marks in (kinds.Bytes, c.0, c.1, c.2)
marks_marker m kinds.Ascii marks = let c = counts_marker 5 m marks in (kinds.Ascii, c.0, c.1, c.2)
marks_marker m kinds.Wide marks = let c = counts_marker 6 m marks in (kinds.Wide, c.0, c.1, c.2)
marks_marker m kinds.Array marks = let c = counts_marker 10 m marks in (kinds.Array, c.0, c.1, c.2)
marks_marker m kinds.Set marks = let c = counts_marker 12 m marks in (kinds.Set, c.0, c.1, c.2)
marks_marker m kinds.Dict marks = let c = counts_marker 13 m marks in (kinds.Dict, c.0, c.1, c.2)

-- a marker whose count follows may give any count
any_count : (high count : ℕ) → IsCount high count ((16 * high + 15) ∷ 16 ∷ count ∷ [])
unfolding num
any_count high count = inr (0, count ∷ [], omega arith, refl, omega arith, refl)

-- a kind may have each count that its markers give
pub may_count : (kind : Kind) (count : ℕ) → MarkersCount (markers_of kind) count → MayCount kind count
may_count kinds.Null count (m, low, high, c) = (0 ∷ [], (c, refl))
may_count kinds.False count (m, low, high, c) = (8 ∷ [], (c, refl))
may_count kinds.True count (m, low, high, c) = (9 ∷ [], (c, refl))
may_count kinds.Int count (m, low, high, c) = (_, (m - 16, omega arith, c, refl))
may_count kinds.Real count (m, low, high, c) = (_, (m - 32, omega arith, omega arith, c, refl))
may_count kinds.Date count (m, low, high, c) = (51 ∷ [], (c, refl))
may_count kinds.Uid count (m, low, high, c) = (_, (m - 128, omega arith, omega arith, refl))
may_count kinds.Bytes count u = (_, any_count 4 count)
may_count kinds.Ascii count u = (_, any_count 5 count)
may_count kinds.Wide count u = (_, any_count 6 count)
may_count kinds.Array count u = (_, any_count 10 count)
may_count kinds.Set count u = (_, any_count 12 count)
may_count kinds.Dict count u = (_, any_count 13 count)

-- and any count, if they can say that the count follows
pub may_count_long : (kind : Kind) (count : ℕ) → is_counted (markers_of kind) ≡ true → MayCount kind count
may_count_long kind count e = may_count kind count (go (markers_of kind) e)
  where
    go : (form : Markers) → is_counted form ≡ true → MarkersCount form count
    go (plain low high says) e = absurd (cc e)
    go (counted high) e = tt

-- a UID has 1 to 16 bytes
pub uid_count : (kind : Kind) (count : ℕ) → kind ≡ kinds.Uid → MayCount kind count → (1 ≤ count) × (count ≤ 16)
uid_count kind count e may = let m = subst (λ k. MayCount k count) e may in (omega (arith, m.1.2), omega (arith, m.1.1, m.1.2))

-- a marker that says that its count follows is a marker
pub long_marks : (m : ℕ) (form : Markers) → IsLongOf form m → (least_marker form ≤ m) × (m ≤ greatest_marker form)
long_marks m (plain low high says) l = absurd l
long_marks m (counted high) l = (omega arith, omega arith)

module _ (f : List ℕ) (p : ℕ) where
  abbrev m : ℕ
  m = slice_index f p

  abbrev next : ℕ
  next = slice_index f (p + 1)

  -- what a marker announces is of the marker's form
  pub announced_marks : (form : Markers) (count body : ℕ) → AnnouncesAs f p form count body → (least_marker form ≤ m) × (m ≤ greatest_marker form)
  announced_marks (plain low high says) count body a = (a.0, a.1)
  announced_marks (counted high) count body (inl a) = (omega arith, omega arith)
  announced_marks (counted high) count body (inr a) = (omega arith, omega arith)

  -- what a long marker announces has its count after the marker
  pub long-Announces : (kind : Kind) (count body : ℕ) → IsLong m → Announces f p kind count body → HasLongCount f p count body
  long-Announces kind count body (other, l) a =
      let same : other ≡ kind = same_Some other kind (sym (kind_marked m other (long_marks m (markers_of other) l)) ∙ kind_marked m kind (announced_marks (markers_of kind) count body a)) in
      go (markers_of kind) (subst (λ k. IsLongOf (markers_of k) m) same l) a
    where
      go : (form : Markers) → IsLongOf form m → AnnouncesAs f p form count body → HasLongCount f p count body
      go (plain low high says) l a = absurd l
      go (counted high) l (inl a) = absurd (omega arith)
      go (counted high) l (inr a) = a.1

  -- ---- count and body
  if_true : {X : Type 0} {t : Bool} {x z : X} (y : X) → t ≡ true → x ≡ z → (if t then x else y) ≡ z
  if_true {x = x} y e same = ap (λ t. if t then x else y) e ∙ same

  if_false : {X : Type 0} {t : Bool} {y z : X} (x : X) → t ≡ false → y ≡ z → (if t then x else y) ≡ z
  if_false {y = y} x e same = ap (λ t. if t then x else y) e ∙ same

  -- a count after the marker is found
  long_is_found : (count body : ℕ) → HasLongCount f p count body → long_found f p ≡ Some (count, body)
  long_is_found count body (w, w4, form, c, b) =
      let t : (nat_le 16 next && nat_le next 20) ≡ true = grind (arith, nat_tests) in
      let same : next - 16 ≡ w = omega (arith, form) in
      if_true _ t (ap₂ (λ x y. Some (x, y)) (ap (λ x. num_at f (p + 2) (2 ^ x)) same ∙ sym c) (ap (λ x. p + 2 + 2 ^ x) same ∙ sym b))

  -- what is announced is found
  announced_found : (form : Markers) (count body : ℕ) → AnnouncesAs f p form count body → count_found f p form ≡ Some (count, body)
  announced_found (plain low high says) count body (l, h, c, b) = ap₂ (λ x y. Some (x, y)) (sym c) (sym b)
  announced_found (counted high) count body (inl (low, at, b)) =
      let u : nat_eq m (16 * high + 15) ≡ false = grind (arith, nat_tests) in
      if_false _ u (ap₂ (λ x y. Some (x, y)) (omega (arith, at)) (sym b))
  announced_found (counted high) count body (inr (at, long)) =
      let u : nat_eq m (16 * high + 15) ≡ true = grind (arith, nat_tests) in
      if_true _ u (long_is_found count body long)

  -- what is found is announced
  pub found_announced : (form : Markers) → (least_marker form ≤ m) × (m ≤ greatest_marker form) → (x : ℕ × ℕ) → count_found f p form ≡ Some x → AnnouncesAs f p form x.0 x.1
  found_announced (plain low high says) marks x e =
      let r = same_Some (says m, p + 1) x e in
      (marks.0, marks.1, sym (ap (λ y. y.0) r), sym (ap (λ y. y.1) r))
  found_announced (counted high) marks x e = go (nat_eq m (16 * high + 15)) refl e
    where
      go : (u : Bool) → nat_eq m (16 * high + 15) ≡ u → (if u then long_found f p else Some (m - 16 * high, p + 1)) ≡ Some x → AnnouncesAs f p (counted high) x.0 x.1
      go false v e =
          let apart : m ≡ 16 * high + 15 → ⊥ = λ h. grind (arith, nat_tests) in
          let below : m < 16 * high + 15 = omega (arith, marks, apart) in
          let r = same_Some (m - 16 * high, p + 1) x e in
          inl (omega (arith, marks, below, ap (λ y. y.0) r), omega (arith, marks, below, ap (λ y. y.0) r), sym (ap (λ y. y.1) r))
      go true v e =
          let r = if_some (nat_le 16 next && nat_le next 20) (num_at f (p + 2) (2 ^ (next - 16)), p + 2 + 2 ^ (next - 16)) x e in
          let t = r.0 in
          let at : m ≡ 16 * high + 15 = grind (arith, nat_tests) in
          let b : (16 ≤ next) × (next ≤ 20) = grind (arith, nat_tests) in
          inr (at, (next - 16, omega (arith, b), omega (arith, b), sym (ap (λ y. y.0) r.1), sym (ap (λ y. y.1) r.1)))

-- ---- the head
module _ (f : List ℕ) (F : Frame) (n : ℕ) where
  abbrev o : ℕ
  o = off f F n

  -- marker and count announce the parts of this head
  abbrev pub HasParts : Head → Type 0
  HasParts head = Announces f o head.kind head.count head.body × (head.«end» ≡ head.body + head.count * item_size F.ref_size head.kind)

  -- a head of the file has its parts, and if a front of them is in the file, the head is there
  pub head_parts : (head : Head) → HasHead f F n head → HasParts head
  head_parts head h = (announced f o head.kind head.count head.body (h.front, h.stands, h.announces, h.body), h.ends)

  pub head_announced : (head : Head) → head.body ≤ length f → HasParts head → HasHead f F n head
  head_announced head within h =
      let (front, stands, is, b) = fronted f o head.kind head.count head.body within h.0 in
      record { front = front; announces = is; stands = stands; body = b; ends = h.1 }

  -- what is found has its parts
  found_parts : (head : Head) → head_found f F n ≡ Some head → HasParts head
  unfolding head_found
  found_parts head e = go (kind_at (slice_index f o)) refl e
    where
      of_kind : (kind : Kind) → Marks (slice_index f o) kind → (found : Option (ℕ × ℕ)) → count_found f o (markers_of kind) ≡ found → option_map (head_with f F kind) found ≡ Some head → HasParts head
      of_kind kind marks None s r = absurd (cc r)
      of_kind kind marks (Some x) s r = subst HasParts (same_Some _ head r) (found_announced f o (markers_of kind) marks x s, refl)

      go : (found : Option Kind) → kind_at (slice_index f o) ≡ found → option_and_then (λ kind. option_map (head_with f F kind) (count_found f o (markers_of kind))) found ≡ Some head → HasParts head
      go None s r = absurd (cc r)
      go (Some kind) s r = of_kind kind (marked_kind (slice_index f o) kind s) (count_found f o (markers_of kind)) refl r

  -- a head with these parts is found
  parts_found : (head : Head) → HasParts head → head_found f F n ≡ Some head
  unfolding head_found
  parts_found head h =
      let kind = kind_marked (slice_index f o) head.kind (announced_marks f o (markers_of head.kind) head.count head.body h.0) in
      ap (option_and_then (λ kind. option_map (head_with f F kind) (count_found f o (markers_of kind)))) kind
      ∙ ap (option_map (head_with f F head.kind)) (announced_found f o (markers_of head.kind) head.count head.body h.0)
      ∙ ap (λ x. Some (record { kind = head.kind; count = head.count; body = head.body; «end» = x })) (sym h.1)

  -- the head of an object is found, and what is found is its head if its body begins in the file
  pub head_is_found : (head : Head) → HasHead f F n head → head_found f F n ≡ Some head
  head_is_found head h = parts_found head (head_parts head h)

  pub found_head : (head : Head) → head.body ≤ length f → head_found f F n ≡ Some head → HasHead f F n head
  found_head head within e = head_announced head within (found_parts head e)

  -- its body begins in the file
  pub head_within : (head : Head) → HasHead f F n head → head.body ≤ length f
  head_within head h =
      let short = announced_short f o (markers_of head.kind) head.count head.body (head_parts head h).0 in
      let few = length-take (length h.front) (drop o f) in
      omega (arith, short.0, few, ap length h.stands, length-drop o f, h.body)
