-- How the rules of marker and count are kept and broken.
use Rattle.std.proofs.Common.{◌≡◌, ℕ, ◌+◌, ◌*◌, ◌<◌, ◌≤◌, List, length, slice_index, Some, arith, refl, inl, inr, subst}
use Rattle.std.proofs.Math.Nat.{mul-le-mul_left}
use Rattle.bplist_objects.specs.declared.rule.Rule.TheVariants.{Extent}
use Rattle.bplist_objects.specs.declared.fault.Fault.{Fault}
use Rattle.bplist_objects.specs.declared.frame.Frame.{Frame}
use Rattle.bplist_objects.specs.declared.head.Head.{Head}
use Rattle.bplist_objects.specs.declared.head.Kind.{Kind}
use Rattle.bplist_objects.specs.declared.head.Kind.TheVariants as kinds
use Rattle.bplist_objects.specs.Rules.{KeepsAll}
use Rattle.bplist_objects.specs.Frame.{off}
use Rattle.bplist_objects.specs.Announced.{HasHead, IsMarker, item_size}
use Rattle.bplist_objects.specs.Markers.{Markers, plain, counted, markers_of, Marks, IsLongOf, IsIntMarker, HasLongCount, AnnouncesAs}
use Rattle.bplist_objects.specs.ObjectRules.{KeepsByObject, IsObjectFault, shape_rules}
use Rattle.bplist_objects.specs.CountFaults.{IsLongCountFault}
use Rattle.bplist_objects.specs.Answers.{GivesFault}
use Rattle.bplist_objects.specs.declared.fault.ObjectFault.{ObjectFault}
use Rattle.bplist_objects.specs.declared.fault.ObjectFault.TheVariants as errors
use Rattle.bplist_objects.proofs.HeadLaws.{long_marks, long-Announces, announced_marks, marks_marker, head_parts, head_announced}
use Rattle.bplist_objects.proofs.BodyLaws.{HasHead-unique}
use Rattle.bplist_objects.proofs.AnnouncedHeads.{announced_short}

-- a count after a long marker is announced
pub announced_behind : (f : List ℕ) (place : ℕ) (form : Markers) (count body : ℕ) → IsLongOf form (slice_index f place) → HasLongCount f place count body → AnnouncesAs f place form count body
announced_behind f place (plain low high says) count body l h = absurd l
announced_behind f place (counted high) count body l h = inr (l, h)

-- after a long marker whose count is announced there is an integer's marker
marker-HasLongCount : (f : List ℕ) (place count body : ℕ) → HasLongCount f place count body → IsIntMarker (slice_index f (place + 1))
marker-HasLongCount f place count body (w, h, form, c, b) = (omega arith, omega arith)

-- each kind takes at least one byte for each item of its count
pub item_size-pos : (ref_size : ℕ) (kind : Kind) → 1 ≤ ref_size → 1 ≤ item_size ref_size kind
item_size-pos r kinds.Array h = omega arith
item_size-pos r kinds.Set h = omega arith
item_size-pos r kinds.Dict h = omega arith
item_size-pos r _ h = omega arith

-- if there is no room for the count, there is none for the body
pub no_room : (table body count item_size : ℕ) → 1 ≤ item_size → table < body + count → table < body + count * item_size
no_room table body count item_size one l =
    let more : count * 1 ≤ count * item_size = mul-le-mul_left count one in omega arith

module _ (f : List ℕ) (F : Frame) (n : ℕ) (far : 8 ≤ off f F n) where
  abbrev o : ℕ
  o = off f F n

  module _ (head : Head) (h : HasHead f F n head) where
    marker_kept : IsMarker (slice_index f o)
    marker_kept = marks_marker (slice_index f o) head.kind (announced_marks f o (markers_of head.kind) head.count head.body (head_parts f F n head h).0)

    head_there : (x : Head) × HasHead f F n x
    head_there = (head, h)

    -- the announced head ends before the table
    pub shape_kept : head.«end» ≤ F.table → KeepsAll (KeepsByObject f F n) shape_rules
    shape_kept l = (far, (marker_kept, ((λ m k. head_there), ((λ m k. (head, h, l)), tt))))

    -- the announced head does not end before the table
    pub shape_extent : F.table < head.«end» → (fault : Fault) → fault.rule ≡ Extent → fault.object ≡ Some (record { 0 = n }) → fault.place ≡ o → IsObjectFault f F n shape_rules fault
    shape_extent l fault rule object place = inr (far, inr (marker_kept, inr ((λ m k. head_there), inl (rule, (object, (late, place))))))
      where
        late : KeepsByObject f F n Extent → ⊥
        late k =
            let e = k marker_kept (λ _. head_there) in
            let before : head.«end» ≤ F.table = subst (λ (x : Head). x.«end» ≤ F.table) (HasHead-unique f F n e.0 head e.1 h) e.2 in
            omega (arith, l, before)

  -- a head with a long marker has its count after the marker
  long_count : (kind : Kind) → IsLongOf (markers_of kind) (slice_index f o) → (head : Head) → HasHead f F n head → HasLongCount f o head.count head.body
  long_count kind l head h = long-Announces f o head.kind head.count head.body (kind, l) (head_parts f F n head h).0

  -- a fault of a long count is the first fault of the object
  pub shape_long : 1 ≤ F.ref_size → off f F n + 18 ≤ length f → (kind : Kind) → Marks (slice_index f o) kind → IsLongOf (markers_of kind) (slice_index f o) → (fault : Fault) → IsLongCountFault f F.table o n fault → IsObjectFault f F n shape_rules fault
  shape_long low room kind marks long fault (object, inl (rule, inside, wrong, place)) =
      inr (far, inr (marks_marker (slice_index f o) kind marks, inl (rule, (object, ((λ k. never (k (marks_marker (slice_index f o) kind marks) inside)), place)))))
    where
      never : (head : Head) × HasHead f F n head → ⊥
      never (head, h) = wrong (marker-HasLongCount f o head.count head.body (long_count kind long head h))
  shape_long low room kind marks long fault (object, inr (rule, place, inl late)) =
      inr (far, inr (marks_marker (slice_index f o) kind marks, inr (λ m l. absurd (omega arith), inl (rule, (object, (early, place))))))
    where
      early : KeepsByObject f F n Extent → ⊥
      early k =
          let e = k (marks_marker (slice_index f o) kind marks) (λ l. absurd (omega arith)) in
          let count = long_count kind long e.0 e.1 in
          omega (arith, late, e.2, (head_parts f F n e.0 e.1).1, count)
  shape_long low room kind marks long fault (object, inr (rule, place, inr (count, body, has, late))) =
      let head : Head = record { kind = kind; count = count; body = body; «end» = body + count * item_size F.ref_size kind } in
      shape_extent head (head_announced f F n head (omega (arith, room, (announced_short f o (markers_of kind) count body (announced_behind f o (markers_of kind) count body long has)).1)) (announced_behind f o (markers_of kind) count body long has, refl)) (no_room F.table body count (item_size F.ref_size kind) (item_size-pos F.ref_size kind low) late) fault rule object place

-- a fault of a long count that a call returns is the first fault of the object
pub shape_count : (f : List ℕ) (F : Frame) (n place : ℕ) (kind : Kind) (e : ObjectFault) → 1 ≤ F.ref_size → place + 18 ≤ length f → place ≡ off f F n → 8 ≤ place → IsLongOf (markers_of kind) (slice_index f place) → GivesFault (IsLongCountFault f F.table place n) e → GivesFault (IsObjectFault f F n shape_rules) e
shape_count f F n place kind (errors.Read _) low room at far long h = tt
shape_count f F n place kind (errors.Fault fault) low room at far long h =
    let here = subst (λ p. IsLongOf (markers_of kind) (slice_index f p)) at long in
    shape_long f F n (subst (λ p. 8 ≤ p) at far) low (subst (λ p. p + 18 ≤ length f) at room) kind (long_marks (slice_index f (off f F n)) (markers_of kind) here) here fault (subst (λ p. IsLongCountFault f F.table p n fault) at h)
