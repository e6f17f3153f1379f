-- The bounds that safe frames and heads give: places of references, counts, and numbers of references.
use Rattle.std.proofs.Common.{◌≡◌, ℕ, ◌<◌, ◌≤◌, ◌+◌, ◌*◌, ◌^◌, List, length, ap, ◌∙◌, arith}
use Rattle.std.proofs.Math.Nat.{mul-le-mul_left, mul-le-mul_right, mul_assoc, mul_comm}
use Rattle.bplist_objects.specs.declared.frame.Frame.{Frame}
use Rattle.bplist_objects.specs.declared.head.Kind.{Kind}
use Rattle.bplist_objects.specs.declared.head.Kind.TheVariants as kinds
use Rattle.bplist_objects.specs.declared.head.Head.{Head}
use Rattle.bplist_objects.specs.Frame.{IsFrame}
use Rattle.bplist_objects.specs.Announced.{item_size}
use Rattle.bplist_objects.specs.Heads.{HasShape}
use Rattle.bplist_objects.specs.Safe.{ref_count, IsSafe, IsSafeFrame, IsSafeHead}
use Rattle.bplist_objects.proofs.BodyLaws.{refs_fit}
use Rattle.bplist_objects.proofs.FrameTies.{numbered}
use Rattle.bplist_objects.proofs.ShapeLaws.{item_size-pos}

-- a frame is safe
pub frame_safe : (f : List ℕ) (F : Frame) → IsFrame f F → IsSafeFrame (length f) F
frame_safe f F frame =
    let n = numbered frame in
    record {
      safe = record {
        offset_low = n.offset_size.0;
        offset_high = n.offset_size.1;
        ref_low = n.ref_size.0;
        ref_high = n.ref_size.1;
        room = omega (arith, n.whole);
      };
      top = n.top;
      table = n.table_early;
      small = omega (arith, n.table_late, n.large);
    }

-- the head of an object is safe
pub shape_safe : (f : List ℕ) (F : Frame) (n : ℕ) (head : Head) → HasShape f F n head → IsSafeHead F head
shape_safe f F n head h =
    record { may = (h.has.front, h.has.announces); body = omega (arith, h.has.ends); table = h.inside }

module _ (F : Frame) (head : Head) (safe : IsSafeHead F head) (low : 1 ≤ F.ref_size) where
  -- a body has no more items than bytes before the table
  pub count_fits : head.body + head.count ≤ F.table
  count_fits =
      let one : head.count * 1 ≤ head.count * item_size F.ref_size head.kind = mul-le-mul_left head.count (item_size-pos F.ref_size head.kind low) in
      omega (arith, one, safe.body, safe.table)

  -- nor more references
  pub refs_below : head.body + ref_count head.kind head.count ≤ F.table
  refs_below = omega (arith, (refs_fit F.ref_size head.count head.kind low).1, safe.body, safe.table)

-- references are in the body
refs_inside : (r count : ℕ) (kind : Kind) → ref_count kind count * r ≤ count * item_size r kind
refs_inside r c kinds.Array = omega arith
refs_inside r c kinds.Set = omega arith
refs_inside r c kinds.Dict = let turned : (2 * c) * r ≡ c * (2 * r) = ap (λ x. x * r) (mul_comm 2 c) ∙ mul_assoc c 2 r in omega (arith, turned)
refs_inside r c _ = omega arith

-- a reference is before the table
pub place_fits : (F : Frame) (head : Head) → IsSafeHead F head → (i : ℕ) → i < ref_count head.kind head.count → head.body + (i + 1) * F.ref_size ≤ F.table
place_fits F head safe i l =
    let below : (i + 1) * F.ref_size ≤ ref_count head.kind head.count * F.ref_size = mul-le-mul_right F.ref_size (omega (arith, l)) in
    omega (arith, below, refs_inside F.ref_size head.count head.kind, safe.body, safe.table)

-- over a source of fewer than 2^64 bytes there are fewer references than that, and as few items
pub refs_within : (len : ℕ) (F : Frame) (head : Head) → IsSafe len F → len < 2 ^ 64 → IsSafeHead F head → (ref_count head.kind head.count < 2 ^ 64) × (head.count < 2 ^ 64)
refs_within len F head frame short safe =
    let r = refs_below F head safe frame.ref_low in
    let c = count_fits F head safe frame.ref_low in
    let t = frame.room in
    (omega (arith, r, t, short), omega (arith, c, t, short))
