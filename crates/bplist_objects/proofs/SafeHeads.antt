-- A head that can be read under a frame can be read without it.
use Rattle.std.proofs.Common.{ℕ, ◌≤◌, arith}
use Rattle.std.proofs.Math.Nat.{mul-le-mul_left}
use Rattle.bplist_objects.specs.declared.frame.Frame.{Frame}
use Rattle.bplist_objects.specs.declared.head.Head.{Head}
use Rattle.bplist_objects.specs.declared.head.Kind.{Kind}
use Rattle.bplist_objects.specs.declared.head.Kind.TheVariants as kinds
use Rattle.bplist_objects.specs.Announced.{item_size}
use Rattle.bplist_objects.specs.Safe.{IsSafe, IsSafeHead, IsSafeBody}

-- a wider reference takes no fewer bytes
item_size-grows : (r : ℕ) (kind : Kind) → 1 ≤ r → item_size 1 kind ≤ item_size r kind
item_size-grows r kinds.Array h = h
item_size-grows r kinds.Set h = h
item_size-grows r kinds.Dict h = omega arith
item_size-grows r _ h = omega arith

pub safe_body : (len : ℕ) (frame : Frame) (head : Head) → IsSafe len frame → IsSafeHead frame head → IsSafeBody len head
safe_body len frame head safe h =
    let narrow = mul-le-mul_left head.count (item_size-grows frame.ref_size head.kind safe.ref_low) in
    record { may = h.may; body = omega (arith, narrow); within = omega arith }
