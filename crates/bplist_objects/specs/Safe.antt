-- The frames and heads with which the parts of a file can be read over any source. Source: profile.
use Rattle.std.specs.Prelude.{ℕ, ◌+◌, ◌*◌, ◌^◌, ◌<◌, ◌≤◌}
use Rattle.bplist_objects.specs.declared.frame.Frame.{Frame}
use Rattle.bplist_objects.specs.declared.head.Head.{Head}
use Rattle.bplist_objects.specs.declared.head.Kind.{Kind}
use Rattle.bplist_objects.specs.declared.head.Kind.TheVariants as kinds
use Rattle.bplist_objects.specs.Announced.{MayCount, item_size}
use Rattle.bplist_objects.specs.Units.{IsTextKind}

-- a source of this length can be read with the frame: its sizes are 1 to 8, and its table is inside
pub record IsSafe (len : ℕ) (frame : Frame) : Type 0 where
  pub offset_low : 1 ≤ frame.offset_size
  pub offset_high : frame.offset_size ≤ 8
  pub ref_low : 1 ≤ frame.ref_size
  pub ref_high : frame.ref_size ≤ 8
  pub room : frame.table + frame.objects * frame.offset_size ≤ len

-- besides, the top is an object, there is room for an object before the table, and the table's place has 32 bits
pub record IsSafeFrame (len : ℕ) (frame : Frame) : Type 0 where
  pub safe : IsSafe len frame
  pub top : frame.top.0 < frame.objects
  pub table : 9 ≤ frame.table
  pub small : frame.table < 2 ^ 32

-- the number of references of an object with this kind and count
abbrev pub ref_count : Kind → ℕ → ℕ
ref_count kind count =
    elim kind [ kinds.Array ↦ count | kinds.Set ↦ count | kinds.Dict ↦ 2 * count | _ ↦ 0 ]

-- the parts of an object with this head are before the table
pub record IsSafeHead (frame : Frame) (head : Head) : Type 0 where
  pub may : MayCount head.kind head.count
  pub body : head.body + head.count * item_size frame.ref_size head.kind ≤ head.«end»
  pub table : head.«end» ≤ frame.table

-- the body of this head is inside a source of this length
pub record IsSafeBody (len : ℕ) (head : Head) : Type 0 where
  pub may : MayCount head.kind head.count
  pub body : head.body + head.count * item_size 1 head.kind ≤ head.«end»
  pub within : head.«end» ≤ len

-- a text whose body is inside a source of this length
pub record IsSafeText (len : ℕ) (head : Head) : Type 0 where
  pub kind : IsTextKind head.kind
  pub body : IsSafeBody len head
