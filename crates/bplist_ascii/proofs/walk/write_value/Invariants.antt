use Rattle.std.proofs.Common.{IsTrue}
use Rattle.bplist_objects.specs.Value.{Value}
use Rattle.bplist_cursor.specs.Found.{IsHeld}
use Rattle.bplist_cursor.specs.OldStyle.{IsFormed, plain}
use Rattle.bplist_ascii.specs.BoundedWrites.{AddsSome}
use Rattle.bplist_ascii.specs.Walks.{AreSafe, GoesOn}
use Rattle.bplist_cursor.specs.Kept.{IsSameFile}
use Rattle.bplist_ascii.proofs.walk.write_value.Given as goal

-- the file is unchanged and some bytes were put in; over an honest source they are a first part of the text, and the
-- stack still has to write the rest
abbrev pub invariant-loop-opened : goal.invariant-loop-opened
invariant-loop-opened g l = record {
  same : IsSameFile l.fn.checked l.checked;
  heads : AreSafe l.fn.checked.frame l.walk.stack.items;
  some : AddsSome (g.W.Write.contents l.fn.out) (g.W.Write.contents l.out) l.fn.sink l.sink l.fn.walk.room l.walk.room;
  printing : IsTrue l.fn.checked.source.honest → (v : Value) → IsHeld l.fn.checked l.fn.node.object.0 v → IsFormed v
      → GoesOn l.fn.checked (g.W.Write.contents l.fn.out) (g.W.Write.contents l.out) l.fn.sink l.sink l.fn.walk.room l.walk.room l.walk.stack.items (plain v);
}

abbrev pub decreases-loop-opened : goal.decreases-loop-opened
decreases-loop-opened g l = l.walk.room
