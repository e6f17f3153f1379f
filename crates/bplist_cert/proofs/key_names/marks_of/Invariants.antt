use Rattle.std.proofs.Common.{◌≡◌, ◌↔◌, ℕ, ◌<◌, length, slice_index}
use Rattle.bplist_keys.specs.Marks.{IsMarked}
use Rattle.bplist_cert.proofs.key_names.marks_of.Given as goal

-- there is a mark for each object, and so far it is set if the object has a stamp
abbrev pub invariant-loop-m : goal.invariant-loop-m
invariant-loop-m l = record {
  all : length l.marks.items ≡ length l.last;
  marked : (k : ℕ) → k < l.m → IsMarked l.marks.items k ↔ (0 < slice_index l.last k);
}
