use Rattle.std.proofs.Common.{◌≡◌, ◌≢◌, ◌⊎◌, ℕ, ◌<◌, IsTrue, length, slice_index, Contains}
use Rattle.bplist_cert.proofs.key_names.stamp_all.Given as goal

-- the objects so far have this stamp, and others the one that they had; `apart` says whether the numbers so far are
-- those of different objects, which had another stamp
abbrev pub invariant-loop-m : goal.invariant-loop-m
invariant-loop-m l = record {
  all : length l.last ≡ length l.fn.last;
  stamped : (k : ℕ) → k < l.m-index → slice_index l.numbers k < length l.fn.last → slice_index l.last (slice_index l.numbers k) ≡ l.stamp;
  only : (x : ℕ) → (slice_index l.last x ≡ slice_index l.fn.last x) ⊎ ((slice_index l.last x ≡ l.stamp) × Contains l.numbers x);
  new : IsTrue l.apart → (k : ℕ) → k < l.m-index → (slice_index l.numbers k < length l.fn.last) × (slice_index l.fn.last (slice_index l.numbers k) ≢ l.stamp);
  apart : IsTrue l.apart → (j k : ℕ) → j < k → k < l.m-index → slice_index l.numbers j ≢ slice_index l.numbers k;
}
