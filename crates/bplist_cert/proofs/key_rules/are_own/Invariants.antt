use Rattle.std.proofs.Common.{◌≡◌, ◌≢◌, ℕ, ◌<◌, ◌≤◌, ◌-◌, nat_lt, true, count_by, take, length, slice_index, slice_index_or, false}
use Rattle.bplist_cert.proofs.key_rules.are_own.Given as goal

-- the classes so far are counted, they are different, and each of them was seen
abbrev pub invariant-loop-m : goal.invariant-loop-m
invariant-loop-m l = record {
  counted : count_by (nat_lt 0) (take l.m l.numbers) ≡ l.count;
  few : l.count ≤ l.m;
  own : (a b : ℕ) → a < b → b < l.m → 0 < slice_index l.numbers a → slice_index l.numbers a ≢ slice_index l.numbers b;
  seen : (k : ℕ) → k < l.m → 0 < slice_index l.numbers k → slice_index_or l.seen.items (slice_index l.numbers k - 1) false ≡ true;
  room : length l.seen.items ≡ l.classes.greatest;
}
