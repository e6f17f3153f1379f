use Rattle.std.proofs.Common.{◌≡◌, ℕ, ◌<◌, map, take, slice_index}
use Rattle.bplist_lint.specs.Graph.{greatest}
use Rattle.bplist_lint.proofs.containers.greatest_height.Given as goal

abbrev pub invariant-loop-m : goal.invariant-loop-m
invariant-loop-m l = record {
  each : (k : ℕ) → k < l.m-index → 0 < slice_index l.heights (slice_index l.numbers k);
  best : l.best ≡ greatest (map (λ m. slice_index l.heights m) (take l.m-index l.numbers));
}
