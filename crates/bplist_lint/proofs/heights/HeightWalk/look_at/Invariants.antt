use Rattle.std.proofs.Common.{◌≡◌, ℕ, ◌<◌, ◌≤◌, map, take, slice_index}
use Rattle.bplist_lint.specs.Graph.{greatest}
use Rattle.bplist_lint.specs.HeightWalks.{state_at}
use Rattle.bplist_lint.specs.declared.heights.State.TheVariants.{Founded}
use Rattle.bplist_lint.proofs.heights.HeightWalk.look_at.Given as goal

abbrev pub invariant-loop-k : goal.invariant-loop-k
invariant-loop-k l = record {
  low : (bound : ℕ) → ((n : ℕ) → state_at l.self.states.items n ≡ Founded → slice_index l.self.heights.items n ≤ bound) → l.best ≤ bound;
  founded : (k : ℕ) → k < l.k → state_at l.self.states.items (slice_index l.objects k) ≡ Founded;
  best : l.best ≡ greatest (map (λ m. slice_index l.self.heights.items m) (take l.k l.objects));
}
