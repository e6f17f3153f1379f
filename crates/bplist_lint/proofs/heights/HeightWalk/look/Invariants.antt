use Rattle.std.proofs.Common.{◌≡◌, ℕ, ◌<◌, ◌≤◌, ◌+◌, ◌-◌, ◌*◌, ◌^◌, cond, true, false, IsTrue, length, map, take, slice_index}
use Rattle.bplist_lint.specs.Graph.{IsWhole, greatest}
use Rattle.bplist_lint.specs.HeightWalks.{state_at}
use Rattle.bplist_lint.specs.declared.heights.State.TheVariants.{Founded}
use Rattle.bplist_lint.proofs.heights.HeightWalk.look.Given as goal

abbrev pub invariant-loop-more : goal.invariant-loop-more
invariant-loop-more g l = record {
  same : g.R.References.graph l.graph ≡ g.R.References.graph l.fn.graph;
  reads : g.R.References.means l.graph ≡ g.R.References.means l.fn.graph;
  room : length l.buffer ≡ 32;
  behind : l.from ≤ l.done;
  counted : g.R.References.asked l.graph + 192
      ≤ g.R.References.asked l.fn.graph + 204 + 6 * l.portion + (l.done - l.from) * (3 + (g.R.References.graph l.fn.graph).width);
  counted_more : l.more ≡ true → g.R.References.asked l.graph + 192
      ≤ g.R.References.asked l.fn.graph + 168 + 6 * l.portion + (l.done - l.from) * (3 + (g.R.References.graph l.fn.graph).width);
  some : 4 ≤ l.portion;
  few : l.portion ≤ 32;
  low : (bound : ℕ) → ((n : ℕ) → state_at l.self.states.items n ≡ Founded → slice_index l.self.heights.items n ≤ bound) → l.best ≤ bound;
  looked : IsTrue (g.R.References.means l.fn.graph).honest → IsWhole (g.R.References.graph l.fn.graph) l.n → l.from ≡ 0
      → (l.done ≤ length ((g.R.References.graph l.fn.graph).refs l.n))
      × ((k : ℕ) → k < l.done → state_at l.self.states.items (slice_index ((g.R.References.graph l.fn.graph).refs l.n) k) ≡ Founded)
      × (l.best ≡ greatest (map (λ m. slice_index l.self.heights.items m) (take l.done ((g.R.References.graph l.fn.graph).refs l.n))))
      × (l.more ≡ false → length ((g.R.References.graph l.fn.graph).refs l.n) ≤ l.done);
  passed : IsTrue (g.R.References.means l.fn.graph).honest → IsWhole (g.R.References.graph l.fn.graph) l.n → l.from ≤ length ((g.R.References.graph l.fn.graph).refs l.n)
      → (l.done ≤ length ((g.R.References.graph l.fn.graph).refs l.n))
      × ((k : ℕ) → l.from ≤ k → k < l.done → state_at l.self.states.items (slice_index ((g.R.References.graph l.fn.graph).refs l.n) k) ≡ Founded)
      × (l.more ≡ false → length ((g.R.References.graph l.fn.graph).refs l.n) ≤ l.done);
}

abbrev pub decreases-loop-more : goal.decreases-loop-more
decreases-loop-more g l = 2 * (2 ^ 64 - l.done) + cond l.more 1 0
