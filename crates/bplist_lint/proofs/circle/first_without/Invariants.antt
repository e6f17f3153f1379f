use Rattle.std.proofs.Common.{◌≡◌, ◌^◌, ◌*◌, ◌+◌, ◌-◌, ◌≤◌, cond, true, false, length, IsTrue}
use Rattle.bplist_lint.specs.Graph.{IsWhole}
use Rattle.bplist_lint.specs.Trail.{AllHave}
use Rattle.bplist_lint.proofs.circle.first_without.Given as goal

abbrev pub invariant-loop-more : goal.invariant-loop-more
invariant-loop-more g l = record {
  same : g.R.References.graph l.graph ≡ g.R.References.graph l.fn.graph;
  reads : g.R.References.means l.graph ≡ g.R.References.means l.fn.graph;
  counted : g.R.References.asked l.graph ≤ g.R.References.asked l.fn.graph + 36 + l.done * (3 + (g.R.References.graph l.fn.graph).width);
  counted_more : l.more ≡ true → g.R.References.asked l.graph ≤ g.R.References.asked l.fn.graph + l.done * (3 + (g.R.References.graph l.fn.graph).width);
  room : length l.block ≡ 32;
  have : IsTrue (g.R.References.means l.fn.graph).honest → IsWhole (g.R.References.graph l.fn.graph) l.n
      → (l.done ≤ length ((g.R.References.graph l.fn.graph).refs l.n))
      × AllHave l.heights ((g.R.References.graph l.fn.graph).refs l.n) l.done
      × (l.more ≡ false → length ((g.R.References.graph l.fn.graph).refs l.n) ≤ l.done);
}

abbrev pub decreases-loop-more : goal.decreases-loop-more
decreases-loop-more g l = 2 * (2 ^ 64 - l.done) + cond l.more 1 0
