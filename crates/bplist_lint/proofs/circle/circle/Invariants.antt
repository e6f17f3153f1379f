use Rattle.std.proofs.Common.{◌≡◌, ◌+◌, ◌<◌, ◌≤◌, ℕ, IsTrue, not, count_by}
use Rattle.bplist_keys.specs.Marks.{IsMarked}
use Rattle.bplist_lint.specs.Graph.{AreWhole, Reaches}
use Rattle.bplist_lint.specs.Trail.{IsTrail, Leading, trail_bytes}
use Rattle.bplist_lint.proofs.circle.circle.Given as goal

abbrev pub invariant-walk : goal.invariant-walk
invariant-walk g l =
    let graph = g.R.References.graph l.fn.graph in
    record {
      same : g.R.References.graph l.graph ≡ graph;
      reads : g.R.References.means l.graph ≡ g.R.References.means l.fn.graph;
      inside : l.x < graph.size;
      placed : IsTrail graph.size l.met.items l.trail.items;
      leading : IsTrue (g.R.References.means l.fn.graph).honest → AreWhole graph l.fn.top → Leading graph.refs l.top l.trail.items l.x;
      asked : IsTrue (g.R.References.means l.fn.graph).honest → AreWhole graph l.fn.top
          → ((n : ℕ) → IsMarked l.met.items n → Reaches graph.refs l.fn.top n)
          × (g.R.References.asked l.graph ≤ g.R.References.asked l.fn.graph + trail_bytes graph l.met.items);
    }

abbrev pub decreases-walk : goal.decreases-walk
decreases-walk g l = count_by not l.met.items
