use Rattle.std.proofs.Common.{◌≡◌, ◌≢◌, ◌+◌, ◌≤◌, ℕ, [], IsTrue, length, map}
use Rattle.std.specs.Int.{from_bool}
use Rattle.bplist_keys.specs.Marks.{IsMarked}
use Rattle.bplist_lint.specs.HeightWalks.{state_at, first_state, Rests, Walks, AreClosed, left_of}
use Rattle.bplist_lint.specs.declared.heights.State.TheVariants.{New}
use Rattle.bplist_lint.proofs.heights.least_heights.Given as goal

abbrev pub invariant-loop-n : goal.invariant-loop-n
invariant-loop-n g l =
    let graph = g.R.References.graph l.fn.graph in
    record {
      same : g.R.References.graph l.graph ≡ graph;
      reads : g.R.References.means l.graph ≡ g.R.References.means l.fn.graph;
      inside : l.before ≤ length l.marks;
      rests : Rests graph.size l.walk;
      sees : (m : ℕ) → l.before ≤ m → IsMarked l.marks m → state_at l.walk.states.items m ≢ New;
      walking : IsTrue (g.R.References.means l.fn.graph).honest → AreClosed graph l.marks → ((m : ℕ) → IsMarked l.childless m → IsMarked l.marks m × (graph.refs m ≡ []))
          → Walks graph.refs l.marks l.walk
          × (g.R.References.asked l.graph + left_of graph l.marks l.walk.states.items l.walk.heights.items
          ≤ g.R.References.asked l.fn.graph + left_of graph l.marks (map first_state l.childless) (map from_bool l.childless));
    }

abbrev pub decreases-loop-n : goal.decreases-loop-n
decreases-loop-n g l = l.before
