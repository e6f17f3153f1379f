use Rattle.std.proofs.Common.{◌≡◌, ◌+◌, ◌≤◌, Bool, List, IsTrue}
use Rattle.bplist_keys.specs.Marks.{IsMarked}
use Rattle.bplist_lint.specs.HeightWalks.{Standing, Settles, Walks, IsHeightWalk, AreClosed, left_of}
use Rattle.bplist_lint.proofs.HeightSteps.{work}
use Rattle.bplist_lint.proofs.heights.HeightWalk.settle_from.Given as goal

abbrev pub invariant-loop-m : goal.invariant-loop-m
invariant-loop-m g l =
    let graph = g.R.References.graph l.fn.graph in
    record {
      same : g.R.References.graph l.graph ≡ graph;
      reads : g.R.References.means l.graph ≡ g.R.References.means l.fn.graph;
      standing : Standing graph.size l.self.states.items l.self.heights.items l.self.stack.items;
      settles : Settles l.n l.fn.self l.self;
      walking : IsTrue (g.R.References.means l.fn.graph).honest → (marks : List Bool) → AreClosed graph marks → IsMarked marks l.n → Walks graph.refs marks l.fn.self
          → IsHeightWalk graph.refs marks l.self.states.items l.self.heights.items l.self.stack.items
          × (g.R.References.asked l.graph + left_of graph marks l.self.states.items l.self.heights.items
          ≤ g.R.References.asked l.fn.graph + left_of graph marks l.fn.self.states.items l.fn.self.heights.items);
    }

abbrev pub decreases-loop-m : goal.decreases-loop-m
decreases-loop-m g l = work l.self.states.items l.self.stack.items
