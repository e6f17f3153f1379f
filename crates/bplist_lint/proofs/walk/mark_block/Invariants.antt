use Rattle.std.proofs.Common.{ℕ, ◌<◌, get_or}
use Rattle.bplist_lint.specs.ReachWalk.{IsSteady, NotedIn, Worked}
use Rattle.bplist_lint.proofs.walk.mark_block.Given as goal

abbrev pub invariant-loop-number : goal.invariant-loop-number
invariant-loop-number l = record {
  steady : IsSteady l.frame.objects l.worklist;
  worked : Worked l.fn.worklist l.worklist;
  below : (k : ℕ) → k < l.number-index → get_or l.numbers k 0 < l.frame.objects;
  noted : NotedIn l.numbers l.number-index l.fn.worklist l.worklist;
}
