use Rattle.std.proofs.Common.{◌≡◌, ◌+◌, ◌*◌, ◌≤◌, not, [], count_by, vec_len}
use Rattle.bplist_objects.specs.Framed.{frame_in, HonestlyIn}
use Rattle.bplist_keys.specs.Marks.{IsMarked}
use Rattle.bplist_lint.specs.ReachWalk.{IsSteadyWalk, IsWalking, NamesMarked}
use Rattle.bplist_lint.proofs.walk.visit_from.Given as goal

abbrev pub invariant-loop-m : goal.invariant-loop-m
invariant-loop-m g l =
    let means = g.P.Source.means in
    record {
      reads : means l.src ≡ means l.fn.src;
      asked : g.P.Source.asked l.src + l.fn.progress.tally.used.octets + 36 * l.fn.progress.tally.reached
          ≤ g.P.Source.asked l.fn.src + l.progress.tally.used.octets + 36 * l.progress.tally.reached;
      once : l.progress.tally.reached + (count_by not l.progress.worklist.marks.items + vec_len l.progress.worklist.stack)
          ≤ l.fn.progress.tally.reached + 1 + (count_by not l.fn.progress.worklist.marks.items + vec_len l.fn.progress.worklist.stack);
      only : NamesMarked l.fn.progress.worklist.marks.items l.fn.progress.named.marks.items → NamesMarked l.progress.worklist.marks.items l.progress.named.marks.items;
      steady : IsSteadyWalk (frame_in (means l.fn.src)) l.progress;
      current : l.progress.worklist.current ≡ l.n;
      walking : HonestlyIn (means l.fn.src) (λ f F. IsMarked l.fn.progress.worklist.marks.items l.n → IsWalking f F l.n [] l.fn.progress → IsWalking f F (l.n + 1) l.progress.worklist.stack.items l.progress);
    }

abbrev pub decreases-loop-m : goal.decreases-loop-m
decreases-loop-m g l = count_by not l.progress.worklist.marks.items + vec_len l.progress.worklist.stack
