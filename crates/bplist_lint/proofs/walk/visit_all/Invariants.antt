use Rattle.std.proofs.Common.{◌≡◌, ◌+◌, ◌*◌, ◌≤◌, not, [], count_by, vec_len}
use Rattle.bplist_objects.specs.Framed.{frame_in, HonestlyIn}
use Rattle.bplist_lint.specs.ReachWalk.{IsSteadyWalk, IsWalking, NamesMarked}
use Rattle.bplist_lint.proofs.walk.visit_all.Given as goal

abbrev pub invariant-loop-n : goal.invariant-loop-n
invariant-loop-n g l =
    let means = g.P.Source.means in
    record {
      reads : means l.src ≡ means l.fn.src;
      asked : g.P.Source.asked l.src ≤ g.P.Source.asked l.fn.src + l.progress.tally.used.octets + 36 * l.progress.tally.reached;
      once : l.progress.tally.reached + (count_by not l.progress.worklist.marks.items + vec_len l.progress.worklist.stack)
          ≤ l.n + (frame_in (means l.fn.src)).objects;
      only : NamesMarked l.progress.worklist.marks.items l.progress.named.marks.items;
      steady : IsSteadyWalk (frame_in (means l.fn.src)) l.progress;
      empty : vec_len l.progress.worklist.stack ≡ 0;
      walking : HonestlyIn (means l.fn.src) (λ f F. IsWalking f F l.n [] l.progress);
    }
