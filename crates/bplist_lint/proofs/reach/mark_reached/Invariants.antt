use Rattle.std.proofs.Common.{◌≡◌, ◌+◌, ◌*◌, ◌≤◌, not, count_by, vec_len}
use Rattle.bplist_objects.specs.Framed.{frame_in, HonestlyIn}
use Rattle.bplist_lint.specs.BitSets.{count_in}
use Rattle.bplist_lint.specs.ReachSearch.{IsReady, Searching, index_count}
use Rattle.bplist_lint.proofs.reach.mark_reached.Given as goal

abbrev pub invariant-loop-n : goal.invariant-loop-n
invariant-loop-n g l =
    let means = g.P.Source.means in
    record {
      reads : means l.src ≡ means l.fn.src;
      asked : g.P.Source.asked l.src + 52 * (count_by not l.search.marks.items + vec_len l.search.stack)
          ≤ g.P.Source.asked l.fn.src + (52 * (frame_in (means l.fn.src)).objects
          + 8 * (count_in l.search.good.words.items (index_count (frame_in (means l.fn.src))) + count_in l.search.followed.words.items (index_count (frame_in (means l.fn.src)))));
      ready : IsReady (frame_in (means l.fn.src)) l.search;
      searching : HonestlyIn (means l.fn.src) (λ f F. Searching f F l.search.stack.items l.search);
    }

abbrev pub decreases-loop-n : goal.decreases-loop-n
decreases-loop-n g l = count_by not l.search.marks.items + vec_len l.search.stack
