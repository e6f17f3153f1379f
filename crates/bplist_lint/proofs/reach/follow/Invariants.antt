use Rattle.std.proofs.Common.{◌≡◌, ℕ, ◌+◌, ◌*◌, ◌-◌, ◌<◌, ◌≤◌, not, count_by, vec_len}
use Rattle.bplist_objects.specs.Framed.{frame_in, HonestlyIn}
use Rattle.bplist_objects.specs.Heads.{content_at, refs}
use Rattle.bplist_objects.specs.Safe.{ref_count}
use Rattle.bplist_objects.specs.Scan.{AreBelow}
use Rattle.bplist_lint.specs.BitSets.{IsIn, count_in}
use Rattle.bplist_lint.specs.ReachSearch.{IsReady, AreFollowed, Looked}
use Rattle.bplist_lint.proofs.reach.follow.Given as goal

abbrev pub invariant-loop-number : goal.invariant-loop-number
invariant-loop-number g l =
    let means = g.P.Source.means in
    record {
      reads : means l.src ≡ means l.fn.src;
      asked : g.P.Source.asked l.src + 8 * count_in l.fn.search.followed.words.items l.fn.search.followed.size
          ≤ g.P.Source.asked l.fn.src + 8 * count_in l.search.followed.words.items l.fn.search.followed.size;
      outside : l.number < l.fn.search.followed.size → IsIn l.search.followed.words.items l.number → ⊥;
      ready : IsReady (frame_in (means l.fn.src)) l.search;
      good : l.search.good ≡ l.fn.search.good;
      from : l.first ≤ l.number;
      work : count_by not l.search.marks.items + vec_len l.search.stack ≤ count_by not l.fn.search.marks.items + vec_len l.fn.search.stack;
      known : (k : ℕ) → l.first ≤ k → k < l.number → IsIn l.search.followed.words.items k;
      looked : HonestlyIn (means l.fn.src) (λ f F. AreBelow f l.head.body F.ref_size (ref_count l.head.kind l.head.count) F.objects → AreFollowed f F l.fn.search.followed.words.items l.fn.search.marks.items → Looked (refs (content_at f F l.head)) l.fn.search.marks.items l.fn.search.stack.items l.search.marks.items l.search.stack.items);
      followed : HonestlyIn (means l.fn.src) (λ f F. AreBelow f l.head.body F.ref_size (ref_count l.head.kind l.head.count) F.objects → AreFollowed f F l.fn.search.followed.words.items l.fn.search.marks.items → AreFollowed f F l.search.followed.words.items l.search.marks.items);
    }

abbrev pub decreases-loop-number : goal.decreases-loop-number
decreases-loop-number g l = l.end - l.number
