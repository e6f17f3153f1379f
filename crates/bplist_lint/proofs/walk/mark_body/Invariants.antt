use Rattle.std.proofs.Common.{◌≡◌, ℕ, ◌+◌, ◌*◌, ◌≤◌, ◌<◌, ◌-◌}
use Rattle.bplist_objects.specs.Framed.{frame_in, HonestlyIn}
use Rattle.bplist_objects.specs.Heads.{content_at, refs}
use Rattle.bplist_objects.specs.RefBlocks.{AreOf}
use Rattle.bplist_objects.specs.Safe.{ref_count}
use Rattle.bplist_objects.specs.Scan.{AreBelow, ref}
use Rattle.bplist_objects.specs.declared.head.Kind.TheVariants.{Dict}
use Rattle.bplist_keys.specs.Marks.{IsMarked}
use Rattle.bplist_lint.specs.ReachWalk.{IsSteady, KeepsNames, NamesMarked, NotedIn, Worked}
use Rattle.bplist_lint.proofs.walk.mark_body.Given as goal

abbrev pub invariant-loop-refs : goal.invariant-loop-refs
invariant-loop-refs g l =
    let means = g.P.Source.means in
    record {
      reads : means l.src ≡ means l.fn.src;
      asked : g.P.Source.asked l.src ≤ g.P.Source.asked l.fn.src + l.refs.next * (frame_in (means l.fn.src)).ref_size;
      of : AreOf l.head (ref_count l.head.kind l.head.count) l.refs;
      steady : IsSteady (frame_in (means l.fn.src)).objects l.worklist;
      worked : Worked l.fn.worklist l.worklist;
      names : KeepsNames (frame_in (means l.fn.src)).objects l.fn.named l.named;
      only : NamesMarked l.fn.worklist.marks.items l.fn.named.marks.items → NamesMarked l.worklist.marks.items l.named.marks.items;
      named : HonestlyIn (means l.fn.src) (λ f F. l.head.kind ≡ Dict → (k : ℕ) → k < l.refs.next → k < l.head.count → IsMarked l.named.marks.items (ref f F l.head k));
      below : HonestlyIn (means l.fn.src) (λ f F. AreBelow f l.head.body F.ref_size l.refs.next F.objects);
      noted : HonestlyIn (means l.fn.src) (λ f F. NotedIn (refs (content_at f F l.head)) l.refs.next l.fn.worklist l.worklist);
    }

abbrev pub decreases-loop-refs : goal.decreases-loop-refs
decreases-loop-refs g l = l.refs.bound - l.refs.next
