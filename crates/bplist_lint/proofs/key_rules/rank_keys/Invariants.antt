use Rattle.std.proofs.Common.{◌≡◌, ◌+◌, ◌*◌, ◌-◌, ◌≤◌, length, slice_index}
use Rattle.bplist_objects.specs.Framed.{HonestlyIn, frame_in}
use Rattle.bplist_objects.specs.RefBlocks.{AreOf}
use Rattle.bplist_objects.specs.Scan.{ref}
use Rattle.bplist_lint.specs.KeyLists.{AreRanked}
use Rattle.bplist_lint.proofs.key_rules.rank_keys.Given as goal

-- the keys so far are ranked
abbrev pub invariant-loop-refs : goal.invariant-loop-refs
invariant-loop-refs g l = record {
  same : g.P.Source.means l.src ≡ g.P.Source.means l.fn.src;
  asked : g.P.Source.asked l.src ≤ g.P.Source.asked l.fn.src + l.refs.next * (frame_in (g.P.Source.means l.fn.src)).ref_size;
  of : AreOf l.head l.head.count l.refs;
  so_far : length l.keys.items ≡ l.refs.next;
  ranked : HonestlyIn (g.P.Source.means l.fn.src) (λ f F. AreRanked (λ k. slice_index l.ranks (ref f F l.head k)) l.keys.items);
}

abbrev pub decreases-loop-refs : goal.decreases-loop-refs
decreases-loop-refs g l = l.refs.bound - l.refs.next
