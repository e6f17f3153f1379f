use Rattle.std.proofs.Common.{◌≡◌, ◌+◌, ◌*◌, ◌≤◌, ◌-◌, None}
use Rattle.bplist_objects.specs.Framed.{frame_in, HonestlyIn}
use Rattle.bplist_cert.specs.Heights.{AreMet}
use Rattle.bplist_cert.specs.Walks.{IfCollected}
use Rattle.bplist_cert.proofs.Blocks.{HasCollectedFirst}
use Rattle.bplist_cert.proofs.heights.check_refs.Given as goal

-- the source is as it was, the references so far have heights as wanted, and the keys among them are collected
abbrev pub invariant-loop-done : goal.invariant-loop-done
invariant-loop-done g l =
    let means = g.P.Source.means in
    record {
      same : means l.src ≡ means l.fn.src;
      reached : l.done ≤ l.refs;
      asked : g.P.Source.asked l.src ≤ g.P.Source.asked l.fn.src + l.done * (frame_in (means l.fn.src)).ref_size;
      stays : l.names ≡ None → l.fn.names ≡ None;
      met : HonestlyIn (means l.fn.src) (λ f F. AreMet f F l.heights l.head l.wanted l.done);
      collected : HonestlyIn (means l.fn.src) (λ f F. IfCollected l.fn.names l.names (HasCollectedFirst f F l.head l.done (l.container.n.0 + 1)));
    }

abbrev pub decreases-loop-done : goal.decreases-loop-done
decreases-loop-done g l = l.refs - l.done
