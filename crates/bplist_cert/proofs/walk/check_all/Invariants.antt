use Rattle.std.proofs.Common.{◌≡◌, ◌+◌, ◌*◌, ◌≤◌, ◌-◌, None}
use Rattle.bplist_objects.specs.Framed.{frame_in, HonestlyIn}
use Rattle.bplist_cert.specs.declared.walk.Pass.TheVariants.{Quick}
use Rattle.bplist_cert.specs.PairFault.{AreCheckedBelow}
use Rattle.bplist_cert.specs.KeysLooks.{AreSeen}
use Rattle.bplist_cert.proofs.walk.check_all.Given as goal

-- the source is as it was; the vouched objects so far keep the rules, and so do their keys as far as names and lists
-- say
abbrev pub invariant-loop-done : goal.invariant-loop-done
invariant-loop-done g l =
    let means = g.P.Source.means in
    record {
      same : means l.src ≡ means l.fn.src;
      taken : l.found.named ≡ None;
      asked : l.walk.look ≡ Quick → l.walk.certificate.now.keys ≡ None → g.P.Source.asked l.src ≤ g.P.Source.asked l.fn.src + l.walked.used.octets + 28 * l.done;
      stays : l.walk.look ≡ Quick → l.walked.named ≡ None → l.fn.found.named ≡ None;
      reached : l.done ≤ (frame_in (means l.fn.src)).objects;
      keys : HonestlyIn (means l.fn.src) (λ f F. AreSeen f F l.walk.certificate.now 0 l.fn.found → AreSeen f F l.walk.certificate.now l.done (record { named = l.walked.named; lists = l.found.lists }));
      running : HonestlyIn (means l.fn.src) (λ f F. AreCheckedBelow f F l.walk.certificate.now Quick l.done l.walked.used.octets);
    }

abbrev pub decreases-loop-done : goal.decreases-loop-done
decreases-loop-done g l = l.objects - l.done
