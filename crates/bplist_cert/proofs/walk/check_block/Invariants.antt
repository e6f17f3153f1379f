use Rattle.std.proofs.Common.{◌≡◌, ◌+◌, ◌*◌, ◌≤◌, None}
use Rattle.bplist_objects.specs.Framed.{HonestlyIn}
use Rattle.bplist_cert.specs.declared.walk.Pass.TheVariants.{Quick}
use Rattle.bplist_cert.specs.Looks.{ArePlaces}
use Rattle.bplist_cert.specs.PairFault.{AreCheckedBelow}
use Rattle.bplist_cert.specs.Walks.{AreCollected}
use Rattle.bplist_cert.proofs.walk.check_block.Given as goal

-- the source is as it was, the vouched objects so far keep the rules, and the keys of their dictionaries are named
abbrev pub invariant-loop-i : goal.invariant-loop-i
invariant-loop-i g l =
    let means = g.P.Source.means in
    record {
      same : means l.src ≡ means l.fn.src;
      asked : l.walk.look ≡ Quick → g.P.Source.asked l.src + l.fn.walked.used.octets ≤ g.P.Source.asked l.fn.src + l.walked.used.octets + 20 * l.i;
      stays : l.walk.look ≡ Quick → l.walked.named ≡ None → l.fn.walked.named ≡ None;
      running : HonestlyIn (means l.fn.src) (λ f F. ArePlaces f F l.from l.places
          → AreCheckedBelow f F l.walk.certificate.now Quick l.from l.fn.walked.used.octets
          → AreCheckedBelow f F l.walk.certificate.now Quick (l.from + l.i) l.walked.used.octets
          × (AreCollected f F l.walk.certificate.now.heights l.from l.fn.walked.named
          → AreCollected f F l.walk.certificate.now.heights (l.from + l.i) l.walked.named));
    }
