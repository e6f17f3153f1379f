use Rattle.std.proofs.Common.{◌≡◌, ◌↔◌, ◌+◌, ◌*◌, ◌≤◌, ℕ}
use Rattle.bplist_objects.specs.Framed.{frame_in, HonestlyIn}
use Rattle.bplist_objects.specs.Reach.{Reach}
use Rattle.bplist_keys.specs.Marks.{IsMarked}
use Rattle.bplist_lint.specs.ReachRules.{Tallied}
use Rattle.bplist_lint.specs.Tallies.{IsRoomy}
use Rattle.bplist_lint.proofs.tally.check_reached.Given as goal

abbrev pub invariant-loop-n : goal.invariant-loop-n
invariant-loop-n g l =
    let means = g.P.Source.means in
    record {
      reads : means l.src ≡ means l.fn.src;
      asked : g.P.Source.asked l.src ≤ g.P.Source.asked l.fn.src + (l.tally.used.octets + 36 * l.n);
      roomy : IsRoomy (frame_in (means l.fn.src)) l.tally;
      exact : HonestlyIn (means l.fn.src) (λ f F. ((n : ℕ) → IsMarked l.marks n ↔ Reach f F n) → Tallied f F l.marks l.n l.tally);
    }
