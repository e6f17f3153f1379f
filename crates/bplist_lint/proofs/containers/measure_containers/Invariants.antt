use Rattle.std.proofs.Common.{◌≡◌, ◌↔◌, ◌⊎◌, ℕ, ◌+◌, ◌*◌, ◌≤◌, ◌<◌, Bool, List, length, map, slice_index}
use Rattle.std.specs.Int.{from_bool}
use Rattle.bplist_objects.specs.Framed.{HonestlyIn}
use Rattle.bplist_objects.specs.Reach.{Reach}
use Rattle.bplist_keys.specs.Marks.{IsMarked}
use Rattle.bplist_keys.specs.Ranks.{AreClasses}
use Rattle.bplist_lint.specs.ReachRules.{KeepReached, is_marked, reach_rules}
use Rattle.bplist_lint.specs.ReachWalk.{AreNamed, extents_below}
use Rattle.bplist_lint.specs.ReferenceGraph.{AreChildless}
use Rattle.bplist_lint.proofs.ContainerSteps.{AreFinishedFrom}
use Rattle.bplist_lint.proofs.containers.measure_containers.Given as goal

abbrev pub invariant-loop-n : goal.invariant-loop-n
invariant-loop-n g l =
    let means = g.P.Source.means in
    let classes = l.fn.table.classes.table.items in
    record {
      reads : means l.src ≡ means l.fn.src;
      asked : HonestlyIn (means l.fn.src) (λ f F. g.P.Source.asked l.src + 36 * l.n + extents_below f F (is_marked l.marks) l.n
          ≤ g.P.Source.asked l.fn.src + 36 * F.objects + extents_below f F (is_marked l.marks) F.objects);
      all : length l.heights ≡ length l.fn.heights;
      room : length l.block ≡ 32;
      same : l.table.classes.table.items ≡ classes;
      seen : ((x : ℕ) → slice_index l.fn.table.seen.items x ≡ 0) → (x : ℕ) → (slice_index l.table.seen.items x ≡ 0) ⊎ (l.n < slice_index l.table.seen.items x);
      finished : HonestlyIn (means l.fn.src) (λ f F. (named : List Bool) → ((n : ℕ) → IsMarked l.marks n ↔ Reach f F n)
          → KeepReached f F reach_rules F.objects → AreChildless f F l.childless → AreNamed f F named → AreClasses f F named classes
          → ((x : ℕ) → slice_index l.fn.table.seen.items x ≡ 0) → l.fn.heights ≡ map from_bool l.childless
          → AreFinishedFrom f F l.marks l.childless l.heights l.n);
    }
