use Rattle.std.proofs.Common.{◌≡◌, ℕ, ◌+◌, ◌*◌, ◌-◌, ◌≤◌, ◌<◌, min, map, take, length, slice_index, None}
use Rattle.bplist_objects.specs.Framed.{HonestlyIn, frame_in}
use Rattle.bplist_objects.specs.ObjectRules.{KeepsByObject, object_rules}
use Rattle.bplist_objects.specs.Rules.{KeepsAll}
use Rattle.bplist_objects.specs.Scan.{ref}
use Rattle.bplist_objects.specs.declared.head.Kind.TheVariants.{Dict}
use Rattle.bplist_keys.specs.Classes.{IsStamped, IsNew, HaveSeenKeys}
use Rattle.bplist_lint.specs.declared.graph.View.TheVariants as views
use Rattle.bplist_lint.specs.Graph.{greatest}
use Rattle.bplist_objects.specs.KeyCounts.{key_count}
use Rattle.bplist_lint.specs.ReferenceGraph.{refs_in}
use Rattle.bplist_lint.proofs.containers.container_height.Given as goal

abbrev pub invariant-loop-done : goal.invariant-loop-done
invariant-loop-done g l =
    let means = g.P.Source.means in
    let keys = key_count l.head.kind l.head.count in
    record {
      reads : means l.src ≡ means l.fn.src;
      asked : g.P.Source.asked l.src ≤ g.P.Source.asked l.fn.src + 36 + l.done * (frame_in (means l.fn.src)).ref_size;
      room : length l.block ≡ length l.fn.block;
      within : l.done ≤ l.refs;
      same : l.table.classes.table.items ≡ l.fn.table.classes.table.items;
      stamped : IsStamped l.n l.fn.table.seen.items l.table.seen.items;
      seen : HonestlyIn (means l.fn.src) (λ f F. IsNew l.fn.table.seen.items l.n → l.head.kind ≡ Dict
          → HaveSeenKeys (ref f F l.head) l.fn.table.classes.table.items l.n l.table.seen.items (min l.done l.head.count) None);
      measured : HonestlyIn (means l.fn.src) (λ f F. KeepsAll (KeepsByObject f F l.n) object_rules
          → ((k : ℕ) → k < l.done - keys → 0 < slice_index l.heights (slice_index (refs_in views.Values f F l.n) k))
          × (l.best ≡ greatest (map (λ m. slice_index l.heights m) (take (l.done - keys) (refs_in views.Values f F l.n)))));
    }

abbrev pub decreases-loop-done : goal.decreases-loop-done
decreases-loop-done g l = l.refs - l.done
