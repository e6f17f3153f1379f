use Rattle.std.proofs.Common.{◌≡◌, ◌<◌, All}
use Rattle.bplist_objects.specs.Framed.{frame_in}
use Rattle.bplint_engine.proofs.map.rows.objects_by_number.Given as goal

abbrev pub invariant-loop-number : goal.invariant-loop-number
invariant-loop-number g l = record {
  same : g.P.Source.means l.src ≡ g.P.Source.means l.fn.src;
  within : All (λ object. object.number < (frame_in (g.P.Source.means l.fn.src)).objects) l.objects.items;
}
