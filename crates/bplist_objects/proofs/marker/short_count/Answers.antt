use Rattle.std.proofs.Common.{refl, sym, subst, arith}
use Rattle.bplist_objects.specs.Markers.{MarkersCount, markers_of}
use Rattle.bplist_objects.proofs.marker.short_count.Goals as goal

pub returns-in-Date-clause-may : goal.returns-in-Date-clause-may
returns-in-Date-clause-may c = subst (λ kind. MarkersCount (markers_of kind) 8) (sym c.in-Date.is) (51, omega arith, omega arith, refl)
