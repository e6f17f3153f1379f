use Rattle.std.proofs.Common.{refl, arith}
use Rattle.bplist_objects.specs.declared.marker.TheConstants.{SIZES}
use Rattle.bplist_objects.specs.Markers.{kind_at}
use Rattle.bplist_objects.proofs.VisitLaws.{none_there, some_there}
use Rattle.bplist_objects.proofs.marker.size_said.Goals as goal

pub returns-then-size-eq0 : goal.returns-then-size-eq0
unfolding kind_at
returns-then-size-eq0 c = none_there SIZES c.args.marker c.if-size-eq0.true (omega (arith, c.ranges.marker.fits)) refl

pub returns-else-size-eq0 : goal.returns-else-size-eq0
unfolding kind_at
returns-else-size-eq0 c = some_there SIZES c.args.marker c.if-size-eq0.false (omega (arith, c.ranges.marker.fits)) refl
