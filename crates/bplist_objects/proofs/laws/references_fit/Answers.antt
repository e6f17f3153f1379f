use Rattle.bplist_objects.proofs.Bounds.{frame_safe, shape_safe, place_fits, refs_within}
use Rattle.bplist_objects.proofs.laws.references_fit.Goals as goal

pub returns-clause-frames : goal.returns-clause-frames
returns-clause-frames c = frame_safe

pub returns-clause-heads : goal.returns-clause-heads
returns-clause-heads c = shape_safe

pub returns-clause-places : goal.returns-clause-places
returns-clause-places c = place_fits

pub returns-clause-counts : goal.returns-clause-counts
returns-clause-counts c = refs_within
