use Rattle.bplist_objects.proofs.Fronts.{one_shape}
use Rattle.bplist_objects.proofs.laws.one_shape.Goals as goal

pub returns : goal.returns
returns c = one_shape
