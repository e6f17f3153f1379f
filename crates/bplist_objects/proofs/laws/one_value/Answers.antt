use Rattle.bplist_objects.proofs.Fronts.{one_head}
use Rattle.bplist_objects.proofs.ObjectValues.{holds_one}
use Rattle.bplist_objects.proofs.laws.one_value.Goals as goal

pub returns : goal.returns
returns c = λ f F n v w. holds_one f F (one_head f F) v w n
