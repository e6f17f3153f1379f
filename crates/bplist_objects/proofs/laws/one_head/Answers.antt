use Rattle.bplist_objects.proofs.Fronts.{one_head}
use Rattle.bplist_objects.proofs.laws.one_head.Goals as goal

pub returns : goal.returns
returns c = one_head
