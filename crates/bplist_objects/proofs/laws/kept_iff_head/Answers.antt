use Rattle.bplist_objects.proofs.HeadTies.{shape_tie, head_tie}
use Rattle.bplist_objects.proofs.laws.kept_iff_head.Goals as goal

pub returns-clause-shape : goal.returns-clause-shape
returns-clause-shape c = λ f F frame n lt. shape_tie f F n frame lt

pub returns-clause-whole : goal.returns-clause-whole
returns-clause-whole c = λ f F frame n lt. head_tie f F n frame lt
