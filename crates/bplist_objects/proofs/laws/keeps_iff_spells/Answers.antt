use Rattle.bplist_objects.proofs.HeadTies.{keeps_iff}
use Rattle.bplist_objects.proofs.laws.keeps_iff_spells.Goals as goal

pub returns : goal.returns
returns c = λ f F frame n lt. keeps_iff f F n frame lt
