use Rattle.std.proofs.Common.{arith}
use Rattle.std.proofs.lemmas.Grind.{common_steps}
use Rattle.bplist_objects.proofs.objects.read_front.Goals as goal

pub returns-clause-places : goal.returns-clause-places
returns-clause-places g c = grind (arith, common_steps)
