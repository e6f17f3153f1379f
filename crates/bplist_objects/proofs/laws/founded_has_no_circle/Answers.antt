use Rattle.bplist_objects.proofs.ReachedObjects.{founded_no_circle}
use Rattle.bplist_objects.proofs.laws.founded_has_no_circle.Goals as goal

pub returns : goal.returns
returns c = founded_no_circle
