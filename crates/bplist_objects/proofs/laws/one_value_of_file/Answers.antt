use Rattle.bplist_objects.proofs.ObjectValues.{one_value_of_file}
use Rattle.bplist_objects.proofs.laws.one_value_of_file.Goals as goal

pub returns : goal.returns
returns c = one_value_of_file
