use Rattle.bplist_objects.proofs.Broken.{kept_or_broken}
use Rattle.bplist_objects.proofs.FirstFaults.{frame_kept_or_broken}
use Rattle.bplist_objects.proofs.laws.kept_is_not_broken.Goals as goal

pub returns-clause-file : goal.returns-clause-file
returns-clause-file c = frame_kept_or_broken

pub returns-clause-object : goal.returns-clause-object
returns-clause-object c = kept_or_broken
