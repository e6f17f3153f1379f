use Rattle.bplist_cert.proofs.VouchedObjects.{reached_vouched, reached_spells, circle_free}
use Rattle.bplist_cert.proofs.laws.reached_objects.Goals as goal

pub returns-clause-vouched : goal.returns-clause-vouched
returns-clause-vouched c = reached_vouched

pub returns-clause-content : goal.returns-clause-content
returns-clause-content c = reached_spells

pub returns-clause-no_circle : goal.returns-clause-no_circle
returns-clause-no_circle c = circle_free
