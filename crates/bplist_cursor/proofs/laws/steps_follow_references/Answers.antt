use Rattle.bplist_objects.proofs.Fronts.{one_head}
use Rattle.bplist_cursor.proofs.Counts.{few_refs}
use Rattle.bplist_cursor.proofs.StepObjects.{leads_held, step_leads}
use Rattle.bplist_cursor.proofs.laws.steps_follow_references.Goals as goal

pub returns-clause-taken : goal.returns-clause-taken
returns-clause-taken c = λ f F is n v step m h leads. leads_held f F (one_head f F) v n step m h (few_refs f F is n) leads

pub returns-clause-goes_on : goal.returns-clause-goes_on
returns-clause-goes_on c = λ f F n v step w h on. step_leads f F (one_head f F) v n step w h on
