use Rattle.bplist_cursor.proofs.StepReferences as taking
use Rattle.bplist_cursor.proofs.laws.references_decide_steps.Goals as goal

pub returns-clause-content : goal.returns-clause-content
returns-clause-content c = λ f F n v. taking.content_of_value f F v n

pub returns-clause-not_taken : goal.returns-clause-not_taken
returns-clause-not_taken c = λ f F n v step content. taking.not_taken f F v n step content

pub returns-clause-reference : goal.returns-clause-reference
returns-clause-reference c = λ f F n v step m content h sp t. (taking.taken_there f F v n step m h content sp t, taking.taken_below f F v n step m h content sp t)
