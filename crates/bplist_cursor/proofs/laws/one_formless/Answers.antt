use Rattle.bplist_cursor.proofs.FormlessObjects as unformed
use Rattle.bplist_cursor.proofs.laws.one_formless.Goals as goal

pub returns-clause-found : goal.returns-clause-found
returns-clause-found c = λ f F n v. unformed.some_formless f F v n

pub returns-clause-only : goal.returns-clause-only
returns-clause-only c = λ f F n v. unformed.formless_none f F v n

pub returns-clause-one : goal.returns-clause-one
returns-clause-one c = λ f F n v. unformed.one_formless f F v n
