use Rattle.bplist_objects.proofs.rule_texts.texts_of.Goals as goal

pub returns-clause-asked : goal.returns-clause-asked
returns-clause-asked c = rw c.rule_number.ensures at c.row_at.ensures.asked

pub returns-clause-broken : goal.returns-clause-broken
returns-clause-broken c = rw c.rule_number.ensures at c.row_at.ensures.broken
