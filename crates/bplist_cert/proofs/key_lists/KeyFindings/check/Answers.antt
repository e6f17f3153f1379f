use Rattle.bplist_cert.proofs.key_lists.KeyFindings.check.Goals as goal

pub returns-in-None-clause-exact : goal.returns-in-None-clause-exact
returns-in-None-clause-exact g c = λ honest seen. rw c.in-None.is (λ found. c.check_key_repeats.ensures.exact honest seen (rw c.take.ensures.value found))

pub returns-in_ok-check_key_orders-in-Some-clause-exact : goal.returns-in_ok-check_key_orders-in-Some-clause-exact
returns-in_ok-check_key_orders-in-Some-clause-exact g c = λ honest seen. rw c.in-Some.is (λ found. c.in_ok-check_key_orders-in-Some.ensures.exact honest seen found)
