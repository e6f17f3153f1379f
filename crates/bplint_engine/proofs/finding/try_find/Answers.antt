use Rattle.bplint_engine.proofs.finding.try_find.Goals as goal

pub returns-in-Err-Fault : goal.returns-in-Err-Fault
returns-in-Err-Fault g c = λ honest. (rw c.in-Err-Fault.field-0-is at c.in-Err-Fault.ensures.exact) honest

pub returns-in-Err-Circle : goal.returns-in-Err-Circle
returns-in-Err-Circle g c = λ honest. (rw c.in-Err-Circle.field-0-is at c.in-Err-Circle.ensures.exact) honest
