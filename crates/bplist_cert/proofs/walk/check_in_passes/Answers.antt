use Rattle.std.proofs.lemmas.Result.{MatchResult-weaker}
use Rattle.bplist_cert.proofs.walk.check_in_passes.Goals as goal

-- the exact walk finds a fault, too
pub returns-clause-asks : goal.returns-clause-asks
returns-clause-asks g c = λ honest seen none.
    let reads = rw c.in-Err-Fault.field-0-is at c.in-Err-Fault.ensures.reads in
    let first = (rw c.in-Err-Fault.field-0-is at c.in-Err-Fault.ensures.exact) honest seen in
    MatchResult-weaker c.check_all-2.result ((rw reads at c.check_all-2.ensures.exact) honest (c.forget.ensures _ _ _ 0 first.1)) (λ used told. absurd (first.0 told.0.kept)) (λ _ _. tt)
