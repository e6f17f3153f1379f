use Rattle.std.proofs.Math.Logic.{∥∥₁_map}
use Rattle.bplist_cert.specs.PairFault.{IsPairFault}
use Rattle.bplist_cursor.proofs.AcceptedAnswers.{answered, refused_by}
use Rattle.bplist_cursor.proofs.certified_answers.answer_certified.Goals as goal

pub returns-in-Ok-told-clause-theorem : goal.returns-in-Ok-told-clause-theorem
returns-in-Ok-told-clause-theorem g c = λ honest.
    let told = (rw c.in-Ok.ensures.handed.1 at c.in-Ok-told.ensures.exact) honest in
    ∥∥₁_map (c.in-Ok.ensures.yes honest) (λ a. answered _ _ _ c.args.queries.now c.in-Ok-told.replies.items a.valid told)

pub returns-in-Ok-told-clause-yes : goal.returns-in-Ok-told-clause-yes
returns-in-Ok-told-clause-yes g c = λ honest. ∥∥₁_map (c.in-Ok.ensures.yes honest) (λ a. (c.in-Ok.checked.frame, a))

pub returns-in-Err-clause-refused : goal.returns-in-Err-clause-refused
returns-in-Err-clause-refused g c = λ honest.
    rw c.from-in-Err.ensures (refused_by (IsPairFault (g.S.Source.means c.args.src).octets c.args.cert) c.in-Err.refusal (c.in-Err.ensures.fault honest))
