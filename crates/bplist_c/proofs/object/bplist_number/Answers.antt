use Rattle.std.proofs.Common.{rules}
use Rattle.bplist_c.proofs.HandleSource.{on_answer}
use Rattle.bplist_c.proofs.object.bplist_number.Goals as goal

pub returns-clause-exact : goal.returns-clause-exact
returns-clause-exact c = (
  c.with_checked-answer.result,
  c.tell.ensures,
  on_answer c.args.file c.args.handle.now _ (λ checked answer gave. rw (← gave.shows) (search rules)) c.with_checked-answer.result
      c.with_checked-answer.ensures.exact,
)
