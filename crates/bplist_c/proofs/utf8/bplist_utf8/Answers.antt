use Rattle.std.proofs.Common.{rules}
use Rattle.bplist_c.specs.Statuses.{items_of}
use Rattle.bplist_c.proofs.HandleSource.{on_items}
use Rattle.bplist_c.proofs.utf8.bplist_utf8.Goals as goal

pub returns-clause-exact : goal.returns-clause-exact
returns-clause-exact c = (
  items_of c.with_checked-answer.result,
  c.put_answer.ensures,
  on_items c.args.file c.args.handle.now _ (λ checked answer gave. rw (← gave.shows) (search rules)) c.with_checked-answer.result
      c.with_checked-answer.ensures.exact,
)
