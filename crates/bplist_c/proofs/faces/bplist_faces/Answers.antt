use Rattle.std.proofs.Common.{Err, refl}
use Rattle.bplist_c.proofs.HandleSource.{on_refused}
use Rattle.bplist_c.proofs.faces.bplist_faces.Goals as goal

pub returns-in-Err-clause-exact : goal.returns-in-Err-clause-exact
returns-in-Err-clause-exact c = (
  Err c.in-Err.status,
  (c.number.ensures, refl, refl),
  on_refused c.args.file c.args.handle.now _ c.in-Err.status c.in-Err.ensures.1,
)
