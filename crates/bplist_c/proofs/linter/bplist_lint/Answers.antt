use Rattle.std.proofs.Common.{false, refl}
use Rattle.bplist_c.proofs.OpenedHandles.{Tells, shown}
use Rattle.bplist_c.proofs.linter.bplist_lint.Goals as goal
use Rattle.bplist_c.proofs.linter.bplist_lint.Goals.{in-Ok+in-Some-1, in-Ok+in-None-1, in-Err}

pub returns : goal.returns
returns c =
    let said = c.accept.ensures in
    let told = c.match-accept.status in
    let tells : Tells told.1 told.0 c.accept.result = elim c.match-accept.branch [
      | in-Ok+in-Some-1 w ↦ rw (w.in-Ok.is, w.status-is) (refl, refl)
      | in-Ok+in-None-1 w ↦ rw (w.in-Ok.is, w.status-is) (refl, refl)
      | in-Err w ↦ rw (w.in-Err.is, w.status-is) (w.number.ensures, refl)
    ] in
    (said.0, said.1, shown false c.args.file told.1 told.0 said.0 c.accept.result said.2 tells)
