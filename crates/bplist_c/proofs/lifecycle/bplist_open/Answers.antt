use Rattle.bplist_lint.specs.FileFault.{IsFileCircle, IsFileFault}
use Rattle.bplist_lint.specs.Linted.{IsLinted}
use Rattle.bplist_c.proofs.OpenedHandles.{opens}
use Rattle.bplist_c.proofs.lifecycle.bplist_open.Goals as goal

pub returns-clause-exact : goal.returns-clause-exact
returns-clause-exact c = λ closed.
    let f = c.args.file.now in
    let found = c.accept-accepted.ensures in
    opens c.args.file c.args.sorted (IsLinted f) (IsFileFault f) (IsFileCircle f) c.keep.new.handle c.keep.new.out c.keep.result
    found.0 c.accept-accepted.result found.1 found.2 c.keep.ensures
