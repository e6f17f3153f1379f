use Rattle.std.proofs.Common.{◌≡◌}
use Rattle.bplint_engine.proofs.object_path.ObjectPaths.go_on.Given as goal

abbrev pub invariant-loop-index : goal.invariant-loop-index
invariant-loop-index g l = g.S.Source.means l.src ≡ g.S.Source.means l.fn.src
