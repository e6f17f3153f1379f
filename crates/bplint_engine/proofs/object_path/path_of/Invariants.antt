use Rattle.std.proofs.Common.{◌≡◌}
use Rattle.bplint_engine.proofs.object_path.path_of.Given as goal

abbrev pub invariant-loop-k : goal.invariant-loop-k
invariant-loop-k g l = g.S.Source.means l.src ≡ g.S.Source.means l.fn.src
