use Rattle.std.proofs.Common.{◌≡◌}
use Rattle.bplint_engine.proofs.map.put_map.Given as goal

abbrev pub invariant-loop-object : goal.invariant-loop-object
invariant-loop-object g l = g.P.Source.means l.src ≡ g.P.Source.means l.fn.src
