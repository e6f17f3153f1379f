use Rattle.bplint_engine.proofs.PathQueries.{AreAsked, bytes_of}
use Rattle.std.proofs.Common.{take}
use Rattle.bplint_engine.proofs.get.queries_of.Given as goal

abbrev pub invariant-loop-text : goal.invariant-loop-text
invariant-loop-text l = AreAsked (bytes_of (take l.text-index l.texts)) l.queries.items
