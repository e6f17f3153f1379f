use Rattle.std.proofs.Common.{append_assoc, arith}
use Rattle.std.proofs.lemmas.Grind.{common_steps}
use Rattle.bplint_engine.proofs.columns.add_site.Goals as goal

pub returns : goal.returns
returns c = simp append_assoc (grind (arith, common_steps))
