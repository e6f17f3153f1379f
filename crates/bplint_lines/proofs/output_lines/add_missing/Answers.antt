use Rattle.std.proofs.Common.{arith}
use Rattle.std.proofs.lemmas.Grind.{common_steps}
use Rattle.bplint_lines.proofs.output_lines.add_missing.Goals as goal

pub returns : goal.returns
returns c = rw (c.reason_of-word.ensures c.args.step) (grind (arith, common_steps))
