use Rattle.std.proofs.Common.{arith}
use Rattle.std.proofs.lemmas.Grind.{common_steps}
use Rattle.bplist_ascii.proofs.WriteSteps.{all_digits}
use Rattle.bplist_ascii.proofs.texts.add_text_of_bytes.Goals as goal

pub returns : goal.returns
returns c = rw (← all_digits c.args.bytes.now) (grind (arith, common_steps))
