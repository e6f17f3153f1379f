use Rattle.std.proofs.Common.{append_assoc, rules}
use Rattle.bplint_lines.proofs.explanation.rule_text.Goals as goal

pub returns : goal.returns
returns c = simp append_assoc (search rules)
