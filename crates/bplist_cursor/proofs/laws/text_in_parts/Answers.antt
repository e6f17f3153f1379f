use Rattle.std.proofs.Common.{ap, ◌∙◌, Some}
use Rattle.bplist_cursor.proofs.TextParts.{formed_text, text_formed}
use Rattle.bplist_cursor.proofs.laws.text_in_parts.Goals as goal

pub returns : goal.returns
returns c = λ v t. (text_formed v t, λ (formed, is). formed_text v formed ∙ ap Some is)
