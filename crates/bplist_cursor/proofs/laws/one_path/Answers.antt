use Rattle.std.proofs.Common.{sym, ap, map, ◌∙◌}
use Rattle.bplist_cursor.specs.Path.{units}
use Rattle.bplist_cursor.proofs.Escapes.{same_written}
use Rattle.bplist_cursor.proofs.laws.one_path.Goals as goal

pub returns : goal.returns
returns c = λ text a b p q. p.2 ∙ ap (map units) (same_written p.0 q.0 (sym p.1 ∙ q.1)) ∙ sym q.2
