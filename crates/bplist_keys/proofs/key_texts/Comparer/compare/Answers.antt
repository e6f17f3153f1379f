use Rattle.bplist_keys.specs.Texts.{text_units}
use Rattle.bplist_keys.proofs.key_texts.Comparer.compare.Goals as goal

pub returns-in-Some-clause-value : goal.returns-in-Some-clause-value
returns-in-Some-clause-value g c = λ honest runs first second.
    let one = rw c.in-Some.is at first in
    let other = rw c.in-Some.is at second in
    c.compare.ensures (text_units _ _) one.0 other.0 one.1 other.1
