use Rattle.std.proofs.Common.{◌+◌, ◌*◌, ◌∙◌, Some, ap, length}
use Rattle.std.specs.Int.Digits.{digits_of}
use Rattle.bplist_objects.specs.Value.{dict}
use Rattle.bplist_cursor.proofs.AskedSteps.{last_bytes}
use Rattle.bplist_cursor.proofs.laws.one_key_of_a_thousand.Goals as goal

pub returns : goal.returns
returns c = λ keyed ps step many short.
    last_bytes (Some keyed) (dict ps) step
    ∙ ap (λ n. 36 + length (digits_of 2 n) * (36 + 2 * length step)) many
    ∙ ap (λ n. 36 + length (digits_of 2 1000) * (36 + 2 * n)) short
