use Rattle.bplist_octets.proofs.Groups.{joined_low}
use Rattle.bplist_octets.proofs.numbers.first_high.Goals as goal

pub returns-then-is_rest_low : goal.returns-then-is_rest_low
returns-then-is_rest_low c =
    joined_low _ _ c.low_front-front.ensures.low (rw c.split_at.ensures.back at (c.is_rest_low.ensures c.if-is_rest_low.true))
