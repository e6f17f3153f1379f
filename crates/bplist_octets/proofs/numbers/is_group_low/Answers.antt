use Rattle.std.proofs.Common.{eqb-true}
use Rattle.bplist_octets.proofs.Groups.{low_of_mask}
use Rattle.bplist_octets.proofs.numbers.is_group_low.Goals as goal

pub returns : goal.returns
returns c none k lo hi = low_of_mask c.args.l.now c.args.at c.requires (eqb-true _ _ none) k lo hi
