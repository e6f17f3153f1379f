use Rattle.std.proofs.Common.{◌+◌, ◌*◌, refl}
use Rattle.bplist_cursor.proofs.Membership.{no_node_from_end, node_of_key, node_of_value}
use Rattle.bplist_cursor.proofs.laws.members_by_number.Goals as goal

pub returns-clause-key : goal.returns-clause-key
returns-clause-key c = λ f F n ks ms j s l. node_of_key f F ks ms n (2 * j) j s refl l

pub returns-clause-value : goal.returns-clause-value
returns-clause-value c = λ f F n ks ms j s l. node_of_value f F ks ms n (2 * j + 1) j s refl l

pub returns-clause-none : goal.returns-clause-none
returns-clause-none c = λ f F n i content s l. no_node_from_end f F content n i s l
