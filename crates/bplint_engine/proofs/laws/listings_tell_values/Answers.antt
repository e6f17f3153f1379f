use Rattle.bplint_engine.proofs.ToldTrees.{listings_tell}
use Rattle.bplint_engine.proofs.laws.listings_tell_values.Goals as goal

pub returns : goal.returns
returns c = listings_tell
