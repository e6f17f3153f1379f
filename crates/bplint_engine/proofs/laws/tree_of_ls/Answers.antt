use Rattle.bplint_engine.proofs.TreeLines.{listed_by_members, listed_leaf, tree_by_members}
use Rattle.bplint_engine.proofs.laws.tree_of_ls.Goals as goal

pub returns-clause-tree : goal.returns-clause-tree
returns-clause-tree c = tree_by_members

pub returns-clause-ls : goal.returns-clause-ls
returns-clause-ls c = listed_by_members

pub returns-clause-leaf : goal.returns-clause-leaf
returns-clause-leaf c = listed_leaf
