use Rattle.bplist_lint.proofs.ReferenceGraph.{reach_iff, founded_iff, circle_iff, are_least_heights}
use Rattle.bplist_lint.proofs.laws.graph_is_of_file.Goals as goal

pub returns-clause-reach : goal.returns-clause-reach
returns-clause-reach c = reach_iff

pub returns-clause-founded : goal.returns-clause-founded
returns-clause-founded c = founded_iff

pub returns-clause-circle : goal.returns-clause-circle
returns-clause-circle c = circle_iff

pub returns-clause-least : goal.returns-clause-least
returns-clause-least c = λ f F spelled heights count least ends. are_least_heights f F spelled heights least ends count
