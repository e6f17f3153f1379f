use Rattle.bplist_objects.proofs.References.{length-refs, nth-refs}
use Rattle.bplist_objects.proofs.laws.references_by_index.Goals as goal

pub returns-clause-count : goal.returns-clause-count
returns-clause-count c = λ f F h. length-refs f F h.kind h.count h.body

pub returns-clause-each : goal.returns-clause-each
returns-clause-each c = λ f F h. nth-refs f F h.kind h.count h.body
