use Rattle.std.proofs.Common.{◌≡◌, ◌++◌, List, ℕ, drop, length, arith, ◌∙◌}
use Rattle.std.proofs.lemmas.Grind.{common_steps}
use Rattle.std.proofs.lemmas.List.{get_or_append_left}
use Rattle.bplist_lint.proofs.ObjectReferences.{part_is, part_none}
use Rattle.bplist_lint.proofs.graph.ObjectGraphReferences.read.Goals as goal

pub returns-in_default-clause-value : goal.returns-in_default-clause-value
returns-in_default-clause-value g c = λ honest _. part_none _ _ _ _ (rw c.in_default.is at (c.in_ok-head.ensures.shape honest)) _ _

pub returns-then-count-eq0-clause-value : goal.returns-then-count-eq0-clause-value
returns-then-count-eq0-clause-value g c = λ honest whole.
    let has = rw c.in-Some.is at (c.in_ok-head.ensures.shape honest) in
    part_is _ _ _ _ _ has whole c.args.i 0 c.args.block.now (omega (arith, c.if-count-eq0.true, c.min-count.ensures, c.saturating_sub.ensures, c.saturating_sub-shown.ensures, c.hides-hidden.ensures, c.refs_of.ensures)) (λ k low. absurd (omega (arith, low)))

pub returns-clause-value : goal.returns-clause-value
returns-clause-value g c = λ honest whole.
    let has = rw c.in-Some.is at (c.in_ok-head.ensures.shape honest) in
    let part = c.read_block.new.block in
    let count = c.min-count.result in
    let block : List ℕ = part ++ drop count c.args.block.now in
    let long : length part ≡ count = grind (arith, common_steps) in
    let room : length block ≡ length c.args.block.now = grind (arith, common_steps) in
    let numbers = (rw (c.in_ok-head.ensures.reads, c.hides-hidden.ensures) at c.in_ok-read_block.ensures.numbers) honest in
    part_is _ _ _ _ _ has whole c.args.i count block (omega (arith, room, c.min-count.ensures, c.saturating_sub.ensures, c.saturating_sub-shown.ensures, c.hides-hidden.ensures, c.refs_of.ensures))
    (λ k low below. get_or_append_left part (drop count c.args.block.now) 0 k (omega (arith, low, long)) ∙ numbers k (omega (arith, low, long)) below)
