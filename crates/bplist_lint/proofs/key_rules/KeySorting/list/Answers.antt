use Rattle.std.proofs.Common.{◌∙◌}
use Rattle.std.proofs.lemmas.List.{length-map}
use Rattle.bplist_lint.proofs.KeyLists.{sorting, above, in_order, listed}
use Rattle.bplist_lint.proofs.key_rules.KeySorting.list.Goals as goal

pub returns-clause-exact : goal.returns-clause-exact
returns-clause-exact g c = λ honest have.
    let are = (rw c.deref.ensures.value at c.in_ok-rank_keys.ensures.ranked) honest in
    let all = c.in_ok-rank_keys.ensures.all in
    let s = sorting _ _ c.sort_unstable.ensures.permutation are.numbered c.sort_unstable.ensures.sorted in
    let up = above _ _ c.args.head.now c.args.self.now.ranks.table.items have _ are all _ _ s in
    let order = in_order _ _ c.args.head.now c.args.self.now.ranks.table.items have _ are all _ _ s in
    listed _ _ c.args.head.now c.args.self.now.positions.items c.push_positions.new.positions.items _ c.push_positions.result
    (s.count ∙ (length-map _ (λ key. key.rank) ∙ all)) order (rw c.deref-2.ensures.value at c.push_positions.ensures.pushed) ((rw c.deref-2.ensures.value at c.push_positions.ensures.exact) up)
