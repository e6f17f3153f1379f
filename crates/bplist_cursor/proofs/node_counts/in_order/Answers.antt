use Rattle.std.proofs.Common.{rules, slice_index, sym, subst}
use Rattle.std.proofs.lemmas.List.Sorted.{IsNonDecreasingBy-from_sort_by_key}
use Rattle.bplist_cursor.specs.ObjectSizes.{AreHigher}
use Rattle.bplist_cursor.proofs.HeightOrder.{order_of, order_inside}
use Rattle.bplist_cursor.proofs.PassSteps.{once_permuted}
use Rattle.bplist_cursor.proofs.node_counts.in_order.Goals as goal

pub returns-clause-order : goal.returns-clause-order
returns-clause-order g c =
    let heights = c.args.checked.now.certificate.heights in
    order_of heights c.in_ok-order.order.items c.sort_unstable_by_key.new.self.items c.args.height
    (subst (λ n. AreHigher heights c.args.height n c.in_ok-order.order.items) (sym c.frame-frame.ensures.checked.count) c.in_ok-order.ensures.higher)
    c.sort_unstable_by_key.ensures.permutation
    (IsNonDecreasingBy-from_sort_by_key (slice_index heights) _ c.sort_unstable_by_key.ensures.sorted (λ a r q k. search rules))

pub returns-clause-inside : goal.returns-clause-inside
returns-clause-inside g c =
    order_inside c.args.checked.now.certificate.heights c.sort_unstable_by_key.new.self.items c.args.height c.args.checked.now.frame.objects (returns-clause-order g c)
    c.frame-frame.ensures.checked.count

pub returns-clause-once : goal.returns-clause-once
returns-clause-once g c =
    once_permuted c.args.checked.now.frame.objects c.in_ok-order.order.items c.sort_unstable_by_key.new.self.items c.sort_unstable_by_key.ensures.permutation c.in_ok-order.ensures.once
