use Rattle.std.proofs.Common.{arith, subst, sym, ap, ◌∙◌, ◌+◌}
use Rattle.bplist_cursor.specs.ObjectSizes.{AreHigher}
use Rattle.bplist_cursor.proofs.HeightOrder.{higher_more, higher_same}
use Rattle.bplist_cursor.proofs.PassSteps.{AreRising, rising_more, rising_same}
use Rattle.bplist_cursor.proofs.node_counts.higher_than.Goals.{then-height+in_ok-push, else-height}
use Rattle.bplist_cursor.proofs.node_counts.higher_than.Goals as goal

pub loop-n-preserved : goal.loop-n-preserved
loop-n-preserved g c =
    let heights = c.args.checked.now.certificate.heights in
    let i = c.loop-n.invariant in
    elim c.if-height.branch [
      | then-height+in_ok-push w ↦
          let items = ap (λ v. v.items) w.order-is ∙ w.in_ok-push.ensures.items in
          record {
            higher = subst (AreHigher heights c.args.height (c.loop-n.n + 1)) (sym items)
                (higher_more heights c.loop-n.order.items c.args.height c.loop-n.n i.higher (omega (arith, w.if-height.true, c.height.ensures)));
            rising = subst (AreRising (c.loop-n.n + 1)) (sym items) (rising_more c.loop-n.n c.loop-n.order.items i.rising);
          }
      | else-height w ↦
          let items = ap (λ v. v.items) w.order-is in
          record {
            higher = subst (AreHigher heights c.args.height (c.loop-n.n + 1)) (sym items)
                (higher_same heights c.loop-n.order.items c.args.height c.loop-n.n i.higher (omega (arith, w.if-height.false, c.height.ensures)));
            rising = subst (AreRising (c.loop-n.n + 1)) (sym items) (rising_same c.loop-n.n c.loop-n.order.items i.rising);
          }
    ]
