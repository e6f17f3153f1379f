use Rattle.std.proofs.Common.{rules, arith, ◌+◌}
use Rattle.bplist_cert.proofs.CheckSteps.{on_err}
use Rattle.bplist_cursor.proofs.OrderSteps.{value_at, refs_sized, set_more}
use Rattle.bplist_cursor.proofs.PassSteps.{one_asked, within_pass}
use Rattle.bplist_cursor.proofs.sizes.measure_in_order.Goals as goal

pub returns-in_err-size-clause-exact : goal.returns-in_err-size-clause-exact
returns-in_err-size-clause-exact g c = λ honest heights valid is empty.
    let f = c.args.checked.now.source.octets in
    let F = c.args.checked.now.frame in
    let set = c.loop-n.invariant.set honest heights valid is empty in
    let v = value_at f F heights c.args.order.now valid is c.loop-n.n-index c.loop-n-test.true in
    let sized = refs_sized f F heights c.args.order.now valid is c.loop-n.n-index c.loop-n.sizes c.loop-n-test.true set in
    let here = (rw c.loop-n.invariant.same at c.in_err-size.ensures.exact) honest v.0 v.1 sized in
    on_err _ _ _ _ c.from_residual.ensures.1 here

pub loop-n-preserved : goal.loop-n-preserved
loop-n-preserved g c =
    let f = c.args.checked.now.source.octets in
    let F = c.args.checked.now.frame in
    record {
      same = search rules;
      count = search rules;
      asked = λ honest.
          one_asked f F c.args.order.now c.loop-n.n-index c.args.checked.now.asked c.loop-n.checked.asked _ c.loop-n-test.true (c.loop-n.invariant.asked honest)
          ((rw c.loop-n.invariant.same at c.in_ok-size.ensures.asks) honest);
      set = λ honest heights valid is empty.
          let set = c.loop-n.invariant.set honest heights valid is empty in
          let sized = refs_sized f F heights c.args.order.now valid is c.loop-n.n-index c.loop-n.sizes c.loop-n-test.true set in
          set_more f F heights c.args.order.now valid is c.loop-n.n-index c.loop-n.sizes c.in_ok-size.size c.loop-n-test.true c.loop-n.invariant.count set
          (λ v h. (rw c.loop-n.invariant.same at c.in_ok-size.ensures.exact) honest v h sized);
    }

pub returns-in_err-size-clause-asks : goal.returns-in_err-size-clause-asks
returns-in_err-size-clause-asks g c = λ honest t taken.
    let f = c.args.checked.now.source.octets in
    let F = c.args.checked.now.frame in
    within_pass f F c.args.order.now (c.loop-n.n-index + 1) c.args.checked.now.asked _ t (omega (arith, c.loop-n-test.true)) taken
    (one_asked f F c.args.order.now c.loop-n.n-index c.args.checked.now.asked c.loop-n.checked.asked _ c.loop-n-test.true (c.loop-n.invariant.asked honest)
    ((rw c.loop-n.invariant.same at c.in_err-size.ensures.asks) honest))

pub returns-clause-asks : goal.returns-clause-asks
returns-clause-asks g c = λ honest t taken.
    within_pass c.args.checked.now.source.octets c.args.checked.now.frame c.args.order.now c.loop-n.n-index c.args.checked.now.asked _ t (omega arith) taken (c.loop-n.invariant.asked honest)
