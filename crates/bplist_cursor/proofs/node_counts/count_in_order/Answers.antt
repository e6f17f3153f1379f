use Rattle.std.proofs.Common.{rules, arith, ◌+◌}
use Rattle.bplist_cert.proofs.CheckSteps.{on_err}
use Rattle.bplist_cursor.proofs.CountSteps.{counted_more, refs_counted, value_in}
use Rattle.bplist_cursor.proofs.PassSteps.{one_asked, within_pass}
use Rattle.bplist_cursor.proofs.node_counts.count_in_order.Goals as goal

pub returns-in_err-counts-clause-exact : goal.returns-in_err-counts-clause-exact
returns-in_err-counts-clause-exact g c = λ honest heights valid is none.
    let f = c.args.checked.now.source.octets in
    let F = c.args.checked.now.frame in
    let are = c.loop-n.invariant.counted honest heights valid is none in
    let v = value_in f F heights valid c.args.order.now is c.loop-n.n-index c.loop-n-test.true in
    let counted = refs_counted f F heights valid c.args.order.now is c.loop-n.n-index c.loop-n.counts c.loop-n-test.true are in
    let here = (rw c.loop-n.invariant.same at c.in_err-counts.ensures.exact) honest v.0 v.1 counted in
    on_err _ _ _ _ c.from_residual.ensures.1 here

pub loop-n-preserved : goal.loop-n-preserved
loop-n-preserved g c =
    let f = c.args.checked.now.source.octets in
    let F = c.args.checked.now.frame in
    record {
      same = search rules;
      count = search rules;
      asked = λ honest.
          one_asked f F c.args.order.now c.loop-n.n-index c.args.checked.now.asked c.loop-n.checked.asked _ c.loop-n-test.true (c.loop-n.invariant.asked honest)
          ((rw c.loop-n.invariant.same at c.in_ok-counts.ensures.asks) honest);
      counted = λ honest heights valid is none.
          let are = c.loop-n.invariant.counted honest heights valid is none in
          let counted = refs_counted f F heights valid c.args.order.now is c.loop-n.n-index c.loop-n.counts c.loop-n-test.true are in
          counted_more f F heights valid c.args.order.now is c.loop-n.n-index c.loop-n.counts c.in_ok-counts.field-0 c.loop-n-test.true c.loop-n.invariant.count are
          (λ v h. (rw c.loop-n.invariant.same at c.in_ok-counts.ensures.exact) honest v h counted);
    }

pub returns-in_err-counts-clause-asks : goal.returns-in_err-counts-clause-asks
returns-in_err-counts-clause-asks g c = λ honest t taken.
    let f = c.args.checked.now.source.octets in
    let F = c.args.checked.now.frame in
    within_pass f F c.args.order.now (c.loop-n.n-index + 1) c.args.checked.now.asked _ t (omega (arith, c.loop-n-test.true)) taken
    (one_asked f F c.args.order.now c.loop-n.n-index c.args.checked.now.asked c.loop-n.checked.asked _ c.loop-n-test.true (c.loop-n.invariant.asked honest)
    ((rw c.loop-n.invariant.same at c.in_err-counts.ensures.asks) honest))

pub returns-clause-asks : goal.returns-clause-asks
returns-clause-asks g c = λ honest t taken.
    within_pass c.args.checked.now.source.octets c.args.checked.now.frame c.args.order.now c.loop-n.n-index c.args.checked.now.asked _ t (omega arith) taken (c.loop-n.invariant.asked honest)
