use Rattle.std.proofs.Common.{rules, arith, ◌≡◌, ℕ, subst, sym, replicate, length, drop}
use Rattle.std.proofs.lemmas.List.{take_at}
use Rattle.std.proofs.Math.Logic.{∥∥₁_elim}
use Rattle.bplist_cert.specs.Valid.{IsVouchedBy}
use Rattle.bplist_cert.proofs.CheckSteps.{on_err}
use Rattle.bplist_cursor.specs.NodeCounts.{IsCounted}
use Rattle.bplist_cursor.proofs.Causes.{unread_excused}
use Rattle.bplist_cursor.proofs.CountSteps.{counted_all, counted_none, counted_prop}
use Rattle.bplist_cursor.proofs.OrderSteps.{excused_prop}
use Rattle.bplist_cursor.proofs.PassSteps.{pass_fits, within_prop}
use Rattle.bplist_cursor.proofs.node_counts.count_all.Goals as goal

pub returns-in_err-count_in_order-clause-exact : goal.returns-in_err-count_in_order-clause-exact
returns-in_err-count_in_order-clause-exact g c = λ honest.
    let checked = c.args.checked.now in
    let ones : c.deref_mut.result.now ≡ replicate checked.frame.objects 1 = search rules in
    on_err _ _ _ _ c.from_residual-in_err-count_in_order.ensures.1 (∥∥₁_elim (c.frame-objects.ensures.checked.accepted honest) (excused_prop _) (λ a. unread_excused c.in_err-count_in_order.field-0.0
    ((rw c.deref.ensures.value at c.in_err-count_in_order.ensures.exact) honest checked.certificate.heights a.valid c.in_ok-order.ensures.order
    (counted_none checked.source.octets checked.frame checked.certificate.heights a.valid c.in_ok-order.order.items c.in_ok-order.ensures.order c.deref_mut.result.now ones))))

pub returns-clause-exact : goal.returns-clause-exact
returns-clause-exact g c = λ honest.
    let checked = c.args.checked.now in
    let f = checked.source.octets in
    let F = checked.frame in
    let H = checked.certificate.heights in
    let ones : c.deref_mut.result.now ≡ replicate F.objects 1 = search rules in
    let long : length c.count_in_order.new.counts ≡ c.in_ok-counts.counts.len = omega (arith, c.count_in_order.auto.counts, c.deref_mut.ensures.len) in
    let are = take_at c.count_in_order.new.counts (drop (length c.count_in_order.new.counts) c.in_ok-counts.counts.items) c.in_ok-counts.counts.len long in
    subst (λ l. (n : ℕ) → IsVouchedBy H n → IsCounted f F l n) (sym are) (∥∥₁_elim (c.frame-objects.ensures.checked.accepted honest) (counted_prop f F H _) (λ a.
    counted_all f F H a.valid c.in_ok-order.order.items c.in_ok-order.ensures.order c.count_in_order.new.counts
    ((rw c.deref.ensures.value at c.in_ok-count_in_order.ensures.exact) honest H a.valid c.in_ok-order.ensures.order
    (counted_none f F H a.valid c.in_ok-order.order.items c.in_ok-order.ensures.order c.deref_mut.result.now ones))))

pub returns-in_err-count_in_order-clause-asks : goal.returns-in_err-count_in_order-clause-asks
returns-in_err-count_in_order-clause-asks g c = λ honest.
    let checked = c.args.checked.now in
    ∥∥₁_elim (c.frame-objects.ensures.checked.accepted honest) (within_prop _ _) (λ a.
    let pass = pass_fits checked.source.octets checked.frame checked.certificate.heights c.in_ok-order.order.items 1 a.valid c.in_ok-order.ensures.order c.in_ok-order.ensures.once in
    omega (arith, pass.2, (rw c.deref.ensures.value at c.in_err-count_in_order.ensures.asks) honest pass.0 pass.1))

pub returns-clause-asks : goal.returns-clause-asks
returns-clause-asks g c = λ honest.
    let checked = c.args.checked.now in
    ∥∥₁_elim (c.frame-objects.ensures.checked.accepted honest) (within_prop _ _) (λ a.
    let pass = pass_fits checked.source.octets checked.frame checked.certificate.heights c.in_ok-order.order.items 1 a.valid c.in_ok-order.ensures.order c.in_ok-order.ensures.once in
    omega (arith, pass.2, (rw c.deref.ensures.value at c.in_ok-count_in_order.ensures.asks) honest pass.0 pass.1))
