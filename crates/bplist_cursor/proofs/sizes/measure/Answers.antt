use Rattle.std.proofs.Common.{rules, arith, ◌≡◌, subst, sym, replicate, None, length, drop, ◌∙◌}
use Rattle.std.proofs.lemmas.List.{take_at}
use Rattle.std.proofs.Math.Logic.{∥∥₁_elim}
use Rattle.bplist_cert.proofs.CheckSteps.{on_err}
use Rattle.bplist_cursor.specs.Sizes.{AreMeasures}
use Rattle.bplist_cursor.proofs.Causes.{unread_excused}
use Rattle.bplist_cursor.proofs.OrderSteps.{measured, are_measures_prop, excused_prop, empty_table}
use Rattle.bplist_cursor.proofs.PassSteps.{pass_fits, within_prop}
use Rattle.bplist_cursor.proofs.sizes.measure.Goals as goal

pub returns-in_err-measure_in_order-clause-exact : goal.returns-in_err-measure_in_order-clause-exact
returns-in_err-measure_in_order-clause-exact g c = λ honest.
    let checked = c.args.checked.now in
    let nothing : c.deref_mut.result.now ≡ replicate checked.frame.objects None = search rules in
    on_err _ _ _ _ c.from_residual-in_err-measure_in_order.ensures.1 (∥∥₁_elim (c.frame-objects.ensures.checked.accepted honest) (excused_prop _) (λ a. unread_excused c.in_err-measure_in_order.field-0.0
    ((rw c.deref.ensures.value at c.in_err-measure_in_order.ensures.exact) honest checked.certificate.heights a.valid c.in_ok-order.ensures.order
    (empty_table c.deref_mut.result.now checked.frame.objects nothing))))

pub returns-clause-exact : goal.returns-clause-exact
returns-clause-exact g c = λ honest.
    let checked = c.args.checked.now in
    let f = checked.source.octets in
    let F = checked.frame in
    let H = checked.certificate.heights in
    let nothing : c.deref_mut.result.now ≡ replicate F.objects None = search rules in
    let long : length c.measure_in_order.new.sizes ≡ c.in_ok-sizes.sizes.len = omega (arith, c.measure_in_order.auto.sizes, c.deref_mut.ensures.len) in
    let sizes_are = c.new.ensures ∙ take_at c.measure_in_order.new.sizes (drop (length c.measure_in_order.new.sizes) c.in_ok-sizes.sizes.items) c.in_ok-sizes.sizes.len long in
    subst (AreMeasures f F H) (sym sizes_are) (∥∥₁_elim (c.frame-objects.ensures.checked.accepted honest) (are_measures_prop f F H _) (λ a.
    measured f F H c.in_ok-order.order.items a.valid c.in_ok-order.ensures.order c.measure_in_order.new.sizes
    ((rw c.deref.ensures.value at c.in_ok-measure_in_order.ensures.exact) honest H a.valid c.in_ok-order.ensures.order (empty_table c.deref_mut.result.now F.objects nothing))))

pub returns-in_err-measure_in_order-clause-asks : goal.returns-in_err-measure_in_order-clause-asks
returns-in_err-measure_in_order-clause-asks g c = λ honest.
    let checked = c.args.checked.now in
    ∥∥₁_elim (c.frame-objects.ensures.checked.accepted honest) (within_prop _ _) (λ a.
    let pass = pass_fits checked.source.octets checked.frame checked.certificate.heights c.in_ok-order.order.items 0 a.valid c.in_ok-order.ensures.order c.in_ok-order.ensures.once in
    omega (arith, pass.2, (rw c.deref.ensures.value at c.in_err-measure_in_order.ensures.asks) honest pass.0 pass.1))

pub returns-clause-asks : goal.returns-clause-asks
returns-clause-asks g c = λ honest.
    let checked = c.args.checked.now in
    ∥∥₁_elim (c.frame-objects.ensures.checked.accepted honest) (within_prop _ _) (λ a.
    let pass = pass_fits checked.source.octets checked.frame checked.certificate.heights c.in_ok-order.order.items 0 a.valid c.in_ok-order.ensures.order c.in_ok-order.ensures.once in
    omega (arith, pass.2, (rw c.deref.ensures.value at c.in_ok-measure_in_order.ensures.asks) honest pass.0 pass.1))
