use Rattle.std.proofs.Common.{◌∙◌, ap}
use Rattle.bplist_cert.specs.Lists.{Lists}
use Rattle.bplist_cert.proofs.CheckSteps.{object_fault, overfull_fault, heights_fault, seen, on_err}
use Rattle.bplist_cert.proofs.walk.check_exactly.Goals as goal

pub returns-in_err-head-clause-exact : goal.returns-in_err-head-clause-exact
returns-in_err-head-clause-exact g c = λ honest place vouched sums.
    on_err _ _ _ _ c.from_residual.ensures.1 (object_fault _ _ c.args.cert.now.heights c.args.cert.now.keys c.args.n.0 c.in_err-head.field-0.0 (c.in_err-head.ensures.rules honest place))

pub returns-in_err-now-clause-exact : goal.returns-in_err-now-clause-exact
returns-in_err-now-clause-exact g c = λ honest place vouched sums.
    let rules = c.in_ok-head.ensures.rules honest place in
    let h = rw (place, c.frame-table.ensures.frame) at c.in_err-now.ensures.room in
    on_err _ _ _ _ c.from_residual-in_err-now.ensures.1 (overfull_fault _ _ c.args.cert.now.heights c.args.cert.now.keys c.args.n.0 (c.frame-table.ensures.framed.framed honest) c.requires.within
    c.in_ok-head.head rules.0 rules.1 vouched c.args.used.octets sums c.in_err-now.field-0.0 h.0 h.1 h.2 h.3)

pub returns-in_err-check_heights-clause-exact : goal.returns-in_err-check_heights-clause-exact
returns-in_err-check_heights-clause-exact g c = λ honest place vouched sums.
    let shown = c.deref.ensures.value ∙ ap (λ (x : Lists). x.heights) c.cert.view_is in
    let rules = c.in_ok-head.ensures.rules honest place in
    let h = rw (place, c.frame-table.ensures.frame) at c.in_ok-now.ensures.room in
    let room = rw h.0 at h.1 in
    let unmet = (rw (c.in_ok-head.ensures.reads, shown) at c.in_err-check_heights.ensures.exact) honest in
    on_err _ _ _ _ c.from_residual-in_err-check_heights.ensures.1 (heights_fault _ _ c.args.cert.now.heights c.args.cert.now.keys c.args.n.0 (c.frame-table.ensures.framed.framed honest) c.requires.within
    c.in_ok-head.head rules.0 rules.1 vouched c.args.used.octets sums room c.in_err-check_heights.field-0.0 unmet)

pub returns-clause-exact : goal.returns-clause-exact
returns-clause-exact g c = λ honest place vouched sums.
    let shown = c.deref.ensures.value ∙ ap (λ (x : Lists). x.heights) c.cert.view_is in
    let rules = c.in_ok-head.ensures.rules honest place in
    let h = rw (place, c.frame-table.ensures.frame) at c.in_ok-now.ensures.room in
    let room = rw h.0 at h.1 in
    let lower = (rw (c.in_ok-head.ensures.reads, shown) at c.in_ok-check_heights.ensures.exact) honest in
    rw h.0 (seen _ _ c.args.cert.now.heights c.args.cert.now.keys c.args.n.0 (c.frame-table.ensures.framed.framed honest) c.requires.within
    c.in_ok-head.head rules.0 rules.1 vouched c.args.used.octets sums room lower.0 lower.1)
