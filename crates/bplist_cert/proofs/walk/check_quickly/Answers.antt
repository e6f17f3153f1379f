use Rattle.std.proofs.Common.{◌≡◌, ◌+◌, ◌-◌, ◌≤◌, ◌∙◌, ap, subst, arith}
use Rattle.bplist_objects.specs.declared.frame.Frame.{Frame}
use Rattle.bplist_objects.specs.Framed.{frame_in}
use Rattle.bplist_objects.specs.Frame.{off}
use Rattle.bplist_objects.specs.ObjectRules.{KeepsByObject, shape_rules, body_rules}
use Rattle.bplist_objects.proofs.AnswerLaws.{answers_mean}
use Rattle.bplist_objects.proofs.HeadTies.{announced_shape, kept_spells}
use Rattle.bplist_objects.proofs.RuleLaws.{kept_all_after}
use Rattle.bplist_cert.specs.declared.walk.Pass.TheVariants.{Quick}
use Rattle.bplist_cert.specs.Lists.{Lists}
use Rattle.bplist_cert.specs.PairFault.{IsCheckedObject}
use Rattle.bplist_cert.proofs.CheckSteps.{given_weaker, seen, on_err}
use Rattle.bplist_cert.proofs.KeysLooks.{no_refs_keys, none_collected}
use Rattle.bplist_cert.proofs.QuickLooks.{rest_shown, shape_shown, sum_shown}
use Rattle.bplist_cert.proofs.walk.check_quickly.Goals as goal

pub returns-in_ok-walked-in-Done-clause-exact : goal.returns-in_ok-walked-in-Done-clause-exact
returns-in_ok-walked-in-Done-clause-exact g c = λ honest place vouched sums.
    let f = (g.P.Source.means c.args.src.now).octets in
    let F : Frame = frame_in (g.P.Source.means c.args.src.now) in
    let n = c.args.n.0 in
    let visited = (rw c.in-Done.is at c.in_ok-end.ensures.exact) honest place in
    let h = rw (place, c.frame-table.ensures.frame) at c.in_ok-walked-in-Done.ensures.room in
    let now : c.args.walked.now.used.octets + (visited.0.«end» - off f F n) ≡ c.in_ok-walked-in-Done.field-0.octets = omega (arith, h.0, visited.2) in
    let room : c.args.walked.now.used.octets + (visited.0.«end» - off f F n) + 8 ≤ F.table = omega (arith, now, h.1) in (
      subst (IsCheckedObject f F c.args.cert.now Quick n) now
          (seen f F c.args.cert.now.heights c.args.cert.now.keys n (c.frame-table.ensures.framed.framed honest) c.requires.within
          visited.0 visited.1 visited.4 vouched c.args.walked.now.used.octets sums room (λ k lt. absurd (omega (arith, lt, visited.3))) (λ k lt. absurd (omega (arith, lt, visited.3)))),
      none_collected f F c.args.cert.now.heights n (λ _. no_refs_keys f F n visited.0 visited.1 visited.3) c.args.walked.now.named,
    )

pub returns-in_ok-walked-in-Body-clause-exact : goal.returns-in_ok-walked-in-Body-clause-exact
returns-in_ok-walked-in-Body-clause-exact g c = λ honest place vouched sums.
    let shown = c.deref.ensures.value ∙ ap (λ (x : Lists). x.heights) c.cert.view_is in
    let f = (g.P.Source.means c.args.src.now).octets in
    let F : Frame = frame_in (g.P.Source.means c.args.src.now) in
    let visited = (rw c.in-Body.is at c.in_ok-end.ensures.exact) honest place in
    let h = rw (place, c.frame-table.ensures.frame) at c.in_ok-walked-in-Body.ensures.room in
    let room = rw h.0 at h.1 in
    answers_mean _ _ _ _ c.check_rest.result (λ _ rest.
    let kept = kept_all_after (KeepsByObject f F c.args.n.0) shape_rules body_rules visited.1 rest.0.0 in (
      rw h.0 (seen f F c.args.cert.now.heights c.args.cert.now.keys c.args.n.0 (c.frame-table.ensures.framed.framed honest) c.requires.within
          c.in-Body.head visited.0 kept vouched c.args.walked.now.used.octets sums room rest.0.1.0 rest.0.1.1),
      rest.1,
    )) (λ fault. rest_shown f F c.args.cert.now.heights c.args.n.0 c.in-Body.head visited.0)
    ((rw (c.in_ok-end.ensures.reads, shown) at c.check_rest.ensures.exact) honest place visited.0)

pub returns-in_err-end-clause-exact : goal.returns-in_err-end-clause-exact
returns-in_err-end-clause-exact g c = λ honest place vouched sums.
    on_err _ _ _ _ c.from_residual.ensures.1 (given_weaker _ _ c.in_err-end.field-0.0 (shape_shown _ _ c.args.cert.now.heights c.args.n.0) (c.in_err-end.ensures.exact honest place))

pub returns-in_err-walked-in-Done-clause-exact : goal.returns-in_err-walked-in-Done-clause-exact
returns-in_err-walked-in-Done-clause-exact g c = λ honest place vouched sums.
    let n = c.args.n.0 in
    let visited = (rw c.in-Done.is at c.in_ok-end.ensures.exact) honest place in
    let h = rw (place, c.frame-table.ensures.frame) at c.in_err-walked-in-Done.ensures.room in
    let shape = (kept_spells _ _ n (c.frame-table.ensures.framed.framed honest) c.requires.within visited.0 visited.1 visited.4).0 in
    on_err _ _ _ _ c.from_residual-in_err-walked-in-Done.ensures.1 (sum_shown _ _ c.args.cert.now.heights n visited.0 shape vouched c.args.walked.now.used.octets sums (omega (arith, h.3, visited.2)))

pub returns-in_err-walked-in-Body-clause-exact : goal.returns-in_err-walked-in-Body-clause-exact
returns-in_err-walked-in-Body-clause-exact g c = λ honest place vouched sums.
    let n = c.args.n.0 in
    let visited = (rw c.in-Body.is at c.in_ok-end.ensures.exact) honest place in
    let h = rw (place, c.frame-table.ensures.frame) at c.in_err-walked-in-Body.ensures.room in
    let shape = announced_shape _ _ n (c.frame-table.ensures.framed.framed honest) c.requires.within c.in-Body.head visited.0 visited.1 in
    on_err _ _ _ _ c.from_residual-in_err-walked-in-Body.ensures.1 (sum_shown _ _ c.args.cert.now.heights n c.in-Body.head shape vouched c.args.walked.now.used.octets sums h.3)
