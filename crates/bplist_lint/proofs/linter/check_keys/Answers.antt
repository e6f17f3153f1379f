use Rattle.std.proofs.Common.{inr}
use Rattle.bplist_cert.proofs.CheckSteps.{refused_weaker, on_err}
use Rattle.bplist_lint.proofs.linter.check_keys.Goals as goal

pub returns-in-Some-clause-exact : goal.returns-in-Some-clause-exact
returns-in-Some-clause-exact g c = λ honest.
    let known = c.requires.known honest in
    let w = known.walked in
    let quick = rw c.in-Some.is at ((rw (c.deref.ensures.value, c.deref-2.ensures.value) at c.in_ok-heights.ensures.exact) honest known.named w.marked w.tallied.kept w.childless known.all known.classes) in
    (record { walked = w; keys = quick.0 }, quick.1)

pub returns-in_err-numbers-clause-exact : goal.returns-in_err-numbers-clause-exact
returns-in_err-numbers-clause-exact g c = λ honest.
    let m = g.P.Source.means c.args.src.now in
    let framed = c.frame-frame.ensures.framed.framed honest in
    let known = c.requires.known honest in
    let w = known.walked in
    let keys = (rw (c.deref-3.ensures.value, c.deref-4.ensures.value, c.in_ok-heights.ensures.reads, c.in_ok-heights.ensures.same) at c.in_err-numbers.ensures.exact) honest known.named w.marked w.tallied.kept w.childless known.all known.classes in
    on_err _ _ _ _ c.from_residual-in_err-numbers.ensures.1 (refused_weaker _ _ c.in_err-numbers.field-0.0 (λ fault h. inr (_, framed, inr (w.tallied.kept, h))) keys)

pub returns-clause-exact : goal.returns-clause-exact
returns-clause-exact g c = λ honest.
    let known = c.requires.known honest in
    let w = known.walked in
    let keys = (rw (c.deref-3.ensures.value, c.deref-4.ensures.value, c.in_ok-heights.ensures.reads, c.in_ok-heights.ensures.same) at c.in_ok-numbers.ensures.exact) honest known.named w.marked w.tallied.kept w.childless known.all known.classes in
    (record { walked = w; keys = keys }, tt)
