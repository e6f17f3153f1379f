use Rattle.std.proofs.Common.{arith, sym, ◌∙◌}
use Rattle.std.proofs.lemmas.Result.{on_ok_weaker}
use Rattle.bplist_lint.proofs.ReachedObjects.{walking_leaf, walking_container}
use Rattle.bplist_lint.proofs.walk.visit.Goals as goal

pub returns-in-Ok-clause-walking : goal.returns-in-Ok-clause-walking
returns-in-Ok-clause-walking g c = λ honest w.
    let framed = c.frame-frame.ensures.framed.framed honest in
    let is = c.in_ok-place.ensures.value honest in
    let v = (rw (c.in_ok-place.ensures.reads, c.in-Done.is) at c.in_ok-end.ensures.exact) honest is in
    let with = c.in-Ok.ensures in
    walking_leaf _ _ c.args.n v.0 v.1 (v.4.0, (v.4.1.0, (v.4.1.1.0, (v.4.1.1.1.0, tt)))) framed c.requires.within _ _ _ _ _ _ _ w
    (record { reached = with.reached; used = omega (arith, is, with.used, v.2); references = omega (arith, with.references, v.3) }) v.3 v.4

pub returns-in_ok-check_body-in-Body-clause-walking : goal.returns-in_ok-check_body-in-Body-clause-walking
returns-in_ok-check_body-in-Body-clause-walking g c = λ honest w.
    let framed = c.frame-frame.ensures.framed.framed honest in
    let is = c.in_ok-place.ensures.value honest in
    let v = (rw (c.in_ok-place.ensures.reads, c.in-Body.is) at c.in_ok-end.ensures.exact) honest is in
    let none = sym c.refs_of-references.ensures ∙ c.if-references-eq0.true in
    let with = c.in-Ok-with.ensures in
    let body = (rw (c.frame-frame.ensures.frame, c.in_ok-end.ensures.reads, c.in_ok-place.ensures.reads) at c.in_ok-check_body-in-Body.ensures.exact) honest is v.0 in
    walking_leaf _ _ c.args.n c.in-Body.head v.0 v.1 framed c.requires.within _ _ _ _ _ _ _ w
    (record { reached = with.reached; used = rw is at with.used; references = omega (arith, with.references, c.refs_of-references.ensures) }) none
    (v.1.0, (v.1.1.0, (v.1.1.1.0, (v.1.1.1.1.0, body))))

pub returns-else-references-eq0-clause-walking : goal.returns-else-references-eq0-clause-walking
returns-else-references-eq0-clause-walking g c = on_ok_weaker c.mark_body.result (λ body honest w.
    let framed = c.frame-frame.ensures.framed.framed honest in
    let is = c.in_ok-place.ensures.value honest in
    let v = (rw (c.in_ok-place.ensures.reads, c.in-Body.is) at c.in_ok-end.ensures.exact) honest is in
    let with = c.in-Ok-with.ensures in
    let b = body honest in
    walking_container _ _ c.args.n c.in-Body.head v.0 v.1 framed c.requires.within _ _ _ _ _ _ _ w
    (record { reached = with.reached; used = rw is at with.used; references = omega (arith, with.references, c.refs_of-references.ensures) })
    (omega (arith, c.refs_of-references.ensures, c.if-references-eq0.false)) b.0 _ _ _ b.1 c.mark_body.ensures.names.keeps b.2)
    (rw (c.in_ok-end.ensures.reads, c.in_ok-place.ensures.reads) at c.mark_body.ensures.exact)
