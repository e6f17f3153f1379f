use Rattle.std.proofs.Common.{sym, ◌∙◌}
use Rattle.std.proofs.lemmas.Bool.{false≢true}
use Rattle.bplist_objects.specs.declared.frame.Frame.{Frame}
use Rattle.bplist_objects.specs.Framed.{frame_in}
use Rattle.bplist_cert.proofs.key_order.follows.Goals as goal

pub returns-then-not-branch-clause-exact : goal.returns-then-not-branch-clause-exact
returns-then-not-branch-clause-exact g c = λ honest known read.
    let first = (rw c.in-Some-2.is at c.in_ok-first.ensures.exact) honest (rw c.in-Some.is at read) in
    let second = (rw (c.in-Some-3.is, c.in_ok-first.ensures.reads) at c.in_ok-second.ensures.exact) honest in
    let after = (rw (c.in_ok-second.ensures.reads, c.in_ok-first.ensures.reads) at c.in_ok-comes_after.ensures.exact) honest known first second in
    (after.0, rw c.in-Some.is (λ asc. false≢true (sym c.if-not-branch.true ∙ after.1.1 asc)))

pub returns-clause-exact : goal.returns-clause-exact
returns-clause-exact g c = λ honest known read.
    let f = (g.P.Source.means c.args.src.now).octets in
    let F : Frame = frame_in (g.P.Source.means c.args.src.now) in
    let first = (rw c.in-Some-2.is at c.in_ok-first.ensures.exact) honest (rw c.in-Some.is at read) in
    let second = (rw (c.in-Some-3.is, c.in_ok-first.ensures.reads) at c.in_ok-second.ensures.exact) honest in
    let after = (rw (c.in_ok-second.ensures.reads, c.in_ok-first.ensures.reads) at c.in_ok-comes_after.ensures.exact) honest known first second in
    let asc = after.1.0 c.if-not-branch.false in
    (c.insert.ensures f F after.0 asc, (second, rw c.in-Some.is asc))
