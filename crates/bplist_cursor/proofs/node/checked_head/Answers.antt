use Rattle.std.proofs.Common.{sym, ap, ◌∙◌}
use Rattle.bplist_objects.specs.Heads.{content_at}
use Rattle.bplist_cert.proofs.CheckSteps.{on_err}
use Rattle.bplist_cursor.proofs.Causes.{unread_never}
use Rattle.bplist_cursor.proofs.node.checked_head.Goals as goal

pub returns-in_err-shape_of-clause-exact : goal.returns-in_err-shape_of-clause-exact
returns-in_err-shape_of-clause-exact g c = λ honest content s.
    let is = c.frame-frame.ensures.checked.framed honest in
    on_err _ _ _ _ c.from_residual.ensures.1 (unread_never c.in_err-shape_of.field-0.0 ((rw c.frame-frame.ensures.frame at c.in_err-shape_of.ensures.shaped) honest is s.shape s.has))

pub returns-clause-exact : goal.returns-clause-exact
returns-clause-exact g c = λ honest content s.
    let is = c.frame-frame.ensures.checked.framed honest in
    s.means ∙ ap (content_at c.args.checked.now.source.octets c.args.checked.now.frame) (sym ((rw c.frame-frame.ensures.frame at c.in_ok-shape_of.ensures.shaped) honest is s.shape s.has))
