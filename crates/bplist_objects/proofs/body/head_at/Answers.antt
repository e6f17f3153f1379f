use Rattle.std.proofs.Common.{◌∙◌}
use Rattle.std.proofs.lemmas.Result.{err_from_is_err_and}
use Rattle.bplist_objects.specs.ObjectRules.{KeepsByObject, shape_rules, body_rules}
use Rattle.bplist_objects.proofs.BodyLaws.{object_fault_after, object_fault_before}
use Rattle.bplist_objects.proofs.RuleLaws.{kept_all_after}
use Rattle.bplist_objects.proofs.body.head_at.Goals as goal

pub returns-in_err-check_body-clause-rules : goal.returns-in_err-check_body-clause-rules
returns-in_err-check_body-clause-rules g c = λ honest framed at.
    let f = (g.S.Source.means c.args.src.now).octets in
    let p = err_from_is_err_and c.from_residual-in_err-check_body.result c.from_residual-in_err-check_body.ensures.1 in
    let shape = c.in_ok-head.ensures.rules honest framed at in
    let body = rw c.in_ok-head.ensures.reads at c.in_err-check_body.ensures.exact in
    rw (p.1, p.2) (object_fault_after f c.args.frame.now c.args.n.0 c.in_err-check_body.field-0.0 shape.1 (body honest at shape.0))

pub returns-in_err-head-clause-rules : goal.returns-in_err-head-clause-rules
returns-in_err-head-clause-rules g c = λ honest framed at.
    let p = err_from_is_err_and c.from_residual.result c.from_residual.ensures.1 in
    rw (p.1, p.2) (object_fault_before (g.S.Source.means c.args.src.now).octets c.args.frame.now c.args.n.0 c.in_err-head.field-0.0 (c.in_err-head.ensures.rules honest framed at))

pub check_body-requires-clause-safe : goal.check_body-requires-clause-safe
check_body-requires-clause-safe g c = rw c.in_ok-head.ensures.reads c.requires.safe

pub check_body-requires-clause-head : goal.check_body-requires-clause-head
check_body-requires-clause-head g c = c.in_ok-head.ensures.safe

pub returns-clause-reads : goal.returns-clause-reads
returns-clause-reads g c = c.in_ok-check_body.ensures.reads ∙ c.in_ok-head.ensures.reads

pub returns-clause-rules : goal.returns-clause-rules
returns-clause-rules g c = λ honest framed at.
    let shape = c.in_ok-head.ensures.rules honest framed at in
    let body = rw c.in_ok-head.ensures.reads at c.in_ok-check_body.ensures.exact in
    let keeps = KeepsByObject (g.S.Source.means c.args.src.now).octets c.args.frame.now c.args.n.0 in
    (shape.0, kept_all_after keeps shape_rules body_rules shape.1 (body honest at shape.0))

pub returns-clause-safe : goal.returns-clause-safe
returns-clause-safe g c = c.in_ok-head.ensures.safe

pub returns-clause-behind : goal.returns-clause-behind
returns-clause-behind g c = c.in_ok-head.ensures.behind
