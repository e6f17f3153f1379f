use Rattle.std.proofs.Common.{◌≡◌, subst, sym}
use Rattle.bplist_cert.proofs.CheckSteps.{on_err}
use Rattle.bplist_cursor.specs.Members.{HoldsMember, member_of, member_reference, named}
use Rattle.bplist_cursor.proofs.Causes.{unread_excused}
use Rattle.bplist_cursor.proofs.Membership.{held_members}
use Rattle.bplist_cursor.proofs.VouchedObjects.{never_changed}
use Rattle.bplist_cursor.proofs.members.member.Goals as goal

pub returns-in_err-head-clause-reference : goal.returns-in_err-head-clause-reference
returns-in_err-head-clause-reference g c = λ honest vouched content s.
    on_err _ _ _ _ c.from_residual.ensures.1 (unread_excused c.in_err-head.field-0.0 (c.in_err-head.ensures.exact honest vouched content s))

pub returns-in_err-head-clause-holds : goal.returns-in_err-head-clause-holds
returns-in_err-head-clause-holds g c = λ honest vouched v h.
    let held = held_members c.args.checked.now.source.octets c.args.checked.now.frame v c.args.node.object.0 h in
    on_err _ _ _ _ c.from_residual.ensures.1 (unread_excused c.in_err-head.field-0.0 (c.in_err-head.ensures.exact honest vouched held.0 held.1))

pub returns-in_err-head-clause-unchanged : goal.returns-in_err-head-clause-unchanged
returns-in_err-head-clause-unchanged g c = λ honest vouched.
    never_changed c.args.checked.now c.frame-frame.ensures.checked honest c.args.node.object.0 vouched
    (λ content member. member ≡ named (member_reference content c.args.i)) c.from_residual.result
    (λ content s. on_err _ _ _ _ c.from_residual.ensures.1 (unread_excused c.in_err-head.field-0.0 (c.in_err-head.ensures.exact honest vouched content s)))

pub returns-in_err-member_by_head-clause-reference : goal.returns-in_err-member_by_head-clause-reference
returns-in_err-member_by_head-clause-reference g c = λ honest vouched content s.
    let same = c.in_ok-head.ensures.exact honest vouched content s in
    on_err _ _ _ _ c.from_residual-in_err-member_by_head.ensures.1 (unread_excused c.in_err-member_by_head.field-0.0 ((rw c.in_ok-head.ensures.reads at c.in_err-member_by_head.ensures.reference) honest c.args.node.object.0 vouched content s same))

pub returns-in_err-member_by_head-clause-holds : goal.returns-in_err-member_by_head-clause-holds
returns-in_err-member_by_head-clause-holds g c = λ honest vouched v h.
    let held = held_members c.args.checked.now.source.octets c.args.checked.now.frame v c.args.node.object.0 h in
    let same = c.in_ok-head.ensures.exact honest vouched held.0 held.1 in
    on_err _ _ _ _ c.from_residual-in_err-member_by_head.ensures.1 (unread_excused c.in_err-member_by_head.field-0.0 ((rw c.in_ok-head.ensures.reads at c.in_err-member_by_head.ensures.reference) honest c.args.node.object.0 vouched held.0 held.1 same))

pub returns-in_err-member_by_head-clause-unchanged : goal.returns-in_err-member_by_head-clause-unchanged
returns-in_err-member_by_head-clause-unchanged g c = λ honest vouched.
    never_changed c.args.checked.now c.frame-frame.ensures.checked honest c.args.node.object.0 vouched
    (λ content member. member ≡ named (member_reference content c.args.i)) c.from_residual-in_err-member_by_head.result
    (λ content s. on_err _ _ _ _ c.from_residual-in_err-member_by_head.ensures.1 (unread_excused c.in_err-member_by_head.field-0.0 ((rw c.in_ok-head.ensures.reads at c.in_err-member_by_head.ensures.reference) honest c.args.node.object.0 vouched content s (c.in_ok-head.ensures.exact honest vouched content s))))

pub returns-clause-reference : goal.returns-clause-reference
returns-clause-reference g c = λ honest vouched content s.
    let same = c.in_ok-head.ensures.exact honest vouched content s in
    (rw c.in_ok-head.ensures.reads at c.in_ok-member_by_head.ensures.reference) honest c.args.node.object.0 vouched content s same

pub returns-clause-holds : goal.returns-clause-holds
returns-clause-holds g c = λ honest vouched v h.
    let f = c.args.checked.now.source.octets in
    let F = c.args.checked.now.frame in
    let held = held_members f F v c.args.node.object.0 h in
    let same = c.in_ok-head.ensures.exact honest vouched held.0 held.1 in
    subst (HoldsMember f F (member_of v c.args.i)) (sym ((rw c.in_ok-head.ensures.reads at c.in_ok-member_by_head.ensures.reference) honest c.args.node.object.0 vouched held.0 held.1 same)) (held.2 c.args.i)
