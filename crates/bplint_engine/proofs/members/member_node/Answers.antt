use Rattle.std.proofs.lemmas.Result.{err_from_is_err_and}
use Rattle.bplist_cursor.proofs.Causes.{unread_excused}
use Rattle.bplist_cursor.proofs.Membership.{held_members}
use Rattle.bplint_engine.proofs.HeldMembers.{found_member}
use Rattle.bplint_engine.proofs.members.member_node.Goals as goal

pub returns-in_err-member-clause-exact : goal.returns-in_err-member-clause-exact
returns-in_err-member-clause-exact g c = λ honest w m of is.
    let checked = c.args.checked.now in
    let held = held_members checked.source.octets checked.frame w of.0 of.2 in
    let p = err_from_is_err_and c.from_residual.result c.from_residual.ensures.1 in
    rw (p.1, p.2) (unread_excused c.in_err-member.field-0.0 (c.in_err-member.ensures.reference honest of.0 of.1 held.0 held.1 (of.3 held.0 held.1)))

pub returns-in-Some-clause-exact : goal.returns-in-Some-clause-exact
returns-in-Some-clause-exact g c = λ honest w m of is.
    let holds = found_member c.args.checked.now c.args.head.now w c.args.i _ of (c.in_ok-member.ensures.reference honest) in
    let vouched = rw c.in-Some.is at c.in_ok-member.ensures.vouched in
    (vouched, rw (c.in-Some.is, is) at holds)

pub returns-in-None-clause-exact : goal.returns-in-None-clause-exact
returns-in-None-clause-exact g c = λ honest w m of is.
    let holds = found_member c.args.checked.now c.args.head.now w c.args.i _ of (c.in_ok-member.ensures.reference honest) in
    absurd (rw (c.in-None.is, is) at holds)
