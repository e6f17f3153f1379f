use Rattle.std.proofs.Common.{refl}
use Rattle.std.proofs.lemmas.Result.{err_from_is_err_and}
use Rattle.bplist_cursor.proofs.Causes.{unread_excused}
use Rattle.bplist_cursor.proofs.Membership.{held_members}
use Rattle.bplint_engine.specs.declared.walk.Opened.{Opened}
use Rattle.bplint_engine.proofs.WalkSteps.{left_pushed}
use Rattle.bplint_engine.proofs.walk.Walk.enter.Goals as goal

pub members_of-requires : goal.members_of-requires
members_of-requires g c = rw c.len-length.ensures c.in_ok-row.ensures.room

pub returns-in_err-head-clause-exact : goal.returns-in_err-head-clause-exact
returns-in_err-head-clause-exact g c = λ honest style deep w held left stands.
    let file = c.args.checked.now in
    let content = held_members file.source.octets file.frame w c.args.at.node.object.0 held.1 in
    let stops = rw c.in_ok-row.ensures.reads at c.in_err-head.ensures.exact in
    let p = err_from_is_err_and c.from_residual-in_err-head.result c.from_residual-in_err-head.ensures.1 in
    rw (p.1, p.2) (unread_excused c.in_err-head.field-0.0 (stops honest held.0 content.0 content.1))

pub returns-clause-exact : goal.returns-clause-exact
returns-clause-exact g c = λ honest style deep w held left stands.
    let file = c.args.checked.now in
    let shown = c.in_ok-row.ensures.exact honest w held in
    let has = rw c.in-Some.is at (c.members_of.ensures.exact w shown) in
    let heads = (rw c.in_ok-row.ensures.reads at c.in_ok-head.ensures.exact) honest held.0 in
    let o : Opened = record { head = c.in_ok-head.head; members = c.in-Some.members; count = c.in-Some.count; next = 0; at = c.args.at } in
    (shown, left_pushed style deep file c.args.self.now.names o c.args.self.now.stack.items _ w left c.in_ok-push.ensures.items c.requires.name.1 refl (c.args.at.node.object.0, held.0, held.1, heads) has stands)
