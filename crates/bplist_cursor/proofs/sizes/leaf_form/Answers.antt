use Rattle.std.proofs.Common.{arith, subst, ◌≤◌, ◌+◌, ◌*◌}
use Rattle.bplist_objects.specs.Announced.{item_size}
use Rattle.bplist_cursor.proofs.ObjectSteps.{bytes_form}
use Rattle.bplist_cursor.proofs.sizes.leaf_form.Goals as goal

pub returns-in-Bytes-clause-exact : goal.returns-in-Bytes-clause-exact
returns-in-Bytes-clause-exact g c = λ honest l e.
    let file = c.args.checked.now in
    let body = subst (λ k. c.args.head.now.body + c.args.head.now.count * item_size 1 k ≤ c.args.head.now.«end») c.in-Bytes.is c.requires.body in
    bytes_form file.source.octets file.frame c.args.head.now.kind c.args.head.now.count c.args.head.now.body c.saturating_add.result l c.in-Bytes.is
    (omega (arith, body, c.requires.within)) e (omega (arith, c.saturating_mul.ensures, c.saturating_add.ensures))
