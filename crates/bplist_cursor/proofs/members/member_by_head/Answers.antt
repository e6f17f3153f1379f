use Rattle.std.proofs.Common.{arith, ap, slice_index}
use Rattle.bplist_cert.proofs.CheckSteps.{on_err}
use Rattle.bplist_cursor.proofs.Membership.{node_of_number, no_node, number_below}
use Rattle.bplist_cursor.proofs.VouchedObjects.{vouched_reference}
use Rattle.bplist_cursor.proofs.members.member_by_head.Goals as goal

pub returns-in_default-clause-reference : goal.returns-in_default-clause-reference
returns-in_default-clause-reference g c = λ honest n vouched content s same.
    let head = c.args.head.now in
    no_node c.args.checked.now.source.octets c.args.checked.now.frame head.kind head.count head.body content same c.args.i c.in_default.ensures.number

pub returns-in_err-object-clause-reference : goal.returns-in_err-object-clause-reference
returns-in_err-object-clause-reference g c = λ honest n vouched content s same.
    on_err _ _ _ _ c.from_residual.ensures.1 (c.in_err-object.ensures.exact honest n content s same)

pub returns-then-height-eq0-clause-reference : goal.returns-then-height-eq0-clause-reference
returns-then-height-eq0-clause-reference g c = λ honest n vouched content s same.
    let head = c.args.head.now in
    let is = c.in_ok-object.ensures.exact honest n content s same in
    let below = number_below c.args.checked.now.source.octets c.args.checked.now.frame head.kind head.count head.body content same c.in-Some.k c.in-Some.ensures.within in
    let there = vouched_reference c.args.checked.now c.frame-frame.ensures.checked honest n vouched content s c.in-Some.k below in
    let height = rw c.in_ok-object.ensures.reads at c.height.ensures in
    omega (arith, there, height, ap (slice_index c.args.checked.now.certificate.heights) is)

pub returns-clause-reference : goal.returns-clause-reference
returns-clause-reference g c = λ honest n vouched content s same.
    let head = c.args.head.now in
    let is = c.in_ok-object.ensures.exact honest n content s same in
    node_of_number c.args.checked.now.source.octets c.args.checked.now.frame head.kind head.count head.body content same
    c.args.i c.in-Some.k c.in_ok-object.object.0 c.in-Some.ensures.number.0 c.in-Some.ensures.number.1 is
