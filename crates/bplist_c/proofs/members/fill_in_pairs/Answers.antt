use Rattle.std.proofs.Common.{arith, ◌≡◌, ◌≤◌, ◌+◌, ◌*◌, ◌%◌, ◌∙◌, length}
use Rattle.std.proofs.lemmas.List.{length-take-le}
use Rattle.bplist_c.proofs.MemberSteps.{pairs_spelled}
use Rattle.bplist_c.proofs.members.fill_in_pairs.Goals as goal

pub returns : goal.returns
returns c =
    let pairs = c.div_ceil-pairs.result in
    let few : pairs ≤ 33 = omega (arith, c.div_ceil-pairs.ensures, c.requires.few) in
    let some : length c.read_row.new.into ≡ pairs = c.read_row.auto.into ∙ length-take-le pairs _ few in
    let many : length c.read_row-2.new.into ≡ pairs = c.read_row-2.auto.into ∙ length-take-le pairs _ few in
    let room : c.args.from % 2 + length c.loop-k.into ≤ 2 * pairs = omega arith in
    pairs_spelled c.args.checked.now.source.octets c.args.checked.now.frame c.args.head.now c.args.from c.read_row.new.into c.read_row-2.new.into c.loop-k.into
    pairs c.requires.kind some many room c.read_row.ensures c.read_row-2.ensures (λ k l. c.loop-k.invariant k (omega (arith, l, c.loop-k-test.false)))
