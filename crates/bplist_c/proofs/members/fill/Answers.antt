use Rattle.std.proofs.Common.{arith, ◌≡◌, ◌≤◌, length}
use Rattle.bplist_c.proofs.MemberSteps.{spelled_more}
use Rattle.bplist_c.proofs.members.fill.Goals as goal

pub loop-done-preserved : goal.loop-done-preserved
loop-done-preserved c =
    let within : c.loop-done.done ≤ length c.loop-done.into = omega arith in
    let len : length c.fill_block.new.into ≡ c.min-now.result = omega (arith, c.fill_block.auto.into) in
    record {
      reached = omega arith;
      so_far = spelled_more c.args.checked.now.source.octets c.args.checked.now.frame c.args.head.now c.args.from c.loop-done.into c.fill_block.new.into _
          c.loop-done.done c.min-now.result within len c.loop-done.invariant.so_far c.fill_block.ensures;
    }
