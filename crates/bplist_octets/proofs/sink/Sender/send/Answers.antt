use Rattle.std.proofs.Common.{arith}
use Rattle.std.proofs.lemmas.Grind.{common_steps}
use Rattle.bplist_octets.proofs.SentParts.{sends_on}
use Rattle.bplist_octets.proofs.sink.Sender.send.Goals as goal

pub loop-sent-preserved : goal.loop-sent-preserved
loop-sent-preserved g c =
    let v = c.loop-sent.invariant in
    let more = sends_on c.args.bytes.now c.loop-sent.sent c.in_ok-sent.field-0 _ _ _ c.write-written.result v.appended c.write-written.ensures.bound c.write-written.ensures.bytes c.in_ok-sent.ensures.took in
    record {
      within = omega (arith, more.0, v.within);
      counted = omega (arith, c.in_ok-sent.ensures.counted, v.counted);
      appended = more.1;
    }

pub returns-clause-appended : goal.returns-clause-appended
returns-clause-appended g c = grind (arith, common_steps)
