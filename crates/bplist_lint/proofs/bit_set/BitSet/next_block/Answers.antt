use Rattle.std.proofs.Common.{◌<◌, arith, length}
use Rattle.std.proofs.lemmas.List.{get_or_read}
use Rattle.bplist_lint.proofs.BitSets.{full_both, shorter_skips}
use Rattle.bplist_lint.proofs.bit_set.BitSet.next_block.Goals as goal

pub invariant_of-self : goal.invariant_of-self
invariant_of-self c =
    let s = c.loop-at.self in
    let skips = s.skips.items in
    let within : c.loop-at.at < length skips = omega (arith, c.loop-at-test.true, c.len.ensures) in
    let next = get_or_read skips c.loop-at.at c.index.result.now within c.index.ensures 0 in
    let low : c.index.result.now < length skips = omega (arith, c.if-next-len.true, c.len-in-loop-at.ensures) in
    let skip = get_or_read skips c.index.result.now c.index-then-next-len.result.now low c.index-then-next-len.ensures 0 in
    record { room = s.room; whole = s.whole; low = s.low; skipping = shorter_skips _ skips _ _ _ s.skipping within next low skip }

pub loop-at-preserved-then-next-len : goal.loop-at-preserved-then-next-len
loop-at-preserved-then-next-len c =
    let i = c.loop-at.invariant in
    let skips = c.loop-at.self.skips.items in
    let within : c.loop-at.at < length skips = omega (arith, c.loop-at-test.true, c.len.ensures) in
    let next = get_or_read skips c.loop-at.at c.index.result.now within c.index.ensures 0 in
    let low : c.index.result.now < length skips = omega (arith, c.if-next-len.true, c.len-in-loop-at.ensures) in
    let skip = get_or_read skips c.index.result.now c.index-then-next-len.result.now low c.index-then-next-len.ensures 0 in
    let one = rw (← next) at (i.skipping c.loop-at.at within) in
    record {
      size = i.size;
      words = i.words;
      blocks = i.blocks;
      skipping = shorter_skips _ skips _ _ _ i.skipping within next low skip;
      from = omega (arith, i.from, one.0);
      within = omega (arith, i.blocks, one.1);
      between = full_both _ _ _ _ i.between one.2;
    }

pub loop-at-preserved : goal.loop-at-preserved
loop-at-preserved c =
    let i = c.loop-at.invariant in
    let skips = c.loop-at.self.skips.items in
    let within : c.loop-at.at < length skips = omega (arith, c.loop-at-test.true, c.len.ensures) in
    let next = get_or_read skips c.loop-at.at c.index.result.now within c.index.ensures 0 in
    let one = rw (← next) at (i.skipping c.loop-at.at within) in
    record {
      size = i.size;
      words = i.words;
      blocks = i.blocks;
      skipping = i.skipping;
      from = omega (arith, i.from, one.0);
      within = omega (arith, i.blocks, one.1);
      between = full_both _ _ _ _ i.between one.2;
    }
