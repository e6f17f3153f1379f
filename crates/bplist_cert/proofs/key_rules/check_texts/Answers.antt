use Rattle.std.proofs.Common.{◌∙◌, arith}
use Rattle.bplist_objects.proofs.BlockSteps.{still_of, block_is}
use Rattle.bplist_cert.proofs.key_rules.check_texts.Goals as goal

pub returns-in-Some-clause-exact : goal.returns-in-Some-clause-exact
returns-in-Some-clause-exact g c = λ honest low.
    let v = c.loop-src.invariant in
    let block = block_is v.same v.of c.block.ensures (c.in_ok-read.ensures.next c.if-branch.true) in
    let before = v.texts honest low in
    let exact = rw (c.first.ensures, c.in_ok-read.ensures.first c.if-branch.true, c.in_ok-read.ensures.reads, v.same, c.in-Some.is) at c.in_ok-i.ensures.exact in
    let first = (exact honest c.args.dict.now.head (block.numbers honest) before.1 before.0).1 in
    let fault = rw (c.in_ok-i.ensures.reads, c.in_ok-read.ensures.reads, v.same) at c.fault.ensures in
    (fault.0, fault.1, (c.in-Some.i, (omega (arith, first.0, block.long, block.within), first.1, first.2), fault.2))

pub loop-src-preserved : goal.loop-src-preserved
loop-src-preserved g c =
    let v = c.loop-src.invariant in
    let block = block_is v.same v.of c.block.ensures (c.in_ok-read.ensures.next c.if-branch.true) in
    record {
      same = c.in_ok-i.ensures.reads ∙ c.in_ok-read.ensures.reads ∙ v.same;
      of = still_of v.of c.in_ok-read.ensures.same;
      texts = λ honest low.
          let before = v.texts honest low in
          let exact = rw (c.first.ensures, c.in_ok-read.ensures.first c.if-branch.true, c.in_ok-read.ensures.reads, v.same, c.in_default.is, block.long) at c.in_ok-i.ensures.exact in
          exact honest c.args.dict.now.head (block.numbers honest) before.1 before.0;
    }
