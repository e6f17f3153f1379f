use Rattle.std.proofs.Common.{◌∙◌, arith}
use Rattle.bplist_objects.specs.declared.frame.Frame.{Frame}
use Rattle.bplist_objects.specs.Framed.{frame_in}
use Rattle.bplist_objects.specs.Scan.{ref}
use Rattle.bplist_objects.proofs.BlockSteps.{still_of, block_is}
use Rattle.bplist_lint.proofs.key_rules.rank_keys.Goals as goal

pub push_keys-requires : goal.push_keys-requires
push_keys-requires g c =
    let i = c.loop-refs.invariant in
    let block = block_is i.same i.of c.block.ensures (c.in_ok-read.ensures.next c.if-branch.true) in
    omega (arith, i.so_far, block.long, block.within, c.requires.few)

pub loop-refs-preserved : goal.loop-refs-preserved
loop-refs-preserved g c =
    let i = c.loop-refs.invariant in
    let block = block_is i.same i.of c.block.ensures (c.in_ok-read.ensures.next c.if-branch.true) in
    record {
      same = c.in_ok-read.ensures.reads ∙ i.same;
      asked = (let read = rw i.same at c.in_ok-read.ensures.asks_block in omega (arith, i.asked, read));
      of = still_of i.of c.in_ok-read.ensures.same;
      so_far = omega (arith, c.in_ok-push_keys.ensures.more, i.so_far, block.long);
      ranked = λ honest.
          let f = (g.P.Source.means c.args.src.now).octets in
          let F : Frame = frame_in (g.P.Source.means c.args.src.now) in
          c.in_ok-push_keys.ensures.ranked (ref f F c.args.head.now) (λ k low. rw i.so_far (block.numbers honest k low)) (i.ranked honest);
    }
