use Rattle.std.proofs.Common.{◌+◌, arith}
use Rattle.bplist_objects.specs.Framed.{frame_in}
use Rattle.bplist_objects.proofs.BlockSteps.{block_of_rest}
use Rattle.bplist_objects.proofs.ref_blocks.RefBlocks.read.Goals as goal

pub returns-in_err-read_front-clause-asks : goal.returns-in_err-read_front-clause-asks
returns-in_err-read_front-clause-asks g c =
    let each = (frame_in (g.P.Source.means c.args.src.now)).ref_size in
    rw (← c.self.view_is) (block_of_rest _ _ c.self.inside.next c.min-count.result c.self.inside.bound each c.read_front.ensures.asks (omega arith))

pub returns-clause-asks : goal.returns-clause-asks
returns-clause-asks g c =
    let each = (frame_in (g.P.Source.means c.args.src.now)).ref_size in
    rw (← c.self.view_is) (block_of_rest _ _ c.self.inside.next c.min-count.result c.self.inside.bound each c.read_front.ensures.asks (omega arith))

pub returns-clause-asks_block : goal.returns-clause-asks_block
returns-clause-asks_block g c =
    let each = (frame_in (g.P.Source.means c.args.src.now)).ref_size in
    let count = c.min-count.result in
    rw (← c.self.view_is) (block_of_rest _ _ c.self.inside.next count (c.self.inside.next + count) each c.read_front.ensures.asks (omega arith))
