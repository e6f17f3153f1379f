use Rattle.std.proofs.Common.{rules, ◌∙◌}
use Rattle.bplist_octets.proofs.Parts.{reads_more, reads_same}
use Rattle.bplist_octets.proofs.seek_source.fill_from.Goals as goal
use Rattle.bplist_octets.proofs.seek_source.fill_from.Goals.{in-Ok, in-Err+else-ne}

pub loop-preserved : goal.loop-preserved
loop-preserved g c =
    let same = c.loop.invariant.1 in
    let kept = c.read_on.ensures.keeps ∙ same in
    elim c.match-read_on.branch [
      | in-Ok w ↦
          (search rules, kept, reads_more _ _ w.in-Ok.n _ _ _ _ _ _ _ _ same w.filled-is c.loop.invariant.0 w.in-Ok.ensures.bound.0 c.loop.invariant.2 w.in-Ok.ensures.reads)
      | in-Err+else-ne w ↦
          (search rules, kept, reads_same _ _ _ _ _ _ _ _ _ _ same w.filled-is c.loop.invariant.0 c.loop.invariant.2 w.in-Err.ensures.reads)
    ]
