use Rattle.std.proofs.Common.{rules, ◌≡◌, ◌+◌, ◌≤◌, ap, length, slice_index, drop, subst, sum_by, arith}
use Rattle.bplist_objects.specs.Heads.{refs, content_at}
use Rattle.bplist_objects.specs.Safe.{ref_count}
use Rattle.bplist_objects.proofs.BlockSteps.{still_of, block_is}
use Rattle.bplist_cert.specs.CheckedFile.{meaning_of}
use Rattle.bplist_cursor.specs.Nodes.{cap}
use Rattle.bplist_cursor.proofs.AddSteps.{refs_block}
use Rattle.bplist_cursor.proofs.PassSteps.{a_block_more}
use Rattle.bplist_cursor.proofs.CountSteps.{all_counted, block_counted}
use Rattle.bplist_cursor.proofs.node_counts.count_refs.Goals as goal

pub loop-refs-preserved : goal.loop-refs-preserved
loop-refs-preserved g c =
    let f = c.args.checked.now.source.octets in
    let F = c.args.checked.now.frame in
    let h = c.args.head.now in
    let v = c.loop-refs.invariant in
    let from = c.loop-refs.refs.next in
    let lent = c.block.result.now in
    let block = block_is (ap meaning_of v.same) v.of c.block.ensures (c.in_ok-read.ensures.next c.if-branch.true) in
    let within : from + length lent ≤ ref_count h.kind h.count = omega (arith, block.long, block.within) in
    record {
      same = search rules;
      of = still_of v.of c.in_ok-read.ensures.same;
      asked = a_block_more _ _ _ from _ F.ref_size v.asked (rw v.same at c.in_ok-read.ensures.asks_block);
      fits = omega (arith, c.add_counts-total.ensures);
      left = λ honest.
          let xs = refs (content_at f F h) in
          let at = slice_index c.args.counts.now in
          let numbers = refs_block f F h from lent within (block.numbers honest) in
          subst (λ k. cap (c.add_counts-total.result + sum_by at (drop k xs)) ≡ cap (1 + sum_by at xs)) block.long
          (block_counted c.args.counts.now c.loop-refs.total c.add_counts-total.result (cap (1 + sum_by at xs)) xs lent from _ numbers c.add_counts-total.ensures (v.left honest));
    }

pub returns-clause-exact : goal.returns-clause-exact
returns-clause-exact g c = λ honest.
    let f = c.args.checked.now.source.octets in
    let F = c.args.checked.now.frame in
    let v = c.loop-refs.invariant in
    all_counted f F c.args.head.now c.args.counts.now c.loop-refs.total (cap (1 + sum_by (slice_index c.args.counts.now) (refs (content_at f F c.args.head.now)))) c.loop-refs.refs.next
    v.fits (omega (arith, (c.in_ok-read.ensures.end c.if-branch.false).1, v.of.same_bound)) (v.left honest)
