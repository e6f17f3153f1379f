use Rattle.std.proofs.Common.{◌≡◌, ◌≢◌, ◌<◌, arith, length, slice_index, ◌∙◌}
use Rattle.std.proofs.lemmas.Bool.{eqb-true, eqb-false}
use Rattle.std.proofs.lemmas.Grind.{common_steps}
use Rattle.bplist_lint.proofs.ReferenceParts.{part_all, first_in_part}
use Rattle.bplist_lint.proofs.HeightCosts.{block_more, blocks_within}
use Rattle.bplist_lint.proofs.circle.first_without.Goals as goal

pub loop-more-preserved : goal.loop-more-preserved
loop-more-preserved g c =
    let i = c.loop-more.invariant in
    let long : length c.read.new.block ≡ 32 = grind (arith, common_steps) in
    let scanned = block_more _ _ _ c.loop-more.done c.in_ok-count.count (g.R.References.graph c.args.graph.now).width (i.counted_more c.loop-more-test.true) (rw i.same at c.in_ok-count.ensures.asks) in
    record {
      same = c.read.ensures.same ∙ i.same;
      reads = c.in_ok-count.ensures.reads ∙ i.reads;
      counted = scanned.0;
      counted_more = λ full. scanned.1 (eqb-true c.in_ok-count.count 32 full);
      room = long;
      have = λ honest whole.
          let o = i.have honest whole in
          let part = (rw (i.same, i.reads) at c.in_ok-count.ensures.value) honest whole in (
            omega (arith, o.0, part.0),
            part_all _ _ _ _ part (λ m. 0 < slice_index c.args.heights.now m) o.1 c.in_default.ensures.first,
            λ less. let other : c.in_ok-count.count ≢ 32 = eqb-false _ _ less in omega (arith, part.0, long, other),
          );
    }

pub returns-in-Some-clause-first : goal.returns-in-Some-clause-first
returns-in-Some-clause-first g c = λ honest whole.
    let i = c.loop-more.invariant in
    let o = i.have honest whole in
    let part = (rw (i.same, i.reads) at c.in_ok-count.ensures.value) honest whole in
    first_in_part _ _ _ _ part (λ m. 0 < slice_index c.args.heights.now m) c.in-Some.m o.0 o.1 c.in-Some.ensures.first

pub returns-in_err-count-clause-asks : goal.returns-in_err-count-clause-asks
returns-in_err-count-clause-asks g c = λ honest whole.
    let i = c.loop-more.invariant in
    blocks_within _ _ c.loop-more.done _ 292 (g.R.References.graph c.args.graph.now).width (omega (arith, i.counted_more c.loop-more-test.true, c.read.ensures.asks_any)) (i.have honest whole).0 (omega arith)

pub returns-in-Some-clause-asks : goal.returns-in-Some-clause-asks
returns-in-Some-clause-asks g c = λ honest whole.
    let i = c.loop-more.invariant in
    blocks_within _ _ c.loop-more.done _ 292 (g.R.References.graph c.args.graph.now).width (omega (arith, i.counted_more c.loop-more-test.true, c.read.ensures.asks_any)) (i.have honest whole).0 (omega arith)

pub returns-clause-asks : goal.returns-clause-asks
returns-clause-asks g c = λ honest whole.
    let i = c.loop-more.invariant in
    blocks_within _ _ c.loop-more.done _ 292 (g.R.References.graph c.args.graph.now).width (omega (arith, i.counted)) (i.have honest whole).0 (omega arith)
