use Rattle.std.proofs.Common.{◌≡◌, ◌≢◌, ◌+◌, max, length, take, refl, arith, ◌∙◌}
use Rattle.std.proofs.lemmas.Bool.{eqb-true, eqb-false}
use Rattle.std.proofs.lemmas.Grind.{common_steps}
use Rattle.std.proofs.lemmas.List.{length-take}
use Rattle.bplist_lint.specs.HeightWalks.{state_at}
use Rattle.bplist_lint.specs.declared.heights.State.TheVariants.{Founded}
use Rattle.bplist_lint.proofs.ReferenceParts.{contains_part, item_at, part_all, part_on}
use Rattle.bplist_lint.proofs.HeightSteps.{greatest_part}
use Rattle.bplist_lint.proofs.HeightCosts.{scan_more, scan_within, scan_block}
use Rattle.bplist_lint.proofs.heights.HeightWalk.look.Goals as goal

pub returns-in-New-clause-shows : goal.returns-in-New-clause-shows
returns-in-New-clause-shows g c = λ honest whole.
    let i = c.loop-more.invariant in
    let part = (rw (i.same, i.reads) at c.in_ok-count.ensures.value) honest whole in
    let shows = c.in-New.ensures.shows in
    item_at _ _ _ _ part c.in-New.k c.in-New.m shows.0 shows.1

pub returns-in-Circular-clause-shows : goal.returns-in-Circular-clause-shows
returns-in-Circular-clause-shows g c = λ honest whole.
    let i = c.loop-more.invariant in
    let part = (rw (i.same, i.reads) at c.in_ok-count.ensures.value) honest whole in
    let shows = rw c.in-Circular.is at c.look_at.ensures.shows in
    (shows.0, contains_part _ _ _ _ part shows.0 shows.1, shows.2)

pub loop-more-preserved : goal.loop-more-preserved
loop-more-preserved g c =
    let i = c.loop-more.invariant in
    let states = c.args.self.now.states.items in
    let best : c.max-best.result ≡ max c.loop-more.best c.in-Founded.height = grind (arith, common_steps) in
    let long : length c.read.new.block ≡ c.loop-more.portion = grind (arith, common_steps) in
    let asked = rw i.same at c.in_ok-count.ensures.asks in
    let scanned = scan_more _ _ _ c.args.from c.loop-more.done c.in_ok-count.count c.loop-more.portion c.min-portion.result (g.R.References.graph c.args.graph.now).width
    (i.counted_more c.loop-more-test.true) asked i.behind (omega (arith, i.few, c.min-portion.ensures)) (omega (arith, i.some, i.few, c.min-portion.ensures)) in
    record {
      same = c.read.ensures.same ∙ i.same;
      reads = c.in_ok-count.ensures.reads ∙ i.reads;
      behind = omega (arith, i.behind);
      counted = scanned.0;
      counted_more = λ full. scanned.1 (eqb-true c.in_ok-count.count c.loop-more.portion full);
      room = grind (arith, common_steps);
      some = omega (arith, i.some, c.min-portion.ensures);
      few = omega (arith, c.min-portion.ensures);
      low = λ bound all. omega (arith, best, i.low bound all, c.in-Founded.ensures.finds bound all);
      looked = λ honest whole start.
          let o = i.looked honest whole start in
          let part = (rw (i.same, i.reads) at c.in_ok-count.ensures.value) honest whole in
          let shows = c.in-Founded.ensures.shows refl in (
            omega (arith, o.0, part.0),
            part_all _ _ _ _ part (λ m. state_at states m ≡ Founded) o.1 shows.0,
            best ∙ greatest_part c.args.self.now.heights.items _ _ _ _ _ _ o.0 part o.2 shows.1,
            λ less. let other : c.in_ok-count.count ≢ c.loop-more.portion = eqb-false _ _ less in omega (arith, part.0, long, other),
          );
      passed = λ honest whole within.
          let o = i.passed honest whole within in
          let part = (rw (i.same, i.reads) at c.in_ok-count.ensures.value) honest whole in
          let lent = length-take c.in_ok-count.count c.read.new.block in
          let block = take c.in_ok-count.count c.read.new.block in (
            omega (arith, o.0, part.0),
            part_on _ _ _ _ part (λ m. state_at states m ≡ Founded) c.args.from c.in_ok-count.count (omega arith) o.1 (λ k low. c.in-Founded.ensures.passes k (omega arith) (omega (arith, low, lent, part.0))),
            λ less. let other : c.in_ok-count.count ≢ c.loop-more.portion = eqb-false _ _ less in omega (arith, part.0, long, other),
          );
    }

pub returns-in_err-count-clause-asks_any : goal.returns-in_err-count-clause-asks_any
returns-in_err-count-clause-asks_any g c = λ honest whole within.
    let i = c.loop-more.invariant in
    let o = i.passed honest whole within in
    scan_within _ _ c.args.from c.loop-more.done _ 496 (g.R.References.graph c.args.graph.now).width (omega (arith, i.counted_more c.loop-more-test.true, i.few, c.read.ensures.asks_any)) o.0 (omega arith)

pub returns-in-New-clause-passes : goal.returns-in-New-clause-passes
returns-in-New-clause-passes g c = λ honest whole within.
    let i = c.loop-more.invariant in
    let part = (rw (i.same, i.reads) at c.in_ok-count.ensures.value) honest whole in
    let shows = c.in-New.ensures.shows in
    let lent = length-take c.in_ok-count.count c.read.new.block in
    (omega (arith, i.behind), part_on _ _ _ _ part (λ m. state_at c.args.self.now.states.items m ≡ Founded) c.args.from c.in-New.k (omega (arith, shows.0, lent)) (i.passed honest whole within).1 (λ k low. c.in-New.ensures.passes.1 k (omega arith) low))

pub returns-in-New-clause-asks : goal.returns-in-New-clause-asks
returns-in-New-clause-asks g c = λ honest whole within.
    let i = c.loop-more.invariant in
    scan_within _ _ c.args.from c.loop-more.done (c.loop-more.done + c.in-New.k) 460 (g.R.References.graph c.args.graph.now).width (omega (arith, i.counted_more c.loop-more-test.true, i.few, c.read.ensures.asks_any)) (omega arith) (omega arith)

pub returns-in-New-clause-asks_any : goal.returns-in-New-clause-asks_any
returns-in-New-clause-asks_any g c = λ honest whole within.
    let i = c.loop-more.invariant in
    let o = i.passed honest whole within in
    scan_within _ _ c.args.from c.loop-more.done _ 496 (g.R.References.graph c.args.graph.now).width (omega (arith, i.counted_more c.loop-more-test.true, i.few, c.read.ensures.asks_any)) o.0 (omega arith)

pub returns-in-Circular-clause-asks : goal.returns-in-Circular-clause-asks
returns-in-Circular-clause-asks g c = λ honest whole within.
    let i = c.loop-more.invariant in
    let o = i.passed honest whole within in
    let part = (rw (i.same, i.reads) at c.in_ok-count.ensures.value) honest whole in
    let asked = rw i.same at c.in_ok-count.ensures.asks in
    scan_within _ _ c.args.from (c.loop-more.done + c.in_ok-count.count) _ 204 (g.R.References.graph c.args.graph.now).width (scan_block _ _ _ c.args.from c.loop-more.done c.in_ok-count.count c.loop-more.portion (g.R.References.graph c.args.graph.now).width (i.counted_more c.loop-more-test.true) asked i.behind i.few) (omega (arith, o.0, part.0)) (omega arith)

pub returns-in-Circular-clause-asks_any : goal.returns-in-Circular-clause-asks_any
returns-in-Circular-clause-asks_any g c = λ honest whole within.
    let i = c.loop-more.invariant in
    let o = i.passed honest whole within in
    scan_within _ _ c.args.from c.loop-more.done _ 496 (g.R.References.graph c.args.graph.now).width (omega (arith, i.counted_more c.loop-more-test.true, i.few, c.read.ensures.asks_any)) o.0 (omega arith)

pub returns-clause-asks : goal.returns-clause-asks
returns-clause-asks g c = λ honest whole within.
    let i = c.loop-more.invariant in
    let o = i.passed honest whole within in
    scan_within _ _ c.args.from c.loop-more.done _ 204 (g.R.References.graph c.args.graph.now).width (omega (arith, i.counted, i.few)) o.0 (omega arith)

pub returns-clause-asks_any : goal.returns-clause-asks_any
returns-clause-asks_any g c = λ honest whole within.
    let i = c.loop-more.invariant in
    let o = i.passed honest whole within in
    scan_within _ _ c.args.from c.loop-more.done _ 496 (g.R.References.graph c.args.graph.now).width (omega (arith, i.counted, i.few)) o.0 (omega arith)
