use Rattle.std.proofs.Common.{◌≡◌, ◌≤◌, ◌+◌, ◌*◌, length, take, arith, rules, ◌∙◌}
use Rattle.bplist_objects.proofs.ScanLaws.{asked_on, asked_within, block_within, below-block, first-block}
use Rattle.bplist_objects.proofs.scan.first_by_blocks.Goals as goal

pub read_at-requires : goal.read_at-requires
read_at-requires g c =
    let len : length (take (c.min-now.result * c.args.width.bytes) c.loop-done.buffer) ≡ c.min-now.result * c.args.width.bytes = search rules in
    let small : c.loop-done.done + c.min-now.result ≤ c.args.count = omega arith in
    rw (len, c.loop-done.invariant.same) (block_within c.args.place c.args.count c.args.width.bytes (length (g.S.Source.means c.args.src.now).octets) c.loop-done.done c.min-now.result c.requires.within small)

pub returns-in-Some-clause-found : goal.returns-in-Some-clause-found
returns-in-Some-clause-found g c = λ honest.
    let file = (g.S.Source.means c.args.src.now).octets in
    let v = c.loop-done.invariant in
    let len : length (take (c.min-now.result * c.args.width.bytes) c.loop-done.buffer) ≡ c.min-now.result * c.args.width.bytes = search rules in
    let small : c.loop-done.done + c.min-now.result ≤ c.args.count = omega arith in
    let filled = (rw (len, v.same) at c.in_ok-read_at.ensures.filled) honest in
    first-block file c.read_at.new.into c.args.place c.args.width.bytes c.loop-done.done c.min-now.result filled c.args.bound c.args.count c.in-Some.i small (v.low honest) c.in-Some.ensures

pub loop-done-preserved : goal.loop-done-preserved
loop-done-preserved g c = record {
  same = c.in_ok-read_at.ensures.reads ∙ c.loop-done.invariant.same;
  asked =
      (let len : length (take (c.min-now.result * c.args.width.bytes) c.loop-done.buffer) ≡ c.min-now.result * c.args.width.bytes = search rules in
      asked_on _ _ _ c.loop-done.done c.min-now.result c.args.width.bytes c.loop-done.invariant.asked (rw len at c.read_at.ensures.asks));
  reached = omega arith;
  low = λ honest.
      let file = (g.S.Source.means c.args.src.now).octets in
      let v = c.loop-done.invariant in
      let len : length (take (c.min-now.result * c.args.width.bytes) c.loop-done.buffer) ≡ c.min-now.result * c.args.width.bytes = search rules in
      let filled = (rw (len, v.same) at c.in_ok-read_at.ensures.filled) honest in
      below-block file c.read_at.new.into c.args.place c.args.width.bytes c.loop-done.done c.min-now.result filled c.args.bound c.min-now.result (omega arith) (v.low honest) c.in_default.ensures;
}

pub returns-in_err-read_at-clause-asks : goal.returns-in_err-read_at-clause-asks
returns-in_err-read_at-clause-asks g c =
    let len : length (take (c.min-now.result * c.args.width.bytes) c.loop-done.buffer) ≡ c.min-now.result * c.args.width.bytes = search rules in
    asked_within _ _ (c.loop-done.done + c.min-now.result) c.args.count c.args.width.bytes
    (asked_on _ _ _ c.loop-done.done c.min-now.result c.args.width.bytes c.loop-done.invariant.asked (rw len at c.read_at.ensures.asks)) (omega arith)

pub returns-in-Some-clause-asks : goal.returns-in-Some-clause-asks
returns-in-Some-clause-asks g c =
    let len : length (take (c.min-now.result * c.args.width.bytes) c.loop-done.buffer) ≡ c.min-now.result * c.args.width.bytes = search rules in
    asked_within _ _ (c.loop-done.done + c.min-now.result) c.args.count c.args.width.bytes
    (asked_on _ _ _ c.loop-done.done c.min-now.result c.args.width.bytes c.loop-done.invariant.asked (rw len at c.read_at.ensures.asks)) (omega arith)

pub returns-clause-asks : goal.returns-clause-asks
returns-clause-asks g c =
    asked_within _ _ c.loop-done.done c.args.count c.args.width.bytes c.loop-done.invariant.asked (omega arith)
