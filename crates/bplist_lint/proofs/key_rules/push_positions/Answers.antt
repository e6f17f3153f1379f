use Rattle.std.proofs.Common.{◌≡◌, ◌<◌, length, take, sym, arith, append_assoc}
use Rattle.std.proofs.lemmas.List.{take_more, length-map, get_or-map}
use Rattle.bplist_lint.specs.KeyLists.{ranks_in, positions_in}
use Rattle.bplist_lint.proofs.KeyLists.{no_key, not_above}
use Rattle.bplist_lint.proofs.key_rules.push_positions.Goals as goal

pub returns-then-key-last-clause-exact : goal.returns-then-key-last-clause-exact
returns-then-key-last-clause-exact c = λ up.
    let k = c.loop-key.key-index in
    let at = get_or-map (λ key. key.rank) c.args.keys.now k no_key 0 c.loop-key-test.true in
    let within : k < length (ranks_in c.args.keys.now) = omega (arith, c.loop-key-test.true, length-map c.args.keys.now (λ key. key.rank)) in
    absurd (not_above (ranks_in c.args.keys.now) k c.loop-key.last up within c.loop-key.invariant.first c.loop-key.invariant.last (omega (arith, at, c.if-key-last.true)))

pub loop-key-preserved : goal.loop-key-preserved
loop-key-preserved c =
    let k = c.loop-key.key-index in
    let at = get_or-map (λ key. key.position) c.args.keys.now k no_key 0 c.loop-key-test.true in
    let within : k < length (positions_in c.args.keys.now) = omega (arith, c.loop-key-test.true, length-map c.args.keys.now (λ key. key.position)) in
    record {
      pushed = rw (c.in_ok-push.ensures.items, c.loop-key.invariant.pushed, take_more (positions_in c.args.keys.now) k 0 within, at) (append_assoc c.args.positions.now.items (take k (positions_in c.args.keys.now)) _);
      first = λ e. absurd (omega (arith, e));
      last = λ i e.
          let same : i ≡ k = omega (arith, e) in
          rw same (sym (get_or-map (λ key. key.rank) c.args.keys.now k no_key 0 c.loop-key-test.true));
    }
