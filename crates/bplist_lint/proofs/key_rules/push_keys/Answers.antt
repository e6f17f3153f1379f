use Rattle.std.proofs.Common.{slice_index, sym, ap, ◌∙◌, arith}
use Rattle.std.proofs.lemmas.List.{length_push}
use Rattle.bplist_lint.proofs.KeyLists.{ranked_more}
use Rattle.bplist_lint.proofs.key_rules.push_keys.Goals as goal

pub loop-m-preserved : goal.loop-m-preserved
loop-m-preserved c =
    let v = c.loop-m.invariant in
    rw c.in_ok-push.ensures.items record {
      more = length_push c.loop-m.keys.items _ ∙ omega (arith, v.more);
      ranked = λ refs are start.
          let here = c.entry_or-rank.ensures ∙ ap (slice_index c.args.ranks.now) (are c.loop-m.m-index c.loop-m-test.true ∙ ap refs (sym v.more)) in
          ranked_more (λ k. slice_index c.args.ranks.now (refs k)) c.loop-m.keys.items _ (v.ranked refs are start) (omega (arith, c.loop-m.keys.ok.0, c.len-position.ensures)) here;
    }
