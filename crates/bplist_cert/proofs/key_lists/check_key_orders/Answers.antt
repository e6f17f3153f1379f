use Rattle.std.proofs.Common.{◌≡◌, ◌≤◌, Some, length, slice_index, ap, sym, subst, ◌∙◌, below_more, arith}
use Rattle.bplist_objects.specs.declared.frame.Frame.{Frame}
use Rattle.bplist_objects.specs.Framed.{frame_in}
use Rattle.bplist_cert.specs.Lists.{Keyed, IsCompleteList}
use Rattle.bplist_cert.specs.Valid.{IsVouchedBy}
use Rattle.bplist_cert.specs.Looks.{KeepBeforeKeysBelow}
use Rattle.bplist_cert.specs.KeyRepeats.{BreaksKeys}
use Rattle.bplist_cert.proofs.KeyPairs.{low_list, listed_good}
use Rattle.bplist_cert.proofs.CheckSteps.{given_weaker, on_err}
use Rattle.bplist_cert.proofs.key_lists.check_key_orders.Goals as goal
use Rattle.bplist_cert.proofs.key_lists.check_key_orders.Goals.{then-may_be_wrong+in_ok-check_dict_order, else-may_be_wrong}

pub returns-then-seen-frame-clause-exact : goal.returns-then-seen-frame-clause-exact
returns-then-seen-frame-clause-exact g c = λ honest seen lists n low vouched.
    let f = (g.P.Source.means c.args.src.now).octets in
    let F : Frame = frame_in (g.P.Source.means c.args.src.now) in
    let heights = c.args.seen.now.heights.now in
    let whole : c.args.seen.now.bound ≡ F.objects = c.if-seen-frame.true ∙ ap (λ (x : Frame). x.objects) c.frame.ensures.frame in
    listed_good f F (c.frame.ensures.framed.framed honest) heights (subst (KeepBeforeKeysBelow f F heights) whole seen) c.args.keys.now n (omega (arith, low, whole)) vouched
    (lists.good c.if-look.true n low vouched)

pub returns-in_err-check_dict_order-clause-exact : goal.returns-in_err-check_dict_order-clause-exact
returns-in_err-check_dict_order-clause-exact g c = λ honest seen lists.
    let f = (g.P.Source.means c.args.src.now).octets in
    let F : Frame = frame_in (g.P.Source.means c.args.src.now) in
    let v = c.loop-n.invariant in
    let n = c.loop-n.n in
    let before = v.exact honest seen lists in
    let here : IsVouchedBy c.args.seen.now.heights.now n = omega (arith, c.entry_or-height.ensures, c.may_be_wrong.ensures.vouched c.if-may_be_wrong.true) in
    let given = (rw v.reads at c.in_err-check_dict_order.ensures.exact) honest c.loop-n-test.true here seen before.0 in
    on_err _ _ _ _ c.from_residual.ensures.1 (given_weaker _ _ c.in_err-check_dict_order.field-0.0 (λ fault h. record {
      object = n;
      within = c.loop-n-test.true;
      vouched = here;
      breaks = subst (λ count. BreaksKeys f F count (Some c.args.keys.now) n fault) (sym c.requires) h;
      before = before.1;
    }) given)

pub loop-n-preserved : goal.loop-n-preserved
loop-n-preserved g c =
    let heights = c.args.seen.now.heights.now in
    let v = c.loop-n.invariant in
    let n = c.loop-n.n in
    elim c.if-may_be_wrong.branch [
      | then-may_be_wrong+in_ok-check_dict_order w ↦ record {
        reads = rw w.src-is (w.in_ok-check_dict_order.ensures.reads ∙ v.reads);
        exact = λ honest seen lists.
            let before = v.exact honest seen lists in
            let here : IsVouchedBy heights n = omega (arith, c.entry_or-height.ensures, c.may_be_wrong.ensures.vouched w.if-may_be_wrong.true) in
            let good = (rw v.reads at w.in_ok-check_dict_order.ensures.exact) honest c.loop-n-test.true here seen before.0 in (
              rw w.look-is good.0,
              below_more _ _ before.1 (λ _. good.1),
            );
      }
      | else-may_be_wrong w ↦ record {
        reads = rw w.src-is v.reads;
        exact = λ honest seen lists.
            let before = v.exact honest seen lists in (
              rw w.look-is before.0,
              below_more _ _ before.1 (λ here.
                  let starts = c.deref.ensures.value ∙ ap (λ (x : Keyed). x.starts) c.keys.view_is in
                  let positions = ap (λ (x : Keyed). length x.positions) c.keys.view_is in
                  let none = c.may_be_wrong.ensures.none w.if-may_be_wrong.false (omega (arith, c.entry_or-height.ensures, here)) in
                  let low_height : slice_index heights n ≤ 1 = omega (arith, c.entry_or-height.ensures, none.0) in
                  let whole : IsCompleteList c.args.keys.now n 0 = omega (arith, c.entry_or.ensures ∙ ap (λ xs. slice_index xs n) starts, none.1, c.len.ensures, positions) in
                  low_list _ _ heights n (seen n c.loop-n-test.true here) c.args.keys.now low_height whole),
            );
      }
    ]

pub returns-clause-exact : goal.returns-clause-exact
returns-clause-exact g c = λ honest seen lists n low vouched.
    (c.loop-n.invariant.exact honest seen lists).1 n (omega (arith, low, c.loop-n-test.false)) vouched
