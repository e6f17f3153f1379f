use Rattle.std.proofs.Common.{◌≡◌, None, sym, subst, ◌∙◌, below_more, arith}
use Rattle.std.proofs.lemmas.List.Sums.{count_by-le-length}
use Rattle.bplist_objects.specs.declared.frame.Frame.{Frame}
use Rattle.bplist_objects.specs.Framed.{frame_in}
use Rattle.bplist_objects.proofs.ExtentSums.{room_weaker}
use Rattle.bplist_keys.specs.Texts.{IsMarkedText}
use Rattle.bplist_keys.proofs.LookUps.{new_low, stamped_low}
use Rattle.bplist_cert.specs.Valid.{IsVouchedBy}
use Rattle.bplist_cert.specs.KeyRepeats.{BreaksKeys}
use Rattle.bplist_cert.proofs.AskedBytes.{head_taken, paid_all, paid_more, paid_over}
use Rattle.bplist_cert.proofs.KeyRepeats.{keys_classed, good_low, good_apart}
use Rattle.bplist_cert.proofs.CheckSteps.{refused_weaker, vouched_inside, on_err}
use Rattle.bplist_cert.proofs.key_rules.check_named.Goals as goal
use Rattle.bplist_cert.proofs.key_rules.check_named.Goals.{then-entry_or-gt1+in_ok-check_dict_repeats, else-entry_or-gt1}

pub returns-in_err-check_dict_repeats-clause-exact : goal.returns-in_err-check_dict_repeats-clause-exact
returns-in_err-check_dict_repeats-clause-exact g c = λ honest seen named apart.
    let f = (g.P.Source.means c.args.src.now).octets in
    let F : Frame = frame_in (g.P.Source.means c.args.src.now) in
    let v = c.loop-n.invariant in
    let n = c.loop-n.n in
    let before = v.exact honest seen named in
    let table_is : c.loop-n.look.table.classes.table.items ≡ c.in_ok-classes.classes.table.items = v.same ∙ c.in_ok-new.ensures.classes in
    let here : IsVouchedBy c.args.seen.now.heights.now n = omega (arith, c.entry_or.ensures, c.if-entry_or-gt1.true) in
    let judged = (rw (v.reads, table_is) at c.in_err-check_dict_repeats.ensures.exact) honest c.loop-n-test.true here seen
    (keys_classed f F _ c.in_ok-classes.classes.table.items n (c.in_ok-classes.ensures.exact honest) (named.1 n c.loop-n-test.true here)) (new_low n _ (v.stamps honest)) before.0 in
    on_err _ _ _ _ c.from_residual-in_err-check_dict_repeats.ensures.1 (refused_weaker _ _ c.in_err-check_dict_repeats.field-0.0 (λ fault h. record {
      object = n;
      within = c.loop-n-test.true;
      vouched = here;
      breaks = subst (λ count. BreaksKeys f F count None n fault) (sym c.requires.all) h;
      before = before.1;
    }) judged)

pub loop-n-preserved : goal.loop-n-preserved
loop-n-preserved g c =
    let heights = c.args.seen.now.heights.now in
    let v = c.loop-n.invariant in
    let n = c.loop-n.n in
    elim c.if-entry_or-gt1.branch [
      | then-entry_or-gt1+in_ok-check_dict_repeats w ↦
          let table_is : c.loop-n.look.table.classes.table.items ≡ c.in_ok-classes.classes.table.items = v.same ∙ c.in_ok-new.ensures.classes in
          let here : IsVouchedBy heights n = omega (arith, c.entry_or.ensures, w.if-entry_or-gt1.true) in
          record {
            reads = rw w.src-is (w.in_ok-check_dict_repeats.ensures.reads ∙ v.reads);
            same = rw w.look-is (w.in_ok-check_dict_repeats.ensures.same ∙ v.same);
            paid = λ honest seen whole.
                let here_taken = head_taken _ _ heights n (c.frame-frame.ensures.framed.framed honest) (omega (arith, c.loop-n-test.true, whole)) (seen n c.loop-n-test.true here) in
                let asked = (rw v.reads at w.in_ok-check_dict_repeats.ensures.asks) honest whole here_taken.0 here_taken.1 in
                rw w.src-is (paid_more _ _ _ n _ _ (v.paid honest seen whole) _ _ here here_taken.2 (omega (arith, asked, here_taken.1.body, here_taken.1.ends)));
            stamps = λ honest. rw w.look-is (stamped_low n _ _ w.check_dict_repeats.ensures.stamped (v.stamps honest));
            exact = λ honest seen named.
                let before = v.exact honest seen named in
                let good = (rw (v.reads, table_is) at w.in_ok-check_dict_repeats.ensures.exact) honest c.loop-n-test.true here seen
                (keys_classed _ _ _ c.in_ok-classes.classes.table.items n (c.in_ok-classes.ensures.exact honest) (named.1 n c.loop-n-test.true here)) (new_low n _ (v.stamps honest)) before.0 in (
                  rw w.look-is good.0,
                  below_more _ _ before.1 (λ _. good.1),
                );
          }
      | else-entry_or-gt1 w ↦ record {
        reads = rw w.src-is v.reads;
        same = rw w.look-is v.same;
        paid = λ honest seen whole. rw w.src-is (paid_over _ _ _ n _ _ (v.paid honest seen whole));
        stamps = λ honest x. rw w.look-is (let l = v.stamps honest x in omega (arith, l));
        exact = λ honest seen named.
            let before = v.exact honest seen named in (
              rw w.look-is before.0,
              below_more _ _ before.1 (λ vouched. good_low _ _ heights n (seen n c.loop-n-test.true vouched) (omega (arith, c.entry_or.ensures, w.if-entry_or-gt1.false))),
            );
      }
    ]

pub returns-then-branch-clause-exact : goal.returns-then-branch-clause-exact
returns-then-branch-clause-exact g c = λ honest seen named apart n low vouched.
    let F : Frame = frame_in (g.P.Source.means c.args.src.now) in
    let heights = c.args.seen.now.heights.now in
    let told = apart c.if-apart.true in
    good_apart _ _ heights (c.frame-frame.ensures.framed.framed honest) (λ m under v. seen m (omega (arith, under, told.0)) v) c.args.named.marks.items c.in_ok-classes.classes.table.items
    named.0 c.in_ok-classes.ensures.all (c.in_ok-classes.ensures.exact honest) ((rw c.count-keys.ensures at c.in_ok-are_own.ensures) c.if-branch.true) n (vouched_inside heights F.objects n c.requires.all vouched) vouched (named.1 n low vouched) (told.1 n low vouched)

pub returns-clause-asks : goal.returns-clause-asks
returns-clause-asks g c = λ honest whole seen room only.
    let f = (g.P.Source.means c.args.src.now).octets in
    let F : Frame = frame_in (g.P.Source.means c.args.src.now) in
    let read = c.in_ok-classes.ensures.asks honest (room_weaker f F _ (IsMarkedText f F c.args.named.marks.items) (λ m is. only m is.0) room) in
    let few = count_by-le-length (λ marked. marked) c.args.named.marks.items in
    let paid = paid_all f F _ c.loop-n.n _ _ (c.loop-n.invariant.paid honest seen whole) room in
    omega (arith, read, few, paid, c.requires.all_named, c.loop-n.auto.n-end, whole)

pub returns-then-branch-clause-asks : goal.returns-then-branch-clause-asks
returns-then-branch-clause-asks g c = λ honest whole seen room only.
    let f = (g.P.Source.means c.args.src.now).octets in
    let F : Frame = frame_in (g.P.Source.means c.args.src.now) in
    let read = c.in_ok-classes.ensures.asks honest (room_weaker f F _ (IsMarkedText f F c.args.named.marks.items) (λ m is. only m is.0) room) in
    let few = count_by-le-length (λ marked. marked) c.args.named.marks.items in
    omega (arith, read, few, c.requires.all_named)

pub returns-clause-exact : goal.returns-clause-exact
returns-clause-exact g c = λ honest seen named apart.
    λ n low vouched. (c.loop-n.invariant.exact honest seen named).1 n (omega (arith, low, c.loop-n-test.false)) vouched
