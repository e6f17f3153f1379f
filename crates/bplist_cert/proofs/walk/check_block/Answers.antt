use Rattle.std.proofs.Common.{◌≡◌, ◌+◌, ◌∙◌, ap, suc, length, slice_index, refl, subst, arith}
use Rattle.bplist_objects.specs.Framed.{frame_in}
use Rattle.bplist_cert.specs.declared.walk.Pass.TheVariants.{Quick}
use Rattle.bplist_cert.specs.Lists.{Lists}
use Rattle.bplist_cert.specs.PairFault.{AreCheckedBelow}
use Rattle.bplist_cert.specs.Walks.{AreCollected}
use Rattle.bplist_cert.proofs.CheckSteps.{passed, held_more, fault_met, given_weaker, on_err}
use Rattle.bplist_cert.proofs.KeysLooks.{none_collected}
use Rattle.bplist_cert.specs.Valid.{IsVouchedBy}
use Rattle.bplist_cert.proofs.walk.check_block.Goals.{then-heights-n-gt0+in_ok-check_object, else-heights-n-gt0}
use Rattle.bplist_cert.proofs.walk.check_block.Goals as goal

pub loop-i-preserved : goal.loop-i-preserved
loop-i-preserved g c =
    let shown = c.deref-heights.ensures.value ∙ ap (λ (x : Lists). x.heights) c.cert.view_is in
    let m = g.P.Source.means c.args.src.now in
    let heights = c.args.walk.certificate.now.heights in
    let keys = c.args.walk.certificate.now.keys in
    let n = c.args.from + c.loop-i.i in
    let height = ap (λ xs. slice_index xs n) shown in
    let e : suc n ≡ c.args.from + (c.loop-i.i + 1) = omega arith in
    elim c.if-heights-n-gt0.branch [
      | then-heights-n-gt0+in_ok-check_object w ↦ rw (w.src-is, w.walked-is) record {
        same = w.in_ok-check_object.ensures.reads ∙ c.loop-i.invariant.same;
        asked = λ quick. omega (arith, c.loop-i.invariant.asked quick, w.in_ok-check_object.ensures.asks quick);
        stays = λ quick none. c.loop-i.invariant.stays quick (w.in_ok-check_object.ensures.stays quick none);
        running = λ honest places run.
            let exact = rw c.loop-i.invariant.same at w.in_ok-check_object.ensures.exact in
            let v : IsVouchedBy heights n = omega (arith, height, w.if-heights-n-gt0.true) in
            let before = c.loop-i.invariant.running honest places run in
            let here = exact honest (places c.loop-i.i c.loop-i-test.true) v before.0.sums in (
              subst (λ k. AreCheckedBelow m.octets (frame_in m) c.args.walk.certificate.now Quick k w.check_object.new.walked.used.octets) e
                  (held_more m.octets (frame_in m) heights keys n Quick c.loop-i.walked.used.octets before.0 w.check_object.new.walked.used.octets here.0),
              λ named. subst (λ k. AreCollected m.octets (frame_in m) heights k w.check_object.new.walked.named) e (here.1 (before.1 named)),
            );
      }
      | else-heights-n-gt0 w ↦ rw (w.src-is, w.walked-is) record {
        same = c.loop-i.invariant.same;
        asked = λ quick. omega (arith, c.loop-i.invariant.asked quick);
        stays = c.loop-i.invariant.stays;
        running = λ honest places run.
            let none : slice_index heights n ≡ 0 = omega (arith, height, w.if-heights-n-gt0.false) in
            let before = c.loop-i.invariant.running honest places run in (
              subst (λ k. AreCheckedBelow m.octets (frame_in m) c.args.walk.certificate.now Quick k c.loop-i.walked.used.octets) e
                  (passed m.octets (frame_in m) heights keys n Quick none c.loop-i.walked.used.octets before.0),
              λ named. subst (λ k. AreCollected m.octets (frame_in m) heights k c.loop-i.walked.named) e
                  (none_collected m.octets (frame_in m) heights n (λ v. absurd (omega (arith, v, none))) c.loop-i.walked.named (before.1 named)),
            );
      }
    ]

pub returns-in_err-check_object-clause-exact : goal.returns-in_err-check_object-clause-exact
returns-in_err-check_object-clause-exact g c = λ honest places run.
    let shown = c.deref-heights.ensures.value ∙ ap (λ (x : Lists). x.heights) c.cert.view_is in
    let heights = c.args.walk.certificate.now.heights in
    let keys = c.args.walk.certificate.now.keys in
    let exact = rw c.loop-i.invariant.same at c.in_err-check_object.ensures.exact in
    let v : IsVouchedBy heights (c.args.from + c.loop-i.i) = omega (arith, ap (λ xs. slice_index xs (c.args.from + c.loop-i.i)) shown, c.if-heights-n-gt0.true) in
    let before = (c.loop-i.invariant.running honest places run).0 in
    on_err _ _ _ _ c.from_residual.ensures.1 (given_weaker _ _ c.in_err-check_object.field-0.0
    (λ fault h. fault_met _ _ heights keys (c.args.from + c.loop-i.i) (omega (arith, c.loop-i-test.true, c.requires.within)) v c.args.walk.look c.loop-i.walked.used.octets before fault h)
    (exact honest (places c.loop-i.i c.loop-i-test.true) v before.sums))

pub returns-clause-exact : goal.returns-clause-exact
returns-clause-exact g c = λ honest places run.
    let m = g.P.Source.means c.args.src.now in
    let e : c.args.from + c.loop-i.i ≡ c.args.from + length c.args.places.now = omega (arith, c.loop-i-test.false, c.loop-i.auto.i-end) in
    let so_far = c.loop-i.invariant.running honest places run in (
      subst (λ k. AreCheckedBelow m.octets (frame_in m) c.args.walk.certificate.now Quick k c.loop-i.walked.used.octets) e so_far.0,
      λ named. subst (λ k. AreCollected m.octets (frame_in m) c.args.walk.certificate.now.heights k c.loop-i.walked.named) e (so_far.1 named),
    )

pub loop-i-init : goal.loop-i-init
loop-i-init g c =
    let m = g.P.Source.means c.args.src.now in
    let e : c.args.from ≡ c.args.from + 0 = omega arith in
    record {
      same = refl;
      asked = λ quick. omega arith;
      stays = λ quick none. none;
      running = λ honest places run. (
        subst (λ k. AreCheckedBelow m.octets (frame_in m) c.args.walk.certificate.now Quick k c.args.walked.now.used.octets) e run,
        subst (λ k. AreCollected m.octets (frame_in m) c.args.walk.certificate.now.heights k c.args.walked.now.named) e,
      );
    }
