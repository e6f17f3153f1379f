use Rattle.std.proofs.Common.{◌≡◌, ◌+◌, ◌*◌, ◌≤◌, ◌∙◌, ap, length, refl, subst, arith}
use Rattle.std.proofs.Math.Nat.{mul-le-mul_left}
use Rattle.std.proofs.lemmas.List.{length-take-le}
use Rattle.bplist_objects.specs.declared.frame.Frame.{Frame}
use Rattle.bplist_objects.specs.Framed.{frame_in}
use Rattle.bplist_cert.specs.declared.walk.Pass.TheVariants.{Quick}
use Rattle.bplist_cert.specs.Lists.{Lists}
use Rattle.bplist_cert.specs.PairFault.{AreCheckedBelow}
use Rattle.bplist_cert.specs.KeysLooks.{AreSeen}
use Rattle.bplist_cert.proofs.CheckSteps.{start, given_weaker, on_err}
use Rattle.bplist_cert.proofs.KeysLooks.{none_seen, lists_seen, seen_on}
use Rattle.bplist_cert.proofs.walk.check_all.Goals as goal

pub loop-done-init : goal.loop-done-init
loop-done-init g c =
    record {
      same = refl;
      taken = c.take.ensures.after;
      asked = λ quick none. omega arith;
      stays = λ quick none. rw c.take.ensures.value at none;
      reached = omega arith;
      keys = λ honest seen. rw c.take.ensures.value seen;
      running = λ honest. rw c.new.ensures (start _ _ c.args.walk.certificate.now Quick (c.frame-objects.ensures.framed.framed honest));
    }

pub returns-in_err-look-clause-exact : goal.returns-in_err-look-clause-exact
returns-in_err-look-clause-exact g c = λ honest seen.
    let shown = c.deref-heights.ensures.value ∙ ap (λ (x : Lists). x.heights) c.cert.view_is in
    let keyed = ap (λ (x : Lists). x.keys) c.cert.view_is in
    let v = c.loop-done.invariant in
    let places = (rw v.same at c.in_ok-read_offsets_in.ensures.offsets) honest in
    let run = ((rw (c.in_ok-read_offsets_in.ensures.reads, v.same) at c.in_ok-check_block.ensures.exact) honest) places (v.running honest) in
    let exact = (rw (c.in_ok-check_block.ensures.reads, c.in_ok-read_offsets_in.ensures.reads, v.same, shown, keyed) at c.in_err-look.ensures.exact) honest in
    let lists = lists_seen _ _ c.args.walk.certificate.now.heights c.args.walk.certificate.now.keys c.loop-done.done c.loop-done.walked.named c.loop-done.found.lists (v.keys honest seen) in
    on_err _ _ _ _ c.from_residual-in_err-look.ensures.1 (given_weaker _ _ c.in_err-look.field-0.0 (λ x never. absurd never) (exact places run.0.kept lists))

pub returns-in_err-check_block-clause-exact : goal.returns-in_err-check_block-clause-exact
returns-in_err-check_block-clause-exact g c = λ honest seen.
    let v = c.loop-done.invariant in
    let places = (rw v.same at c.in_ok-read_offsets_in.ensures.offsets) honest in
    let fault = ((rw (c.in_ok-read_offsets_in.ensures.reads, v.same) at c.in_err-check_block.ensures.exact) honest) places (v.running honest) in
    let none = none_seen _ _ c.args.walk.certificate.now.heights c.args.walk.certificate.now.keys c.loop-done.done c.loop-done.walked.named c.loop-done.found.lists (v.keys honest seen) in
    rw v.taken (on_err _ _ _ _ c.from_residual-in_err-check_block.ensures.1 (given_weaker _ _ c.in_err-check_block.field-0.0 (λ x h. (h, none)) fault))

pub loop-done-preserved : goal.loop-done-preserved
loop-done-preserved g c =
    let shown = c.deref-heights.ensures.value ∙ ap (λ (x : Lists). x.heights) c.cert.view_is in
    let keyed = ap (λ (x : Lists). x.keys) c.cert.view_is in
    let m = g.P.Source.means c.args.src.now in
    let heights = c.args.walk.certificate.now.heights in
    let keys = c.args.walk.certificate.now.keys in
    let v = c.loop-done.invariant in
    let objects : c.frame-objects.result.objects ≡ (frame_in m).objects = ap (λ (x : Frame). x.objects) c.frame-objects.ensures.frame in
    let all : length c.read_offsets_in.new.into ≡ c.min-now.result = omega (arith, length-take-le c.min-now.result c.loop-done.buffer (omega arith)) in
    record {
      same = c.in_ok-look.ensures.reads ∙ c.in_ok-check_block.ensures.reads ∙ c.in_ok-read_offsets_in.ensures.reads ∙ v.same;
      taken = v.taken;
      asked = λ quick none.
          let read = rw (v.same, length-take-le c.min-now.result c.loop-done.buffer (omega arith)) at c.in_ok-read_offsets_in.ensures.asks in
          let most : c.min-now.result * (frame_in m).offset_size ≤ c.min-now.result * 8 = mul-le-mul_left c.min-now.result c.frame-objects.ensures.framed.safe.safe.offset_high in
          omega (arith, v.asked quick none, read, most, c.in_ok-check_block.ensures.asks quick, c.in_ok-look.ensures.asks (keyed ∙ none), all);
      stays = λ quick none. v.stays quick (c.in_ok-check_block.ensures.stays quick none);
      reached = omega (arith, objects);
      keys = λ honest seen.
          let places = (rw v.same at c.in_ok-read_offsets_in.ensures.offsets) honest in
          let run = ((rw (c.in_ok-read_offsets_in.ensures.reads, v.same) at c.in_ok-check_block.ensures.exact) honest) places (v.running honest) in
          let exact = (rw (c.in_ok-check_block.ensures.reads, c.in_ok-read_offsets_in.ensures.reads, v.same, shown, keyed) at c.in_ok-look.ensures.exact) honest in
          subst (λ k. AreSeen m.octets (frame_in m) c.args.walk.certificate.now (c.loop-done.done + k) (record { named = c.check_block.new.walked.named; lists = c.look.new.self })) all
          (seen_on m.octets (frame_in m) heights keys c.loop-done.done (c.loop-done.done + length c.read_offsets_in.new.into)
          c.loop-done.walked.named c.check_block.new.walked.named c.loop-done.found.lists c.look.new.self run.1 (exact places run.0.kept) (v.keys honest seen));
      running = λ honest.
          let places = (rw v.same at c.in_ok-read_offsets_in.ensures.offsets) honest in
          let exact = (rw (c.in_ok-read_offsets_in.ensures.reads, v.same) at c.in_ok-check_block.ensures.exact) honest in
          subst (λ k. AreCheckedBelow m.octets (frame_in m) c.args.walk.certificate.now Quick (c.loop-done.done + k) c.check_block.new.walked.used.octets) all
          (exact places (v.running honest)).0;
    }

pub returns-clause-exact : goal.returns-clause-exact
returns-clause-exact g c = λ honest seen.
    let m = g.P.Source.means c.args.src.now in
    let objects : c.frame-objects.result.objects ≡ (frame_in m).objects = ap (λ (x : Frame). x.objects) c.frame-objects.ensures.frame in
    let e : c.loop-done.done ≡ (frame_in m).objects = omega (arith, objects, c.loop-done.invariant.reached, c.loop-done-test.false) in (
      subst (λ k. AreCheckedBelow m.octets (frame_in m) c.args.walk.certificate.now Quick k c.loop-done.walked.used.octets) e (c.loop-done.invariant.running honest),
      subst (λ k. AreSeen m.octets (frame_in m) c.args.walk.certificate.now k (record { named = c.loop-done.walked.named; lists = c.loop-done.found.lists })) e
          (c.loop-done.invariant.keys honest seen),
    )
