use Rattle.std.proofs.Common.{◌≡◌, ◌∙◌, ap, refl, sym, subst, arith}
use Rattle.bplist_objects.specs.declared.frame.Frame.{Frame}
use Rattle.bplist_objects.specs.Framed.{frame_in}
use Rattle.bplist_cert.specs.Lists.{Lists}
use Rattle.bplist_cert.specs.Looks.{KeepBeforeKeysBelow}
use Rattle.bplist_cert.specs.declared.walk.Pass.TheVariants.{Quick}
use Rattle.bplist_cert.proofs.AskedBytes.{all_room}
use Rattle.bplist_cert.proofs.CheckSteps.{all_good, seen_first, seen_object, vouched_inside, keys_first, refused_weaker, on_err}
use Rattle.bplist_cert.proofs.checker.check_found.Goals as goal

pub returns-in_err-check-in-Ok-clause-exact : goal.returns-in_err-check-in-Ok-clause-exact
returns-in_err-check-in-Ok-clause-exact g c = λ honest none.
    let F : Frame = frame_in (g.P.Source.means c.args.src.now) in
    let heights = c.args.cert.now.heights in
    let keys = c.args.cert.now.keys in
    let same = ap (λ (x : Lists). x.keys) c.cert.view_is in
    let run = c.in-Ok.ensures.exact honest none in
    let shown = c.deref-heights.ensures.value ∙ ap (λ (x : Lists). x.heights) c.cert.view_is in
    let keyed = rw (c.in-Ok.ensures.reads, c.frame-objects.ensures.frame, same, shown) at c.in_err-check-in-Ok.ensures.exact in
    on_err _ _ _ _ c.from_residual.ensures.1 (refused_weaker _ _ c.in_err-check-in-Ok.field-0.0 (λ fault h. keys_first _ _ heights keys fault F.objects run.0.kept h) (keyed honest run.0.kept run.1))

pub returns-in_err-check-in-Err-Fault-clause-exact : goal.returns-in_err-check-in-Err-Fault-clause-exact
returns-in_err-check-in-Err-Fault-clause-exact g c = λ honest none.
    let f = (g.P.Source.means c.args.src.now).octets in
    let F : Frame = frame_in (g.P.Source.means c.args.src.now) in
    let heights = c.args.cert.now.heights in
    let keys = c.args.cert.now.keys in
    let same = ap (λ (x : Lists). x.keys) c.cert.view_is in
    let fault = (rw c.in-Err-Fault.field-0-is at c.in-Err-Fault.ensures.exact) honest none in
    let s = fault.0 in
    let found = fault.1 in
    let shown = c.deref-heights.ensures.value ∙ ap (λ (x : Lists). x.heights) c.cert.view_is in
    let named = c.object_of.ensures _ (seen_object f F heights keys _ s) in
    let inside = vouched_inside heights F.objects s.object c.requires s.vouched in
    let objects : c.frame-objects.result.objects ≡ F.objects = ap (λ (x : Frame). x.objects) c.frame-objects.ensures.frame in
    let bound : c.min.result ≡ s.object = omega (arith, c.min.ensures, named, inside, objects) in
    let seen = subst (KeepBeforeKeysBelow f F heights) (sym bound) s.seen in
    let reads = rw c.in-Err-Fault.field-0-is at c.in-Err-Fault.ensures.reads in
    let keyed = rw (reads, same, shown) at c.in_err-check-in-Err-Fault.ensures.exact in
    on_err _ _ _ _ c.from_residual-in_err-check-in-Err-Fault.ensures.1 (refused_weaker _ _ c.in_err-check-in-Err-Fault.field-0.0 (λ fault h. keys_first f F heights keys fault c.min.result seen h) (keyed honest seen (c.forget.ensures f F c.args.cert.now c.min.result found)))

pub returns-in_ok-check-in-Ok-clause-exact : goal.returns-in_ok-check-in-Ok-clause-exact
returns-in_ok-check-in-Ok-clause-exact g c = λ honest none.
    let heights = c.args.cert.now.heights in
    let keys = c.args.cert.now.keys in
    let same = ap (λ (x : Lists). x.keys) c.cert.view_is in
    let run = c.in-Ok.ensures.exact honest none in
    let shown = c.deref-heights.ensures.value ∙ ap (λ (x : Lists). x.heights) c.cert.view_is in
    let keyed = rw (c.in-Ok.ensures.reads, c.frame-objects.ensures.frame, same, shown) at c.in_ok-check-in-Ok.ensures.exact in
    all_good _ _ heights keys c.in-Ok.used.octets run.0 (keyed honest run.0.kept run.1)

pub returns-in_ok-check-in-Err-Fault-clause-exact : goal.returns-in_ok-check-in-Err-Fault-clause-exact
returns-in_ok-check-in-Err-Fault-clause-exact g c = λ honest none.
    let f = (g.P.Source.means c.args.src.now).octets in
    let F : Frame = frame_in (g.P.Source.means c.args.src.now) in
    let heights = c.args.cert.now.heights in
    let keys = c.args.cert.now.keys in
    let same = ap (λ (x : Lists). x.keys) c.cert.view_is in
    let fault = (rw c.in-Err-Fault.field-0-is at c.in-Err-Fault.ensures.exact) honest none in
    let s = fault.0 in
    let shown = c.deref-heights.ensures.value ∙ ap (λ (x : Lists). x.heights) c.cert.view_is in
    let named = c.object_of.ensures _ (seen_object f F heights keys _ s) in
    let inside = vouched_inside heights F.objects s.object c.requires s.vouched in
    let objects : c.frame-objects.result.objects ≡ F.objects = ap (λ (x : Frame). x.objects) c.frame-objects.ensures.frame in
    let bound : c.min.result ≡ s.object = omega (arith, c.min.ensures, named, inside, objects) in
    let seen = subst (KeepBeforeKeysBelow f F heights) (sym bound) s.seen in
    let reads = rw c.in-Err-Fault.field-0-is at c.in-Err-Fault.ensures.reads in
    let keyed = rw (reads, same, shown) at c.in_ok-check-in-Err-Fault.ensures.exact in
    let good = keyed honest seen (c.forget.ensures f F c.args.cert.now c.min.result fault.1) in
    seen_first f F heights keys _ s (λ n lt v. good n (omega (arith, lt, bound)) v)

pub returns-in_ok-check-in-Ok-clause-asks : goal.returns-in_ok-check-in-Ok-clause-asks
returns-in_ok-check-in-Ok-clause-asks g c = λ honest none seen some.
    let same = ap (λ (x : Lists). x.keys) c.cert.view_is in
    let run = c.in-Ok.ensures.exact honest seen in
    let passes = c.in-Ok.ensures.asks honest seen none in
    let shown = c.deref-heights.ensures.value ∙ ap (λ (x : Lists). x.heights) c.cert.view_is in
    let keyed = rw (c.in-Ok.ensures.reads, c.frame-objects.ensures.frame, same, shown) at c.in_ok-check-in-Ok.ensures.asks in
    let told = keyed honest none refl (record {
      kept = run.0.kept;
      room = all_room _ _ c.args.cert.now Quick c.in-Ok.used.octets c.requires run.0;
      collected = rw none at run.1;
      some = λ e. some (passes.1 e);
    }) in
    omega (arith, passes.0, told, run.0.room)
