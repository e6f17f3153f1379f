use Rattle.std.proofs.Common.{◌≡◌, ◌∙◌, ◌<◌, ap, arith}
use Rattle.std.proofs.lemmas.List.Elements.{All-push}
use Rattle.bplist_objects.specs.Framed.{frame_in}
use Rattle.bplist_objects.specs.declared.frame.Frame.{Frame}
use Rattle.bplint_engine.specs.declared.map.rows.ObjectOffset.{ObjectOffset}
use Rattle.bplint_engine.proofs.map.rows.objects_by_number.Goals as goal

pub loop-number-preserved : goal.loop-number-preserved
loop-number-preserved g c =
    let F = frame_in (g.P.Source.means c.args.src.now) in
    let n = c.loop-number.number in
    let objects : c.frame-count.result.objects ≡ F.objects = ap (λ (x : Frame). x.objects) c.frame-count.ensures.frame in
    let low : n < F.objects = omega (arith, c.loop-number-test.true, objects) in
    record {
      same = c.in_ok-place.ensures.reads ∙ c.loop-number.invariant.same;
      within = rw c.in_ok-push.ensures.items (All-push (λ (object : ObjectOffset). object.number < F.objects) _ _ c.loop-number.invariant.within low);
    }
