use Rattle.std.proofs.Common.{◌<◌, arith}
use Rattle.std.proofs.lemmas.Result.{IfOk-weaker}
use Rattle.bplist_objects.specs.declared.frame.Frame.{Frame}
use Rattle.bplist_objects.specs.Framed.{frame_in}
use Rattle.bplist_objects.proofs.HeadTies.{shape_tie}
use Rattle.bplist_cert.proofs.TextObjects.{text_there}
use Rattle.bplist_cert.proofs.LowBytes.{low_kept, text_is_low}
use Rattle.bplist_cert.proofs.key_rules.is_text.Goals as goal

pub returns-in-Ascii-clause-exact : goal.returns-in-Ascii-clause-exact
returns-in-Ascii-clause-exact g c = λ honest low.
    IfOk-weaker c.covers.result _ _ (λ text h.
    let F : Frame = frame_in (g.P.Source.means c.args.src.now) in
    let framed = c.frame-frame.ensures.framed.framed honest in
    let named = rw c.frame-frame.ensures.frame at c.in-Some.ensures in
    let within : c.args.m < F.objects = omega (arith, named.0, named.1) in
    let head = c.in-Some-2.head in
    let there = (rw (c.in-Some-2.is, named.0) at c.in_ok-head.ensures.exact) honest in
    let rules = (shape_tie _ _ c.args.m framed within head).1 there.0 in (
      h.0,
      (
        λ yes1. (head, text_there _ _ c.args.m framed within head rules.0 (low_kept _ _ c.args.m head rules.0 rules.1 c.in-Ascii.is (h.1.0 yes1)) there.1),
        λ t. h.1.1 (text_is_low _ _ c.args.m head rules.0 c.in-Ascii.is t.0 t.1),
      ),
    ))
    ((rw c.in_ok-head.ensures.reads at c.covers.ensures.exact) honest low)
