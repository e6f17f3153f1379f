use Rattle.std.proofs.Common.{◌≡◌, ◌+◌, ◌∙◌, length, refl, subst, arith}
use Rattle.std.proofs.lemmas.List.{length-take-le}
use Rattle.bplist_objects.specs.declared.frame.Frame.{Frame}
use Rattle.bplist_objects.specs.Framed.{frame_in}
use Rattle.bplist_objects.proofs.ScanLaws.{asked_on}
use Rattle.bplist_cert.specs.Heights.{AreMet}
use Rattle.bplist_cert.proofs.Blocks.{HasCollectedFirst, met_more, unmet_there, collected_more, collected_all}
use Rattle.bplist_cert.specs.Walks.{IfCollected}
use Rattle.bplist_cert.proofs.heights.check_refs.Goals as goal

pub returns-in-Some-clause-exact : goal.returns-in-Some-clause-exact
returns-in-Some-clause-exact g c = λ honest.
    let m = g.P.Source.means c.args.src.now in
    let F : Frame = frame_in m in
    let v = c.loop-done.invariant in
    let all : length c.read_refs_in.new.into ≡ c.min-now.result = omega (arith, length-take-le c.min-now.result c.loop-done.buffer (omega arith)) in
    let next = (rw v.same at c.in_ok-read_refs_in.ensures.numbers) honest in
    let there = unmet_there m.octets F c.args.heights.now c.args.container.head.now c.args.wanted c.loop-done.done c.read_refs_in.new.into next (v.met honest) (omega (arith, all, c.refs_of-refs.ensures, c.min-now.ensures)) c.in-Some.i c.in-Some.ensures in
    let place = rw (c.in_ok-read_refs_in.ensures.reads, v.same) at c.ref_place.ensures in
    (c.rule.ensures, refl, (c.loop-done.done + c.in-Some.i, there, place))

pub loop-done-preserved : goal.loop-done-preserved
loop-done-preserved g c =
    let m = g.P.Source.means c.args.src.now in
    let F : Frame = frame_in m in
    let v = c.loop-done.invariant in
    let all : length c.read_refs_in.new.into ≡ c.min-now.result = omega (arith, length-take-le c.min-now.result c.loop-done.buffer (omega arith)) in
    record {
      same = c.in_ok-read_refs_in.ensures.reads ∙ v.same;
      reached = omega arith;
      asked =
          let read = rw (v.same, length-take-le c.min-now.result c.loop-done.buffer (omega arith)) at c.in_ok-read_refs_in.ensures.asks in
          asked_on (g.P.Source.asked c.args.src.now) _ _ c.loop-done.done c.min-now.result F.ref_size v.asked read;
      stays = λ none. v.stays (c.collect_keys.ensures.stays none);
      met = λ honest.
          let next = (rw v.same at c.in_ok-read_refs_in.ensures.numbers) honest in
          subst (λ k. AreMet m.octets F c.args.heights.now c.args.container.head.now c.args.wanted (c.loop-done.done + k)) all
          (met_more m.octets F c.args.heights.now c.args.container.head.now c.args.wanted c.loop-done.done c.read_refs_in.new.into next (v.met honest) (length c.read_refs_in.new.into) (omega arith) c.in_default.ensures);
      collected = λ honest.
          let next = (rw v.same at c.in_ok-read_refs_in.ensures.numbers) honest in
          subst (λ k. IfCollected c.args.names.now c.collect_keys.new.names (HasCollectedFirst m.octets F c.args.container.head.now (c.loop-done.done + k) (c.args.container.n.0 + 1))) all
          (collected_more m.octets F c.args.container.head.now (c.args.container.n.0 + 1) c.loop-done.done c.read_refs_in.new.into next c.args.names.now c.loop-done.names c.collect_keys.new.names
          (v.collected honest) c.collect_keys.ensures.stamped);
    }

pub returns-clause-names : goal.returns-clause-names
returns-clause-names g c = λ honest.
    let m = g.P.Source.means c.args.src.now in
    collected_all m.octets (frame_in m) c.args.container.head.now (c.args.container.n.0 + 1) c.loop-done.done (omega (arith, c.refs_of-refs.ensures, c.loop-done.invariant.reached, c.loop-done-test.false)) c.args.names.now c.loop-done.names
    (c.loop-done.invariant.collected honest)
