use Rattle.std.proofs.Common.{◌≡◌, ◌<◌, ◌≤◌, ◌+◌, ◌*◌, length, slice_index, arith, rules}
use Rattle.std.proofs.lemmas.Grind.{common_steps}
use Rattle.std.proofs.lemmas.List.{get_or_read}
use Rattle.bplist_objects.specs.declared.frame.Frame.{Frame}
use Rattle.bplist_objects.specs.Answers.{Never}
use Rattle.bplist_objects.specs.Framed.{HonestlyIn, frame_in}
use Rattle.bplist_cert.proofs.CheckSteps.{on_err}
use Rattle.bplist_lint.specs.FileFault.{IsFileCircle, IsFileFault}
use Rattle.bplist_lint.specs.ReachRules.{is_marked}
use Rattle.bplist_lint.specs.ReachWalk.{extents_below}
use Rattle.bplist_lint.specs.declared.graph.View.TheVariants as views
use Rattle.bplist_lint.proofs.Passes.{check_means, linted_yes, circled}
use Rattle.bplist_lint.proofs.ReferenceGraph.{reach_iff}
use Rattle.bplist_lint.proofs.ValueHeights.{all_whole}
use Rattle.bplist_lint.proofs.WalkCosts.{circle_asked}
use Rattle.bplist_lint.proofs.linter.heights_or_circle.Given.{Over}
use Rattle.bplist_lint.proofs.linter.heights_or_circle.Goals.{After-circle}
use Rattle.bplist_lint.proofs.linter.heights_or_circle.Goals as goal

pub returns-in_err-heights-clause-exact : goal.returns-in_err-heights-clause-exact
returns-in_err-heights-clause-exact g c = λ honest.
    let s = c.requires.sifted honest in
    let told = (rw c.deref.ensures.value at c.in_err-heights.ensures.exact) honest s.walked.tallied.kept s.keys s.walked.marked in
    on_err _ _ _ _ c.from_residual.ensures.1 (check_means Never (IsFileFault _) (IsFileCircle _) c.in_err-heights.field-0.0 (λ fault h. absurd h) told)

pub returns-in_err-circle-clause-exact : goal.returns-in_err-circle-clause-exact
returns-in_err-circle-clause-exact g c = λ honest.
    let framed = c.frame-frame.ensures.framed.framed honest in
    let s = c.requires.sifted honest in
    let told = (rw (c.new-objects.ensures.means, c.new-objects.ensures.view, c.in_ok-heights.ensures.reads, c.frame-frame.ensures.frame) at c.in_err-circle.ensures.circle) honest (λ n r. all_whole _ _ framed s.walked.tallied.kept views.All n ((reach_iff _ _ n).0 r)) in
    on_err _ _ _ _ c.from_residual-in_err-circle.ensures.1 (check_means Never (IsFileFault _) (IsFileCircle _) c.in_err-circle.field-0.0 (λ fault h. absurd h) told)

pub returns-then-index-eq0-clause-exact : goal.returns-then-index-eq0-clause-exact
returns-then-index-eq0-clause-exact g c = λ honest.
    let framed = c.frame-frame.ensures.framed.framed honest in
    let s = c.requires.sifted honest in
    let circle = (rw (c.new-objects.ensures.means, c.new-objects.ensures.view, c.in_ok-heights.ensures.reads, c.frame-frame.ensures.frame) at c.in_ok-circle.ensures.circle) honest (λ n r. all_whole _ _ framed s.walked.tallied.kept views.All n ((reach_iff _ _ n).0 r)) in
    rw c.new.ensures (circled _ _ framed _ s _ circle)

pub returns-clause-exact : goal.returns-clause-exact
returns-clause-exact g c = λ honest.
    let F : Frame = frame_in (g.P.Source.means c.args.src.now) in
    let framed = c.frame-frame.ensures.framed.framed honest in
    let s = c.requires.sifted honest in
    let heights = c.in_ok-heights.heights.items in
    let walked = (rw c.deref.ensures.value at c.in_ok-heights.ensures.exact) honest s.walked.tallied.kept s.keys s.walked.marked in
    let count : length heights ≡ F.objects = grind (arith, common_steps) in
    let height = get_or_read heights F.top.0 c.index.result.now (rw count c.frame-frame.ensures.framed.safe.top) (rw c.frame-frame.ensures.frame at c.index.ensures) 0 in
    let some : 0 < slice_index heights F.top.0 = omega (arith, height, c.if-index-eq0.false) in
    (linted_yes _ F framed c.args.reached s (let roomy = c.requires.fits.roomy in omega (arith, roomy.room, roomy.references)) heights count walked some)

pub circle-requires-clause-heights : goal.circle-requires-clause-heights
circle-requires-clause-heights g c = rw (c.new-objects.ensures.means, c.new-objects.ensures.view, c.in_ok-heights.ensures.reads, c.frame-frame.ensures.frame, c.deref-then-index-eq0.ensures.value) (λ honest.
    let s = c.requires.sifted honest in
    (rw c.deref.ensures.value at c.in_ok-heights.ensures.exact) honest s.walked.tallied.kept s.keys s.walked.marked)

-- what was asked for with the circle
asked : (g : Over) (c : After-circle g) → HonestlyIn (g.P.Source.means c.args.src.now) (λ f F.
    g.P.Source.asked c.circle.new.graph.source.now ≤ g.P.Source.asked c.args.src.now + (292 + 1160 * F.objects + 12 * extents_below f F (is_marked c.args.reached.marks.items) F.objects))
asked g c honest =
    let F : Frame = frame_in (g.P.Source.means c.args.src.now) in
    let tied = c.frame-frame.ensures.framed in
    let s = c.requires.sifted honest in
    let marks = c.args.reached.marks.items in
    let all : length marks ≡ F.objects = (let marks_all = c.requires.fits.all_marks in grind (arith, common_steps)) in
    let first = (rw c.deref.ensures.value at c.in_ok-heights.ensures.asks) honest s.walked.tallied.kept s.walked.marked in
    let told = (rw (c.new-objects.ensures.means, c.new-objects.ensures.view, c.in_ok-heights.ensures.reads, c.frame-frame.ensures.frame) at c.circle.ensures.asks) honest (λ n r. all_whole _ F (tied.framed honest) s.walked.tallied.kept views.All n ((reach_iff _ F n).0 r)) marks (λ n r. (s.walked.marked n).1 ((reach_iff _ F n).0 r)) in
    circle_asked _ F tied.safe (tied.framed honest) s.walked.tallied.kept marks all s.walked.marked _ _ _ _ first c.new-objects.ensures.asked told

pub returns-in_err-circle-clause-asks : goal.returns-in_err-circle-clause-asks
returns-in_err-circle-clause-asks g c = λ honest.
    let after : g.P.Source.asked c.src-1.given.0 ≡ g.P.Source.asked c.circle.new.graph.source.now = search rules in
    rw after (asked g (goal.at.returns-in_err-circle-clause-asks g c).After-circle honest)

pub returns-then-index-eq0-clause-asks : goal.returns-then-index-eq0-clause-asks
returns-then-index-eq0-clause-asks g c = λ honest.
    let after : g.P.Source.asked c.src-1.given.0 ≡ g.P.Source.asked c.circle.new.graph.source.now = search rules in
    rw after (asked g (goal.at.returns-then-index-eq0-clause-asks g c).After-circle honest)
