use Rattle.std.proofs.Common.{◌≡◌, ◌↔◌, ◌≤◌, ◌+◌, ◌*◌, ℕ, rules}
use Rattle.bplist_objects.specs.Framed.{HonestlyIn}
use Rattle.bplist_objects.specs.Reach.{Reach}
use Rattle.bplist_keys.specs.Marks.{IsMarked}
use Rattle.bplist_lint.specs.ReachRules.{KeepReached, is_marked, reach_rules}
use Rattle.bplist_lint.specs.ReachWalk.{extents_below}
use Rattle.bplist_lint.specs.declared.graph.View.TheVariants as views
use Rattle.bplist_lint.proofs.ObjectReferences.{none_in_view}
use Rattle.bplist_lint.proofs.ValueHeights.{are_least_all}
use Rattle.bplist_lint.proofs.WalkCosts.{values_closed, heights_asked}
use Rattle.bplist_lint.proofs.linter.find_heights.Given.{Over}
use Rattle.bplist_lint.proofs.linter.find_heights.Goals.{After-least_heights}
use Rattle.bplist_lint.proofs.linter.find_heights.Goals as goal

pub returns-clause-exact : goal.returns-clause-exact
returns-clause-exact g c = λ honest kept keys marked.
    let tied = c.frame-frame.ensures.framed in
    let closed = values_closed _ _ tied.safe (tied.framed honest) kept c.args.marks.now c.requires.marks marked in
    let least = (rw (c.new-objects.ensures.means, c.new-objects.ensures.view) at c.in_ok-least_heights.ensures.exact) honest closed (λ n m. let b = c.requires.childless honest n m in ((marked n).1 b.0, none_in_view _ _ n views.Values b.1)) in
    are_least_all _ _ (tied.framed honest) kept c.args.marks.now marked keys _ least

asked : (g : Over) (c : After-least_heights g) → HonestlyIn (g.P.Source.means c.args.src.now) (λ f F. KeepReached f F reach_rules F.objects → ((n : ℕ) → IsMarked c.args.marks.now n ↔ Reach f F n)
    → g.P.Source.asked c.least_heights.new.graph.source.now ≤ g.P.Source.asked c.args.src.now + (292 + 868 * F.objects + 8 * extents_below f F (is_marked c.args.marks.now) F.objects))
asked g c honest kept marked =
    let tied = c.frame-frame.ensures.framed in
    let closed = values_closed _ _ tied.safe (tied.framed honest) kept c.args.marks.now c.requires.marks marked in
    let told = (rw (c.new-objects.ensures.means, c.new-objects.ensures.view) at c.least_heights.ensures.asks) honest closed (λ n m. let b = c.requires.childless honest n m in ((marked n).1 b.0, none_in_view _ _ n views.Values b.1)) in
    heights_asked _ _ tied.safe (tied.framed honest) kept c.args.marks.now c.requires.marks marked c.args.childless.now _ _ _ c.new-objects.ensures.asked told

pub returns-in_err-least_heights-clause-asks : goal.returns-in_err-least_heights-clause-asks
returns-in_err-least_heights-clause-asks g c = λ honest kept marked.
    let after : g.P.Source.asked c.src-1.given.0 ≡ g.P.Source.asked c.least_heights.new.graph.source.now = search rules in
    rw after (asked g (goal.at.returns-in_err-least_heights-clause-asks g c).After-least_heights honest kept marked)

pub returns-clause-asks : goal.returns-clause-asks
returns-clause-asks g c = λ honest kept marked.
    let after : g.P.Source.asked c.src-1.given.0 ≡ g.P.Source.asked c.least_heights.new.graph.source.now = search rules in
    rw after (asked g (goal.at.returns-clause-asks g c).After-least_heights honest kept marked)
