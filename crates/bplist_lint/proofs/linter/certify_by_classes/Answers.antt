use Rattle.std.proofs.Common.{◌≡◌, ◌≤◌, ◌+◌, ◌*◌, ◌∙◌, length, refl, subst, arith}
use Rattle.bplist_octets.specs.Meaning.{Meaning}
use Rattle.bplist_objects.specs.Framed.{HonestlyIn}
use Rattle.bplist_cert.specs.Refusals.{GivesRefusal}
use Rattle.bplist_cert.proofs.CheckSteps.{on_err}
use Rattle.bplist_lint.specs.FileFault.{IsFileFault, IsFileCircle}
use Rattle.bplist_lint.specs.ReachWalk.{NamesMarked}
use Rattle.bplist_lint.proofs.Passes.{check_means, reached_room}
use Rattle.bplist_lint.proofs.linter.certify_by_classes.Given.{Over}
use Rattle.bplist_lint.proofs.linter.certify_by_classes.Goals.{After-finish, After-known_classes, then-count-objects, else-count-objects}
use Rattle.bplist_lint.proofs.linter.certify_by_classes.Goals as goal

-- whether the places are freed or not, the source means the same, and was asked for as much
freed : (g : Over) (c : After-known_classes g) → (g.P.Source.means c.if-count-objects.src ≡ g.P.Source.means c.args.src.now) × (g.P.Source.asked c.if-count-objects.src ≡ g.P.Source.asked c.args.src.now)
freed g c = elim c.if-count-objects.branch [
  | then-count-objects b ↦ rw b.src-is (b.forget_places.ensures.same, b.forget_places.ensures.asks)
  | else-count-objects b ↦ rw b.src-is (refl, refl)
]

pub check_keys-requires-clause-known : goal.check_keys-requires-clause-known
check_keys-requires-clause-known g c =
    let same = (freed g (goal.at.check_keys-requires-clause-known g c).After-known_classes).0 in
    rw (c.in_ok-classes.ensures.reads, same) (λ honest.
    let known = c.requires.walked honest in
    record { walked = known.0; named = c.args.named.marks.items; all = known.1; classes = (rw same at c.in_ok-classes.ensures.exact) honest })

pub returns-in_err-heights-clause-exact : goal.returns-in_err-heights-clause-exact
returns-in_err-heights-clause-exact g c = λ honest.
    let m = g.P.Source.means c.args.src.now in
    let same : g.P.Source.means c.known_classes.new.src ≡ m = c.in_ok-classes.ensures.reads ∙ (freed g (goal.at.returns-in_err-heights-clause-exact g c).After-known_classes).0 in
    let told = subst (λ (n : Meaning). HonestlyIn n (λ f F. GivesRefusal (IsFileFault f) c.in_err-heights.field-0.0)) same c.in_err-heights.ensures.exact honest in
    on_err _ _ _ _ c.from_residual-in_err-heights.ensures.1 (check_means _ _ (IsFileCircle m.octets) c.in_err-heights.field-0.0 (λ fault h. h) told)

pub returns-in_err-classes-clause-asks : goal.returns-in_err-classes-clause-asks
returns-in_err-classes-clause-asks g c = λ honest only.
    let from = (goal.at.returns-in_err-classes-clause-asks g c).After-known_classes in
    let fits = reached_room _ _ (c.frame-objects.ensures.framed.framed honest) c.args.reached c.requires.fits c.args.named.marks.items c.requires.all_named (c.requires.walked honest).0 only in
    let classed = (rw (freed g from).0 at c.known_classes.ensures.asks) honest fits.0 in
    omega (arith, (freed g from).1, classed, fits.2)

pub returns-in_err-heights-clause-asks : goal.returns-in_err-heights-clause-asks
returns-in_err-heights-clause-asks g c = λ honest only.
    let from = (goal.at.returns-in_err-heights-clause-asks g c).After-known_classes in
    let same = (freed g from).0 in
    let fits = reached_room _ _ (c.frame-objects.ensures.framed.framed honest) c.args.reached c.requires.fits c.args.named.marks.items c.requires.all_named (c.requires.walked honest).0 only in
    let classed = (rw same at c.known_classes.ensures.asks) honest fits.0 in
    let keys = (rw (c.in_ok-classes.ensures.reads, same) at c.check_keys.ensures.asks) honest in
    omega (arith, (freed g from).1, classed, keys, fits.1, fits.2)

-- however the call ends after the exact heights, it asked for no more than this
finished : (g : Over) (c : After-finish g) → (g.P.Source.means c.if-count-objects.src ≡ g.P.Source.means c.args.src.now) × (g.P.Source.asked c.if-count-objects.src ≡ g.P.Source.asked c.args.src.now)
    → HonestlyIn (g.P.Source.means c.args.src.now) (λ f F. NamesMarked c.args.reached.marks.items c.args.named.marks.items
    → g.P.Source.asked c.finish.new.src ≤ g.P.Source.asked c.args.src.now + (2 * length f + 15 * F.table + 1596 * F.objects + 292))
finished g c (same, asked) = λ honest only.
    let fits = reached_room _ _ (c.frame-objects.ensures.framed.framed honest) c.args.reached c.requires.fits c.args.named.marks.items c.requires.all_named (c.requires.walked honest).0 only in
    let classed = (rw same at c.known_classes.ensures.asks) honest fits.0 in
    let keys = (rw (c.in_ok-classes.ensures.reads, same) at c.check_keys.ensures.asks) honest in
    let heights = (rw (c.in_ok-heights.ensures.reads, c.in_ok-classes.ensures.reads, same) at c.finish.ensures.asks) honest in
    omega (arith, asked, classed, keys, heights, fits.1, fits.2)

pub returns-in_err-heights-2-clause-asks : goal.returns-in_err-heights-2-clause-asks
returns-in_err-heights-2-clause-asks g c = let at = goal.at.returns-in_err-heights-2-clause-asks g c in finished g at.After-finish (freed g at.After-known_classes)

pub returns-clause-asks : goal.returns-clause-asks
returns-clause-asks g c = let at = goal.at.returns-clause-asks g c in finished g at.After-finish (freed g at.After-known_classes)
