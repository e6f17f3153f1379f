use Rattle.std.proofs.Common.{◌≡◌, length, arith}
use Rattle.std.proofs.lemmas.Grind.{common_steps}
use Rattle.bplist_objects.specs.declared.frame.Frame.{Frame}
use Rattle.bplist_objects.specs.Framed.{frame_in}
use Rattle.bplist_lint.proofs.Passes.{linted_yes}
use Rattle.bplist_lint.proofs.linter.finish.Goals as goal

pub returns-in-Some-clause-exact : goal.returns-in-Some-clause-exact
returns-in-Some-clause-exact g c = λ honest.
    let F : Frame = frame_in (g.P.Source.means c.args.src.now) in
    let framed = c.frame-frame.ensures.framed.framed honest in
    let heights = c.in-Some.heights.items in
    let sifted = rw c.in-Some.is at (c.requires.sifted honest) in
    let count : length heights ≡ F.objects = grind (arith, rw c.in-Some.is at c.requires.all, common_steps) in
    (linted_yes _ F framed c.args.reached sifted.0 (let roomy = c.requires.fits.roomy in omega (arith, roomy.room, roomy.references)) heights count sifted.1.0 (omega (arith, sifted.1.1)))
