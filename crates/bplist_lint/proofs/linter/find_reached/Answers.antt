use Rattle.std.proofs.Common.{◌≡◌, length, arith, ◌∙◌, false, sym}
use Rattle.std.proofs.lemmas.Grind.{common_steps}
use Rattle.std.proofs.lemmas.Bool.{false≢true}
use Rattle.bplist_objects.specs.declared.frame.Frame.{Frame}
use Rattle.bplist_objects.specs.Framed.{frame_in}
use Rattle.bplist_lint.proofs.KeyClasses.{reached_named}
use Rattle.bplist_lint.proofs.ListWrites.{unwritten}
use Rattle.bplist_lint.proofs.linter.find_reached.Goals as goal

pub returns-clause-exact : goal.returns-clause-exact
returns-clause-exact g c = λ honest.
    let F : Frame = frame_in (g.P.Source.means c.args.src.now) in
    let walked = c.in_ok-known.ensures.reads in
    let framed = (rw walked at c.frame-frame.ensures.framed.framed) honest in
    let marked = (rw walked at c.in_ok-marks.ensures.exact) honest in
    let childless = rw walked at c.in_ok-marks.ensures.childless in
    let all : length c.in_ok-marks.field-0.marks.items ≡ F.objects = (let marks_all = rw walked at c.in_ok-marks.ensures.all in grind (arith, common_steps)) in
    let named = c.in_ok-marks.ensures.named in
    let tallied = (rw (c.deref.ensures.value, c.in_ok-marks.ensures.reads, walked) at c.in_ok-tally.ensures.exact) honest marked in (
      record { marked = marked; childless = λ n is. absurd (false≢true (sym (unwritten F.objects n false) ∙ (rw childless at is))); tallied = tallied },
      rw named (reached_named _ F c.in_ok-marks.field-0.marks.items all framed marked tallied.kept),
    )
