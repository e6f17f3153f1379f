use Rattle.std.proofs.Common.{sym, subst}
use Rattle.std.proofs.lemmas.Grind.{merely}
use Rattle.bplist_objects.specs.declared.frame.Frame.{Frame}
use Rattle.bplist_cert.specs.CheckedFile.{IsChecked}
use Rattle.bplist_cert.specs.Lists.{Lists}
use Rattle.bplist_cert.proofs.VouchedObjects.{sound}
use Rattle.bplist_lint.specs.Upgraded.{IsLintedWith}
use Rattle.bplist_lint.proofs.Passes.{linted_accepted, refusal_decides, refusal_never}
use Rattle.bplist_lint.proofs.checked.lint_checked.Goals as goal

pub new-requires : goal.new-requires
new-requires g c = subst (λ m. IsChecked (record { source = m; frame = c.in-Ok.frame; certificate = c.in-Ok.certificate; asked = g.S.Source.asked c.lint_file.new.src })) (sym c.in-Ok.ensures.reads) record {
  safe = c.in-Ok.ensures.safe;
  count = c.in-Ok.ensures.count;
  framed = λ honest. (c.in-Ok.ensures.exact honest).0.valid.frame;
  accepted = λ honest. merely (linted_accepted _ _ _ c.in-Ok.tally c.args.keys (c.in-Ok.ensures.exact honest));
}

pub returns-in-Ok-clause-exact : goal.returns-in-Ok-clause-exact
returns-in-Ok-clause-exact g c = λ honest.
    let f = (g.S.Source.means c.args.src).octets in
    let keys = c.args.keys in
    let tally = c.in-Ok.tally in
    subst (λ (F : Frame). IsLintedWith keys f F c.new.result.certificate tally) (sym c.new.ensures.frame)
    (subst (λ (made : Lists). IsLintedWith keys f c.in-Ok.frame made tally) (sym c.new.ensures.certificate) (c.in-Ok.ensures.exact honest))

pub returns-in-Ok-clause-sound : goal.returns-in-Ok-clause-sound
returns-in-Ok-clause-sound g c = λ honest. merely (sound _ _ _ (c.in-Ok.ensures.exact honest).0.valid)

pub returns-in-Err-clause-decisive : goal.returns-in-Err-clause-decisive
returns-in-Err-clause-decisive g c = λ honest. refusal_decides _ c.in-Err.refusal (c.in-Err.ensures.exact honest)

pub returns-in-Err-clause-never : goal.returns-in-Err-clause-never
returns-in-Err-clause-never g c = λ honest v holds. refusal_never _ v holds c.in-Err.refusal (c.in-Err.ensures.exact honest)
