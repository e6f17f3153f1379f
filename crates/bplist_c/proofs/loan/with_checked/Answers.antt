use Rattle.std.proofs.Common.{◌∙◌, Some, ap, length, refl, subst, sym}
use Rattle.core.specs.Fn.{FnOnceReturnsAtMut}
use Rattle.bplist_objects.specs.declared.frame.Frame.{Frame}
use Rattle.bplist_cert.specs.CheckedFile.{CheckedFile}
use Rattle.bplist_c.proofs.HandleSource.{on_lent}
use Rattle.bplist_c.proofs.loan.with_checked.Goals as goal

pub returns-in-Ok-clause-kept : goal.returns-in-Ok-clause-kept
returns-in-Ok-clause-kept g c =
    let e = c.in-Ok.ensures in
    let x = c.in-Ok.lent.checked in let y = c.call-answer.new.arg2 in let s = e.2.0 in
    let gave : FnOnceReturnsAtMut g.F.FnOnce c.args.call x c.call-answer.result y = record { shown = _; shows = refl; left = _; met = c.call-answer.ensures; leaves = refl } in
    let same = c.requires.reads x y c.call-answer.result gave ∙ e.2.2 in (
      c.give_back.ensures.length ∙ ap (λ (z : CheckedFile). length z.source.octets) same ∙ sym e.1,
      c.give_back.ensures.session ∙ ap (λ (F : Frame). Some (record { frame = F; certificate = y.certificate })) e.2.3
          ∙ ap (λ (z : CheckedFile). Some (record { frame = s.frame; certificate = z.certificate })) same ∙ sym e.2.1,
    )

pub returns-in-Ok-clause-exact : goal.returns-in-Ok-clause-exact
returns-in-Ok-clause-exact g c =
    let e = c.in-Ok.ensures in
    let x = c.in-Ok.lent.checked in let y = c.call-answer.new.arg2 in
    let gave : FnOnceReturnsAtMut g.F.FnOnce c.args.call x c.call-answer.result y = record { shown = _; shows = refl; left = _; met = c.call-answer.ensures; leaves = refl } in
    let stayed = subst (λ (z : CheckedFile). FnOnceReturnsAtMut g.F.FnOnce c.args.call x c.call-answer.result z) (c.requires.reads x y c.call-answer.result gave) gave in
    on_lent c.args.file c.args.handle.now _ e.2.0 x c.call-answer.result e.0 e.1 e.2.1 e.2.2 stayed
