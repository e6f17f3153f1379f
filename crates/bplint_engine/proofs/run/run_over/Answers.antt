use Rattle.std.proofs.Common.{ap, sym, ◌∙◌, []}
use Rattle.std.specs.Prelude.{if◌then◌else◌}
use Rattle.std.proofs.lemmas.Result.{err_from_is_err_and}
use Rattle.bplint_engine.specs.Commands.{Asked}
use Rattle.bplint_engine.specs.Said.{takes_cert}
use Rattle.bplint_engine.proofs.HexAnswers.{as_bytes, as_texts, text_refused}
use Rattle.bplint_engine.proofs.run.run_over.Goals as goal

pub returns-then-not-command-clause-exact : goal.returns-then-not-command-clause-exact
returns-then-not-command-clause-exact g c =
    let hex = sym (ap (λ (x : Asked). x.hex) c.command.view_is) ∙ c.if-not-command.true in
    as_bytes c.args.command.now _ _ _ _ _ hex c.run_over_bytes.ensures.exact

pub returns-in_err-cert-clause-exact : goal.returns-in_err-cert-clause-exact
returns-in_err-cert-clause-exact g c =
    let cert = c.args.cert.now in
    let hex = sym (ap (λ (x : Asked). x.hex) c.command.view_is) ∙ c.if-not-command.false in
    let shown = c.cert_for.ensures ∙ ap (λ (x : Asked). if takes_cert x.verb then cert else []) c.command.view_is in
    let p = err_from_is_err_and c.from_residual-in_err-cert.result c.from_residual-in_err-cert.ensures.1 in
    rw (p.1, p.2) (text_refused c.args.command.now c.args.file.now cert _ _ (g.W.Write.contents c.args.out.now) _ hex c.in_ok-file.ensures.bytes shown c.in_err-cert.ensures.refused)

pub returns-clause-exact : goal.returns-clause-exact
returns-clause-exact g c =
    let cert = c.args.cert.now in
    let hex = sym (ap (λ (x : Asked). x.hex) c.command.view_is) ∙ c.if-not-command.false in
    let shown = c.cert_for.ensures ∙ ap (λ (x : Asked). if takes_cert x.verb then cert else []) c.command.view_is in
    let left = rw (c.deref.ensures.value, c.deref-2.ensures.value) at c.run_over_bytes-2.ensures.exact in
    as_texts c.args.command.now c.args.file.now cert _ _ _ _ _ _ hex c.in_ok-file.ensures.bytes shown c.in_ok-cert.ensures.bytes left
