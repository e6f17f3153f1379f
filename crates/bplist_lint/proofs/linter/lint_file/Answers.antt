use Rattle.std.proofs.Common.{◌≡◌, ◌∙◌, rules}
use Rattle.bplist_cert.proofs.CheckSteps.{on_err}
use Rattle.bplist_lint.specs.FileFault.{IsFileCircle}
use Rattle.bplist_lint.proofs.Passes.{check_means, fault_passed, file_asked, lint_asked}
use Rattle.bplist_lint.proofs.linter.lint_file.Goals as goal

pub returns-in_err-frame-clause-exact : goal.returns-in_err-frame-clause-exact
returns-in_err-frame-clause-exact g c = λ honest.
    on_err _ _ _ _ c.from_residual.ensures.1 (check_means _ _ (IsFileCircle _) c.in_err-frame.field-0.0 (λ fault h. h) (c.in_err-frame.ensures.exact honest))

pub returns-in_err-certificate-clause-exact : goal.returns-in_err-certificate-clause-exact
returns-in_err-certificate-clause-exact g c = λ honest.
    on_err _ _ _ _ c.from_residual-in_err-certificate.ensures.1 (fault_passed _ _ (c.new-file.ensures.means ∙ c.in_ok-frame.ensures.reads) c.in_err-certificate.field-0.0 c.in_err-certificate.ensures.exact honest)

pub returns-in_err-certificate-clause-asks : goal.returns-in_err-certificate-clause-asks
returns-in_err-certificate-clause-asks g c = λ honest.
    let fr = c.in_ok-frame.ensures in
    let made = c.new-file.ensures in
    let told = lint_asked _ _ (made.means ∙ fr.reads) _ _ made.frame _ _ c.lint_opened.ensures.asks honest in
    let after : g.S.Source.asked c.src-1.given.0 ≡ g.S.Source.asked c.lint_opened.new.src.source.now = search rules in
    rw after (file_asked _ c.in_ok-frame.frame (fr.exact honest).0.spelled fr.safe _ _ _ _ _ fr.asks_table made.asked told)

pub returns-clause-asks : goal.returns-clause-asks
returns-clause-asks g c = λ honest.
    let fr = c.in_ok-frame.ensures in
    let made = c.new-file.ensures in
    let told = lint_asked _ _ (made.means ∙ fr.reads) _ _ made.frame _ _ c.lint_opened.ensures.asks honest in
    let after : g.S.Source.asked c.src-1.given.0 ≡ g.S.Source.asked c.lint_opened.new.src.source.now = search rules in
    rw after (file_asked _ c.in_ok-frame.frame (fr.exact honest).0.spelled fr.safe _ _ _ _ _ fr.asks_table made.asked told)
