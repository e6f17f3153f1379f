use Rattle.std.proofs.Common.{subst}
use Rattle.bplint_lines.specs.Answers.{Leaves}
use Rattle.bplint_engine.specs.Commands.{Asked}
use Rattle.bplint_engine.specs.Said.{Says, most}
use Rattle.bplint_engine.proofs.run.run_certified.Goals as goal

pub returns-in-Lint-clause-exact : goal.returns-in-Lint-clause-exact
returns-in-Lint-clause-exact g c = λ honest cert decoded. rw (← c.command.view_is) (rw c.in-Lint.is (c.lint_on.ensures.exact honest))

pub returns-in-Check-clause-exact : goal.returns-in-Check-clause-exact
returns-in-Check-clause-exact g c =
    λ honest cert decoded. rw (← c.command.view_is) (rw c.in-Check.is (c.check_on.ensures.exact honest cert decoded))

pub returns-in-Get-clause-exact : goal.returns-in-Get-clause-exact
returns-in-Get-clause-exact g c =
    λ honest cert decoded. let is = c.in-Get.is in
    let left = rw c.deref.ensures.value at (c.get_on.ensures.exact honest cert decoded) in
    subst (λ (x : Asked). Leaves (Says x (g.S.Source.means c.args.src).octets cert) (most x)
    (g.W.Write.contents c.args.out.now) (g.W.Write.contents c.get_on.new.out) c.get_on.result.0) c.command.view_is (rw is left)

pub returns-in-Certify-clause-exact : goal.returns-in-Certify-clause-exact
returns-in-Certify-clause-exact g c =
    λ honest cert decoded. rw (← c.command.view_is) (rw c.in-Certify.is (c.certify_on.ensures.exact honest))

pub returns-in-Print-clause-exact : goal.returns-in-Print-clause-exact
returns-in-Print-clause-exact g c =
    λ honest cert decoded. let is = c.in-Print.is in
    let one = rw c.deref-in-Print.ensures.value at c.only_text-path.ensures in
    let left = rw (← one) at (c.print_on.ensures.exact honest cert decoded) in
    subst (λ (x : Asked). Leaves (Says x (g.S.Source.means c.args.src).octets cert) (most x)
    (g.W.Write.contents c.args.out.now) (g.W.Write.contents c.print_on.new.out) c.print_on.result.0) c.command.view_is (rw is left)
