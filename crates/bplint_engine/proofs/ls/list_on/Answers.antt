use Rattle.std.proofs.Common.{None, ◌∷◌, []}
use Rattle.std.proofs.lemmas.Grind.{merely}
use Rattle.bplint_engine.specs.Get.{LinesSay}
use Rattle.bplint_engine.specs.Lint.{LintSays}
use Rattle.bplint_engine.specs.Ls.{listed}
use Rattle.bplint_engine.proofs.LeftBytes.{kept_self, refused_within}
use Rattle.bplint_engine.proofs.PathAnswers.{AreLines, file_refused, lint_there, lint_yes, path_refused}
use Rattle.bplint_engine.proofs.SentAnswers.{path_listed}
use Rattle.bplint_engine.proofs.ls.list_on.Goals as goal

pub returns-in-Err-clause-exact : goal.returns-in-Err-clause-exact
returns-in-Err-clause-exact g c = λ honest.
    let f = (g.S.Source.means c.args.src).octets in
    let texts = c.args.path.now ∷ [] in
    let lines = listed c.args.style c.args.path.now in
    let old = g.W.Write.contents c.args.out.now in
    merely (refused_within (LinesSay lines (LintSays f) f texts) None old old c.in-Err.fault (path_refused (LintSays f) f texts (AreLines lines) _ c.in-Err.ensures) (kept_self old))

pub returns-in-Ok-checked_by_lint-clause-exact : goal.returns-in-Ok-checked_by_lint-clause-exact
returns-in-Ok-checked_by_lint-clause-exact g c = λ honest.
    let f = (g.S.Source.means c.args.src).octets in
    let left = rw c.in-Ok-checked_by_lint.ensures.handed at c.list_path-answer.ensures.exact in
    let least = c.in-Ok-checked_by_lint.ensures.exact honest in
    merely (path_listed c.args.style (LintSays f) f c.args.path.now _ _ _ _ _ c.in-Ok.ensures (lint_yes f _ _ least) (lint_there f _ _ least) (left honest))

pub returns-clause-exact : goal.returns-clause-exact
returns-clause-exact g c = λ honest.
    let f = (g.S.Source.means c.args.src).octets in
    let texts = c.args.path.now ∷ [] in
    let lines = listed c.args.style c.args.path.now in
    let old = g.W.Write.contents c.args.out.now in
    merely (refused_within (LinesSay lines (LintSays f) f texts) None old old c.in-Err-checked_by_lint.fault
    (file_refused (LintSays f) f texts (AreLines lines) (c.in-Ok.steps ∷ []) _ c.in-Ok.ensures (c.in-Err-checked_by_lint.ensures.exact honest)) (kept_self old))
