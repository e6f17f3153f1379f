use Rattle.std.proofs.Common.{◌∷◌, []}
use Rattle.std.proofs.lemmas.Grind.{merely}
use Rattle.bplint_engine.specs.Lint.{LintSays}
use Rattle.bplint_engine.specs.Print.{PrintSays}
use Rattle.bplint_engine.proofs.LeftBytes.{kept_self, refused}
use Rattle.bplint_engine.proofs.PathAnswers.{IsText, file_refused, lint_there, lint_yes, path_refused}
use Rattle.bplint_engine.proofs.PrintAnswers.{text_leaves}
use Rattle.bplint_engine.proofs.show.show_text_on.Goals as goal

pub returns-in-Ok-checked_by_lint-clause-exact : goal.returns-in-Ok-checked_by_lint-clause-exact
returns-in-Ok-checked_by_lint-clause-exact g c =
    λ honest. let f = (g.S.Source.means c.args.src).octets in
    let left = rw c.in-Ok-checked_by_lint.ensures.handed at c.text_path-led.ensures.exact in
    let least = c.in-Ok-checked_by_lint.ensures.exact honest in
    merely (text_leaves (LintSays f) f (c.args.path.now ∷ []) c.args.limit _ _ _ _ _ c.in-Ok.ensures (lint_yes f _ _ least) (lint_there f _ _ least) (left honest))

pub returns-in-Err-clause-exact : goal.returns-in-Err-clause-exact
returns-in-Err-clause-exact g c =
    λ honest. let f = (g.S.Source.means c.args.src).octets in
    let text = c.args.path.now in
    merely (refused (PrintSays c.args.limit (LintSays f) f (text ∷ [])) c.args.limit _ _ _ (path_refused (LintSays f) f (text ∷ []) (IsText c.args.limit f) _ c.in-Err.ensures) (kept_self _))

pub returns-clause-exact : goal.returns-clause-exact
returns-clause-exact g c =
    λ honest. let f = (g.S.Source.means c.args.src).octets in
    let text = c.args.path.now in
    merely (refused (PrintSays c.args.limit (LintSays f) f (text ∷ [])) c.args.limit _ _ _
    (file_refused (LintSays f) f (text ∷ []) (IsText c.args.limit f) (c.in-Ok.path ∷ []) _ c.in-Ok.ensures (c.in-Err-checked_by_lint.ensures.exact honest)) (kept_self _))
