use Rattle.std.proofs.lemmas.Grind.{merely}
use Rattle.bplint_engine.specs.Lint.{LintSays}
use Rattle.bplint_engine.specs.Get.{found_line}
use Rattle.bplint_engine.proofs.GetAnswers.{queries_say}
use Rattle.bplint_engine.proofs.PathAnswers.{AreLines, file_refused, lint_there, lint_yes, path_refused}
use Rattle.bplint_engine.proofs.PathQueries.{bytes_of}
use Rattle.bplint_engine.proofs.show.show_output.Goals as goal

pub returns-in-Err-clause-exact : goal.returns-in-Err-clause-exact
returns-in-Err-clause-exact g c =
    λ honest. let f = (g.S.Source.means c.args.src).octets in
    merely (path_refused (LintSays f) f (bytes_of c.args.texts.now) (AreLines (found_line c.args.style)) _ c.in-Err.ensures)

pub returns-in-Ok-checked_for-clause-exact : goal.returns-in-Ok-checked_for-clause-exact
returns-in-Ok-checked_for-clause-exact g c =
    λ honest. let f = (g.S.Source.means c.args.src).octets in
    let told = rw (c.in-Ok-checked_for.ensures.handed, c.deref-in-Ok-checked_for.ensures.value) at c.lines_for-made.ensures.exact in
    let (_, least) = c.in-Ok-checked_for.ensures.exact honest in
    queries_say c.args.style (LintSays f) f (bytes_of c.args.texts.now) _ _ _ _ c.in-Ok.ensures.1 c.in-Ok.ensures.2
    (lint_yes f _ _ least) (merely (lint_there f _ _ least)) (told honest)

pub returns-clause-exact : goal.returns-clause-exact
returns-clause-exact g c =
    λ honest. let f = (g.S.Source.means c.args.src).octets in
    merely (file_refused (LintSays f) f (bytes_of c.args.texts.now) (AreLines (found_line c.args.style)) _ _ c.in-Ok.ensures.1 (c.in-Err-checked_for.ensures.exact honest))
