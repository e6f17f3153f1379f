use Rattle.std.proofs.lemmas.Grind.{merely}
use Rattle.bplint_engine.specs.Check.{CheckSays}
use Rattle.bplint_engine.specs.Get.{found_line}
use Rattle.bplint_lines.specs.declared.texts.Style.TheVariants.{OldStyle}
use Rattle.bplint_engine.proofs.GetAnswers.{certified_say, queries_say}
use Rattle.bplint_engine.proofs.PathAnswers.{AreLines, check_there, check_yes, file_refused, path_refused}
use Rattle.bplint_engine.proofs.PathQueries.{bytes_of}
use Rattle.bplint_engine.proofs.RefusedCertificates.{octets_refused}
use Rattle.bplint_engine.proofs.get.get_output.Goals as goal

pub returns-in-Err-clause-exact : goal.returns-in-Err-clause-exact
returns-in-Err-clause-exact g c =
    λ honest cert made. let f = (g.S.Source.means c.args.src).octets in
    merely (path_refused (CheckSays f cert) f (bytes_of c.args.texts.now) (AreLines (found_line OldStyle)) _ c.in-Err.ensures)

pub returns-in-Err-decoded-clause-exact : goal.returns-in-Err-decoded-clause-exact
returns-in-Err-decoded-clause-exact g c =
    λ honest cert made. let f = (g.S.Source.means c.args.src).octets in
    merely (file_refused (CheckSays f cert) f (bytes_of c.args.texts.now) (AreLines (found_line OldStyle)) _ _ c.in-Ok.ensures.1
    (rw c.from.ensures (octets_refused f cert c.in-Err-decoded.refusal (rw c.in-Err-decoded.is at made))))

pub returns-then-len-lt-MANY-clause-exact : goal.returns-then-len-lt-MANY-clause-exact
returns-then-len-lt-MANY-clause-exact g c =
    λ honest cert made. let f = (g.S.Source.means c.args.src).octets in
    let told = rw c.deref.ensures.value at c.answer_certified-told.ensures in
    certified_say f cert (bytes_of c.args.texts.now) _ _ c.in-Ok-decoded.certificate _ _ _ c.in-Ok.ensures.1 c.in-Ok.ensures.2
    (rw c.in-Ok-decoded.is at made) (told.theorem honest) (told.yes honest) (told.refused honest) c.lines_told.ensures.exact

pub returns-in-Ok-checked_for-clause-exact : goal.returns-in-Ok-checked_for-clause-exact
returns-in-Ok-checked_for-clause-exact g c =
    λ honest cert made. let f = (g.S.Source.means c.args.src).octets in
    let told = rw (c.in-Ok-checked_for.ensures.handed, c.deref-in-Ok-checked_for.ensures.value) at c.lines_for-made.ensures.exact in
    let (lists, vouched) = c.in-Ok-checked_for.ensures.exact honest cert (rw c.in-Ok-decoded.is at made) in
    queries_say OldStyle (CheckSays f cert) f (bytes_of c.args.texts.now) _ _ _ _ c.in-Ok.ensures.1 c.in-Ok.ensures.2
    (check_yes f cert _ lists vouched) (check_there f cert _ lists vouched) (told honest)

pub returns-clause-exact : goal.returns-clause-exact
returns-clause-exact g c =
    λ honest cert made. let f = (g.S.Source.means c.args.src).octets in
    merely (file_refused (CheckSays f cert) f (bytes_of c.args.texts.now) (AreLines (found_line OldStyle)) _ _ c.in-Ok.ensures.1
    (c.in-Err-checked_for.ensures.exact honest cert (rw c.in-Ok-decoded.is at made)))
