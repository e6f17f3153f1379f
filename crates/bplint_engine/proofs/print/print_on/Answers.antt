use Rattle.std.proofs.Common.{◌∷◌, []}
use Rattle.std.proofs.lemmas.Grind.{merely}
use Rattle.bplint_engine.specs.Check.{CheckSays}
use Rattle.bplint_engine.specs.Print.{PrintSays}
use Rattle.bplint_engine.proofs.LeftBytes.{kept_self, refused}
use Rattle.bplint_engine.proofs.PathAnswers.{IsText, check_there, check_yes, file_refused, path_refused}
use Rattle.bplint_engine.proofs.PrintAnswers.{print_leaves}
use Rattle.bplint_engine.proofs.print.print_on.Goals as goal

pub returns-in-Ok-check_decoded-clause-exact : goal.returns-in-Ok-check_decoded-clause-exact
returns-in-Ok-check_decoded-clause-exact g c =
    λ honest cert made. let f = (g.S.Source.means c.args.src).octets in
    let left = rw c.in-Ok-check_decoded.ensures.handed at c.print_checked.ensures.exact in
    let vouched = c.in-Ok-check_decoded.ensures.exact honest cert made in
    print_leaves (CheckSays f cert) f (c.args.path.now ∷ []) _ _ _ _ _ _ c.in-Ok.ensures (check_yes f cert _ _ vouched) (check_there f cert _ _ vouched) (left honest)

pub returns-in-Err-clause-exact : goal.returns-in-Err-clause-exact
returns-in-Err-clause-exact g c =
    λ honest cert made. let f = (g.S.Source.means c.args.src).octets in
    let text = c.args.path.now in
    merely (refused (PrintSays c.args.limit (CheckSays f cert) f (text ∷ [])) c.args.limit _ _ _ (path_refused (CheckSays f cert) f (text ∷ []) (IsText c.args.limit f) _ c.in-Err.ensures) (kept_self _))

pub returns-clause-exact : goal.returns-clause-exact
returns-clause-exact g c =
    λ honest cert made. let f = (g.S.Source.means c.args.src).octets in
    let text = c.args.path.now in
    merely (refused (PrintSays c.args.limit (CheckSays f cert) f (text ∷ [])) c.args.limit _ _ _
    (file_refused (CheckSays f cert) f (text ∷ []) (IsText c.args.limit f) (c.in-Ok.path ∷ []) _ c.in-Ok.ensures (c.in-Err-check_decoded.ensures.exact honest cert made)) (kept_self _))
