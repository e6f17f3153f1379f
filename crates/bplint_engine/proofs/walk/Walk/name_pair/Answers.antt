use Rattle.std.proofs.Common.{◌≡◌, ◌∙◌, ap}
use Rattle.std.proofs.lemmas.Result.{err_from_is_err_and}
use Rattle.bplint_lines.specs.MemberNames.{key_name}
use Rattle.bplint_engine.specs.Names.{name_in}
use Rattle.bplint_engine.proofs.walk.Walk.name_pair.Goals as goal

pub returns-in_err-units-clause-exact : goal.returns-in_err-units-clause-exact
returns-in_err-units-clause-exact g c = λ honest style order u held.
    let p = err_from_is_err_and c.from_residual.result c.from_residual.ensures.1 in
    rw (p.1, p.2) (c.in_err-units.ensures.exact honest u held)

pub returns-in-Shown-clause-exact : goal.returns-in-Shown-clause-exact
returns-in-Shown-clause-exact g c = λ honest style order u held.
    let units = c.as_slice.ensures ∙ c.in_ok-units.ensures.exact honest u held in
    let same : c.in-Shown.style ≡ style = let keys = order.0 in let is = c.in-Shown.is in cc in
    let outer = name_in c.args.self.now.names c.args.dict in
    c.in_ok-push_key-in-Shown.ensures.1 ∙ ap (λ s. key_name s outer c.args.number c.as_slice.result.now) same ∙ ap (key_name style outer c.args.number) units
