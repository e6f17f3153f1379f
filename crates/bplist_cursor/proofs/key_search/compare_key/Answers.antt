use Rattle.std.proofs.Common.{sym, ap, ◌∙◌}
use Rattle.bplist_objects.specs.Units.{compare_units}
use Rattle.bplist_cert.proofs.CheckSteps.{on_err}
use Rattle.bplist_cursor.proofs.key_search.compare_key.Goals as goal

pub returns-in_err-head-clause-exact : goal.returns-in_err-head-clause-exact
returns-in_err-head-clause-exact g c = λ honest us s.
    on_err _ _ _ _ c.from_residual.ensures.1 (c.in_err-head.ensures.exact honest us s)

pub returns-clause-exact : goal.returns-clause-exact
returns-clause-exact g c = λ honest us s.
    (rw c.in_ok-head.ensures.reads at c.in_ok-key_cmp.ensures.value) honest ∙ ap (λ ws. compare_units ws c.args.units.now) (sym (c.in_ok-head.ensures.exact honest us s))
