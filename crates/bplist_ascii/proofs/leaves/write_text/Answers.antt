use Rattle.std.proofs.Common.{◌≡◌, refl, sym, ◌∙◌}
use Rattle.std.specs.List.{flat_map}
use Rattle.std.proofs.lemmas.Result.{IfErr-weaker, on_ok_weaker, err_from_is_err_and}
use Rattle.bplist_objects.specs.Units.{units_of}
use Rattle.bplist_cursor.specs.Texts.{text_of_units, quoted}
use Rattle.bplist_ascii.specs.declared.printer.Style.TheVariants.{Unquoted}
use Rattle.bplist_ascii.specs.BoundedWrites.{styled}
use Rattle.bplist_ascii.proofs.WriteSteps.{unquoted_text, quoted_text, flat_unquoted, text_under, fails_under, fails_same, read_fails, adds_nothing}
use Rattle.bplist_ascii.proofs.leaves.write_text.Goals as goal

pub returns-in_err-is_unquoted-clause-fails : goal.returns-in_err-is_unquoted-clause-fails
returns-in_err-is_unquoted-clause-fails g c =
    let p = err_from_is_err_and c.from_residual.result c.from_residual.ensures.1 in
    rw (p.1, p.2) (λ honest low. read_fails _ c.in_err-is_unquoted.field-0.0 (adds_nothing (g.W.Write.contents c.args.out.now) c.args.sink.now c.args.room.now) refl c.in_err-is_unquoted.ensures.exact)

pub returns-then-branch-clause-fails : goal.returns-then-branch-clause-fails
returns-then-branch-clause-fails g c =
    let us = units_of c.args.checked.now.source.octets c.args.head.now in
    IfErr-weaker c.write_text_body.result _ _
    (λ e fails honest low.
    let b = unquoted_text us (sym (c.in_ok-is_unquoted.ensures.exact honest) ∙ c.if-branch.true) in
    let same : flat_map (styled Unquoted) us ≡ text_of_units us = flat_unquoted us ∙ sym b.0 in
    fails_under _ _ _ _ e same (fails honest b.1) low)
    (rw c.in_ok-is_unquoted.ensures.reads at c.write_text_body.ensures.fails)

pub returns-then-branch-clause-adds : goal.returns-then-branch-clause-adds
returns-then-branch-clause-adds g c =
    let us = units_of c.args.checked.now.source.octets c.args.head.now in
    on_ok_weaker c.write_text_body.result
    (λ adds. text_under (λ honest.
    let b = unquoted_text us (sym (c.in_ok-is_unquoted.ensures.exact honest) ∙ c.if-branch.true) in
    flat_unquoted us ∙ sym b.0) adds)
    (rw c.in_ok-is_unquoted.ensures.reads at c.write_text_body.ensures.adds)

pub returns-clause-fails : goal.returns-clause-fails
returns-clause-fails g c =
    let us = units_of c.args.checked.now.source.octets c.args.head.now in
    IfErr-weaker c.write_quoted.result _ _
    (λ e fails honest low.
    let same : quoted us ≡ text_of_units us = sym (quoted_text us (sym (c.in_ok-is_unquoted.ensures.exact honest) ∙ c.if-branch.false)) in
    fails_under _ _ _ _ e same (fails_same _ _ _ _ e (λ x. quoted (units_of x.source.octets c.args.head.now)) c.in_ok-is_unquoted.ensures.reads fails honest) low)
    c.write_quoted.ensures.fails
