use Rattle.std.proofs.Common.{rules, arith, ◌≡◌, ◌≢◌, ◌<◌, ◌≤◌, inl, inr, length, refl, sym, ap, ◌∙◌, subst, Some, None, Err}
use Rattle.std.specs.Prelude.{⊤}
use Rattle.std.proofs.lemmas.Result.{err_from_is_err_and}
use Rattle.bplist_cursor.specs.declared.sizes.Form.TheVariants.{NoForm, Length}
use Rattle.bplist_cursor.specs.Forms.{form_of}
use Rattle.bplist_cursor.specs.OldStyle.{value_text}
use Rattle.bplist_cursor.proofs.TextParts.{text_formed}
use Rattle.bplist_octets.specs.Sending.{Takes}
use Rattle.bplist_ascii.specs.Printed.{HasText}
use Rattle.bplist_ascii.proofs.SearchSteps.{no_text_of, text_of_length}
use Rattle.bplist_ascii.proofs.PrintSteps.{read_prints, walk_fails}
use Rattle.std.proofs.KnownBytes.{Keeps-refl}
use Rattle.bplist_ascii.proofs.printer.print_into.Goals as goal

pub returns-in_err-part-in-Some-NoForm-clause-exact : goal.returns-in_err-part-in-Some-NoForm-clause-exact
returns-in_err-part-in-Some-NoForm-clause-exact g c = λ honest vouched v h.
    let p = err_from_is_err_and c.from_residual.result c.from_residual.ensures.1 in
    let form = (c.requires.measured honest).form c.args.node.object.0 v vouched h in
    let both : Some NoForm ≡ Some (form_of v) = ap Some (sym c.in-Some-NoForm.field-0-is) ∙ c.in-Some-NoForm.ensures ∙ form in
    let none = no_text_of (value_text v) (cc both) in
    rw (p.1, p.2) (read_prints _ c.args.sink.now _ _ _ v _ c.in_err-part-in-Some-NoForm.field-0.0 none (c.in_err-part-in-Some-NoForm.ensures.exact honest v (vouched, h) none))

pub returns-in_ok-part-in-Some-NoForm-clause-exact : goal.returns-in_ok-part-in-Some-NoForm-clause-exact
returns-in_ok-part-in-Some-NoForm-clause-exact g c = λ honest vouched v h.
    let form = (c.requires.measured honest).form c.args.node.object.0 v vouched h in
    let both : Some NoForm ≡ Some (form_of v) = ap Some (sym c.in-Some-NoForm.field-0-is) ∙ c.in-Some-NoForm.ensures ∙ form in
    let none = no_text_of (value_text v) (cc both) in
    (none, c.in_ok-part-in-Some-NoForm.ensures.exact honest v (vouched, h) none, (Keeps-refl (g.W.Write.contents c.args.out.now), refl))

pub returns-in-None-clause-exact : goal.returns-in-None-clause-exact
returns-in-None-clause-exact g c = λ honest vouched v h.
    let form = (c.requires.measured honest).form c.args.node.object.0 v vouched h in
    let both : None ≡ Some (form_of v) = c.in-None.ensures ∙ form in
    cc both

pub returns-then-length-limit-clause-exact : goal.returns-then-length-limit-clause-exact
returns-then-length-limit-clause-exact g c = λ honest vouched v h.
    let form = (c.requires.measured honest).form c.args.node.object.0 v vouched h in
    let both : Some (Length c.in-Some-Length.length) ≡ Some (form_of v) = ap Some (sym c.in-Some-Length.field-0-is) ∙ c.in-Some-Length.ensures ∙ form in
    let t = text_of_length (value_text v) c.in-Some-Length.length (cc both) in
    let capped = t.2 in
    let some : value_text v ≢ None = λ none. cc (none, t.1) in
    let long : ¬ HasText v c.args.limit (λ _. ⊤) = λ (u, is, low, few, _).
    let same : u ≡ t.0 = cc (is, t.1) in
    let size = ap length same in
    elim c.then-length-limit.either [ inl a ↦ omega (arith, a, capped, low, size) | inr b ↦ omega (arith, b, capped, few, size) ] in
    (some, long, (Keeps-refl (g.W.Write.contents c.args.out.now), refl))

pub returns-in_err-write_value-in-Some-Length-clause-exact : goal.returns-in_err-write_value-in-Some-Length-clause-exact
returns-in_err-write_value-in-Some-Length-clause-exact g c = λ honest vouched v h.
    let is : c.from_residual-in_err-write_value-in-Some-Length.result ≡ Err c.in_err-write_value-in-Some-Length.field-0.0 = search rules in
    let form = (c.requires.measured honest).form c.args.node.object.0 v vouched h in
    let both : Some (Length c.in-Some-Length.length) ≡ Some (form_of v) = ap Some (sym c.in-Some-Length.field-0-is) ∙ c.in-Some-Length.ensures ∙ form in
    let t = text_of_length (value_text v) c.in-Some-Length.length (cc both) in
    let capped = t.2 in
    let low : length t.0 ≤ c.args.limit = omega (arith, capped, c.if-length-limit.false, c.if-length.false) in
    let few : length t.0 < 18446744073709551615 = omega (arith, capped, c.if-length-limit.false, c.if-length.false) in
    let formed = text_formed v t.0 t.1 in
    rw is (walk_fails _ _ c.args.sink.now c.write_value.new.sink _ _ _ v c.args.limit c.in_err-write_value-in-Some-Length.field-0.0 t.0 t.1 formed.1 low few
    ((rw c.new.ensures.room at c.in_err-write_value-in-Some-Length.ensures.fails) honest v (vouched, h) formed.0))

pub returns-in_ok-write_value-in-Some-Length-clause-exact : goal.returns-in_ok-write_value-in-Some-Length-clause-exact
returns-in_ok-write_value-in-Some-Length-clause-exact g c = λ honest vouched v h.
    let form = (c.requires.measured honest).form c.args.node.object.0 v vouched h in
    let both : Some (Length c.in-Some-Length.length) ≡ Some (form_of v) = ap Some (sym c.in-Some-Length.field-0-is) ∙ c.in-Some-Length.ensures ∙ form in
    let t = text_of_length (value_text v) c.in-Some-Length.length (cc both) in
    let capped = t.2 in
    let low : length t.0 ≤ c.args.limit = omega (arith, capped, c.if-length-limit.false, c.if-length.false) in
    let few : length t.0 < 18446744073709551615 = omega (arith, capped, c.if-length-limit.false, c.if-length.false) in
    let formed = text_formed v t.0 t.1 in (
      t.0,
      t.1,
      low,
      few,
      subst (Takes (g.W.Write.contents c.args.out.now) (g.W.Write.contents c.write_value.new.out) c.args.sink.now c.write_value.new.sink) formed.1
          (c.in_ok-write_value-in-Some-Length.ensures.exact honest v (vouched, h) formed.0),
    )
