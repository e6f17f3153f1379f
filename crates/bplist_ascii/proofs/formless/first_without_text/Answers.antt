use Rattle.std.proofs.Common.{rules, arith, ◌≡◌, refl, sym, ap, ◌∙◌, subst, Some}
use Rattle.std.proofs.lemmas.Result.{err_from_is_err_and}
use Rattle.bplist_cursor.specs.declared.sizes.Form.TheVariants.{NoForm}
use Rattle.bplist_cursor.specs.OldStyle.{value_text}
use Rattle.bplist_cursor.specs.Forms.{form_of, form_of_text}
use Rattle.bplist_cursor.proofs.StepReferences.{content_of_value}
use Rattle.bplist_ascii.proofs.WalkSteps.{IsMember, none_from}
use Rattle.bplist_ascii.proofs.SearchSteps.{no_text_of, texts_more, has_text, not_all, leads}
use Rattle.bplist_ascii.proofs.formless.first_without_text.Goals as goal

pub loop-node-init : goal.loop-node-init
loop-node-init g c = record { same = refl; near = omega arith; so_far = λ honest n v held shown j l. absurd (omega (arith, l)) }

pub returns-in_err-node-clause-exact : goal.returns-in_err-node-clause-exact
returns-in_err-node-clause-exact g c = λ honest n v held none shown.
    let p = err_from_is_err_and c.from_residual.result c.from_residual.ensures.1 in
    let s = content_of_value c.args.checked.now.source.octets c.args.checked.now.frame v n held.1 in
    rw (p.1, p.2) ((rw c.loop-node.invariant.same at c.in_err-node.ensures.reference) honest n held.0 s.0 s.1 (shown s.0 s.1))

pub returns-then-has_no_form-clause-exact : goal.returns-then-has_no_form-clause-exact
returns-then-has_no_form-clause-exact g c = λ honest n v held none shown.
    let file = c.args.checked.now in
    let head = c.args.head.now in
    let node = c.in-Some.node in
    let member = subst (IsMember file head c.loop-node.i) c.in-Some.is ((rw c.loop-node.invariant.same at c.in_ok-node.ensures.reference) honest) in
    let vouched = rw (c.in-Some.is, c.loop-node.invariant.same) at c.in_ok-node.ensures.vouched in
    leads file head n v held shown c.requires.container c.frame.ensures.checked honest c.loop-node.i node member vouched (c.loop-node.invariant.so_far honest n v held shown)
    (λ w h.
    let form = (c.requires.measured honest).form node.object.0 w vouched h in
    let both : Some NoForm ≡ Some (form_of w) = sym (c.if-has_no_form.ensures.0 refl) ∙ form in
    no_text_of (value_text w) (cc both))

pub loop-node-preserved : goal.loop-node-preserved
loop-node-preserved g c = record {
  same = search rules;
  near = let within = rw c.in-Some.is at c.in_ok-node.ensures.within in omega (arith, within);
  so_far = λ honest n v held shown.
      let file = c.args.checked.now in
      let head = c.args.head.now in
      let node = c.in-Some.node in
      let member = subst (IsMember file head c.loop-node.i) c.in-Some.is ((rw c.loop-node.invariant.same at c.in_ok-node.ensures.reference) honest) in
      let vouched = rw (c.in-Some.is, c.loop-node.invariant.same) at c.in_ok-node.ensures.vouched in
      texts_more v c.loop-node.i (c.loop-node.invariant.so_far honest n v held shown)
      (has_text file head n v held shown c.requires.container c.loop-node.i node member
      (λ w h none. let e = c.if-has_no_form.ensures.1 ((c.requires.measured honest).form node.object.0 w vouched h ∙ ap (λ t. Some (form_of_text t)) none) in cc e));
}

pub returns-clause-exact : goal.returns-clause-exact
returns-clause-exact g c = λ honest n v held none shown.
    let file = c.args.checked.now in
    let head = c.args.head.now in
    let member = subst (IsMember file head c.loop-node.i) (none_from c.in_ok-node.field-0 c.in_default.not-Some) ((rw c.loop-node.invariant.same at c.in_ok-node.ensures.reference) honest) in
    absurd (not_all file head n v held shown c.requires.container c.loop-node.i member (c.loop-node.invariant.so_far honest n v held shown) none)
