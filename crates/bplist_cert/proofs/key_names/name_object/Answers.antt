use Rattle.std.proofs.Common.{ℕ, ◌<◌, inl, inr, refl, subst}
use Rattle.bplist_objects.specs.declared.frame.Frame.{Frame}
use Rattle.bplist_objects.specs.declared.head.Head.{Head}
use Rattle.bplist_objects.specs.Framed.{frame_in}
use Rattle.bplist_objects.proofs.BodyLaws.{HasHead-unique, of_other_kind}
use Rattle.bplist_objects.specs.declared.head.Kind.TheVariants.{Dict}
use Rattle.bplist_objects.specs.Scan.{ref}
use Rattle.bplist_keys.specs.Marks.{IsMarked}
use Rattle.bplist_cert.proofs.TextObjects.{shape_kept}
use Rattle.bplist_cert.proofs.CheckSteps.{given_weaker, on_err}
use Rattle.bplist_cert.proofs.KeyRepeats.{keys_inside}
use Rattle.bplist_cert.proofs.key_names.name_object.Goals as goal

pub returns-in_err-head-clause-exact : goal.returns-in_err-head-clause-exact
returns-in_err-head-clause-exact g c = λ honest at kept all.
    let rules = c.in_err-head.ensures.rules honest at in
    on_err _ _ _ _ c.from_residual.ensures.1 (given_weaker _ _ c.in_err-head.field-0.0 (λ fault h. absurd (shape_kept _ _ c.args.n fault kept h)) rules)

pub returns-in_ok-name_keys-in-Dict-clause-exact : goal.returns-in_ok-name_keys-in-Dict-clause-exact
returns-in_ok-name_keys-in-Dict-clause-exact g c = λ honest at kept all head has dict k low.
    let f = (g.P.Source.means c.args.src.now).octets in
    let F : Frame = frame_in (g.P.Source.means c.args.src.now) in
    let here = c.in_ok-head.head in
    let has_here = (c.in_ok-head.ensures.rules honest at).0 in
    let named = (rw c.in_ok-head.ensures.reads at c.in_ok-name_keys-in-Dict.ensures.named) honest in
    subst (λ (h : Head). (j : ℕ) → j < h.count → IsMarked c.name_keys.new.named.marks.items (ref f F h j)) (HasHead-unique f F c.args.n here head has_here has)
    (λ j l. named j l (rw all (keys_inside f F c.args.n kept here has_here c.in-Dict.is j l))) k low

pub returns-in_default : goal.returns-in_default
returns-in_default g c = record {
  reads = c.in_ok-head.ensures.reads;
  all = refl;
  keeps = λ m k. k;
  only = λ honest at m marked. inl marked;
  exact = λ honest at kept all head has dict.
      absurd (of_other_kind (g.P.Source.means c.args.src.now).octets (frame_in (g.P.Source.means c.args.src.now)) c.args.n c.in_ok-head.head (c.in_ok-head.ensures.rules honest at).0 Dict c.in_default.not-Dict head has dict);
}

pub returns-in_ok-name_keys-in-Dict-clause-only : goal.returns-in_ok-name_keys-in-Dict-clause-only
returns-in_ok-name_keys-in-Dict-clause-only g c = λ honest at m marked.
    elim ((rw c.in_ok-head.ensures.reads at c.in_ok-name_keys-in-Dict.ensures.only) honest m marked) [
      | inl before ↦ inl before
      | inr named ↦ inr (c.in_ok-head.head, (c.in_ok-head.ensures.rules honest at).0, c.in-Dict.is, named)
    ]
