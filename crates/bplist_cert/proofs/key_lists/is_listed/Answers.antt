use Rattle.std.proofs.Common.{subst}
use Rattle.bplist_objects.specs.declared.frame.Frame.{Frame}
use Rattle.bplist_objects.specs.declared.head.Head.{Head}
use Rattle.bplist_objects.specs.Framed.{frame_in}
use Rattle.bplist_objects.proofs.BodyLaws.{HasHead-unique, of_other_kind}
use Rattle.bplist_objects.specs.declared.head.Kind.TheVariants.{Dict}
use Rattle.bplist_cert.proofs.TextObjects.{shape_kept}
use Rattle.bplist_cert.proofs.CheckSteps.{given_weaker, on_err}
use Rattle.bplist_cert.proofs.KeyRepeats.{none_there}
use Rattle.bplist_cert.specs.CheckRules.{HasOrder}
use Rattle.bplist_cert.specs.KeyPairs.{HaveTextShapes}
use Rattle.bplist_cert.proofs.key_lists.is_listed.Goals as goal

pub returns-in_ok-order_fault-in-Dict-clause-exact : goal.returns-in_ok-order_fault-in-Dict-clause-exact
returns-in_ok-order_fault-in-Dict-clause-exact g c = λ honest known at kept.
    let f = (g.P.Source.means c.args.src.now).octets in
    let F : Frame = frame_in (g.P.Source.means c.args.src.now) in
    let here = c.in_ok-head.head in
    let has_here = (c.in_ok-head.ensures.rules honest at).0 in
    let found = (rw c.in_ok-head.ensures.reads at c.in_ok-order_fault-in-Dict.ensures.exact) honest known in (
      found.0,
      λ good head has dict.
          subst (λ (h : Head). HaveTextShapes f F h × HasOrder f F c.args.keys.now c.args.n h) (HasHead-unique f F c.args.n here head has_here has)
          (none_there _ _ c.in_ok-order_fault-in-Dict.field-0 c.is_none.result c.is_none.ensures good found.1),
    )

pub returns-in_err-head-clause-exact : goal.returns-in_err-head-clause-exact
returns-in_err-head-clause-exact g c = λ honest known at kept.
    let rules = c.in_err-head.ensures.rules honest at in
    on_err _ _ _ _ c.from_residual.ensures.1 (given_weaker _ _ c.in_err-head.field-0.0 (λ fault h. absurd (shape_kept _ _ c.args.n fault kept h)) rules)

pub returns-in_default : goal.returns-in_default
returns-in_default g c = record {
  reads = c.in_ok-head.ensures.reads;
  exact = λ honest known at kept. (
    known,
    λ good head has dict.
        absurd (of_other_kind (g.P.Source.means c.args.src.now).octets (frame_in (g.P.Source.means c.args.src.now)) c.args.n c.in_ok-head.head (c.in_ok-head.ensures.rules honest at).0 Dict c.in_default.not-Dict head has dict),
  );
}
