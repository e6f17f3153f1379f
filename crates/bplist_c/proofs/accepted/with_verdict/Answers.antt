use Rattle.std.proofs.Common.{◌≡◌, ◌∙◌, ap, refl, subst, sym}
use Rattle.bplist_objects.specs.declared.frame.Frame.{Frame}
use Rattle.bplist_objects.specs.Heads.{IsHeadOf}
use Rattle.bplist_c.proofs.HeadSteps.{top_has_head, top_vouched}
use Rattle.bplist_c.specs.Objects.{kind_number}
use Rattle.bplist_c.proofs.accepted.with_verdict.Goals as goal

pub returns-in_default : goal.returns-in_default
returns-in_default c =
    let checked = c.args.checked in
    let is = c.frame-frame.ensures.checked in
    let honest = c.octets-octets.ensures.honest in
    absurd (top_has_head checked is honest (λ head has.
    let same = (rw c.frame-frame.ensures.frame at c.in_default.ensures.exact.said) (top_vouched checked is honest) head has in cc))

pub returns : goal.returns
returns c = (
  refl,
  (
    refl,
    λ F framed head is.
        let checked = c.args.checked in
        let honest = c.octets-octets.ensures.honest in
        let same : checked.frame ≡ F = (c.frame-frame.ensures.checked.framed honest).spelled ∙ sym framed.spelled in
        let has = subst (λ (G : Frame). IsHeadOf checked.source.octets G G.top.0 head) (sym same) is in
        let vouched = top_vouched checked c.frame-frame.ensures.checked honest in
        let found = (rw c.frame-frame.ensures.frame at c.in-Ok.ensures.exact.said) vouched head has in
        let e : c.in-Ok.head ≡ head = cc in
        let kind = c.number_of.ensures ∙ ap (λ h. kind_number h.kind) e in
        let height = rw c.frame-frame.ensures.frame at c.height.ensures in
        let told = rw (c.frame-frame.ensures.frame, height, kind) at c.of_top-verdict.ensures in
        rw (← same) told,
  ),
)
