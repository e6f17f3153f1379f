use Rattle.std.proofs.Common.{arith, ◌≡◌, ◌∙◌, Ok, length, refl}
use Rattle.bplist_octets.proofs.Sources.{slice_never_fails}
use Rattle.bplist_objects.specs.Answers.{read_failed}
use Rattle.bplist_objects.specs.declared.head.Head.{Head}
use Rattle.bplist_objects.proofs.HeadAnswers.{shape_answered}
use Rattle.bplist_objects.proofs.SafeHeads.{safe_body}
use Rattle.bplist_cert.proofs.CheckSteps.{vouched_inside}
use Rattle.bplist_cert.specs.Valid.{IsVouchedBy}
use Rattle.bplist_c.proofs.HeadSteps.{head_found, head_lost, never_refused}
use Rattle.bplist_c.proofs.object.head_of_object.Goals as goal

pub returns-in-Ok-clause-exact : goal.returns-in-Ok-clause-exact
returns-in-Ok-clause-exact c =
    let framed = c.frame-frame.ensures.checked.framed c.octets-file.ensures.honest in
    let octets : c.new.result.octets.now ≡ c.args.checked.now.source.octets = c.new.ensures.octets ∙ c.octets-file.ensures.octets in
    let place = rw (c.octets-file.ensures.octets, c.frame-frame.ensures.frame) at c.place_of-place.ensures in
    let rules = (rw (c.frame-frame.ensures.frame, octets) at c.in-Ok.ensures.rules) refl framed place in
    let vouched : IsVouchedBy c.args.checked.now.certificate.heights c.args.object = omega arith in
    let within = vouched_inside _ _ c.args.object c.frame-frame.ensures.checked.count vouched in
    head_found c.args.checked.now c.args.object c.in-Ok.head vouched (λ x has. shape_answered _ _ _ framed within (Ok c.in-Ok.head) rules x has)

pub returns-in-Ok-clause-body : goal.returns-in-Ok-clause-body
returns-in-Ok-clause-body c =
    safe_body (length c.args.checked.now.source.octets) c.args.checked.now.frame c.in-Ok.head c.frame-frame.ensures.checked.safe.safe
    (rw c.frame-frame.ensures.frame at c.in-Ok.ensures.safe)

pub returns-in-Err-clause-exact : goal.returns-in-Err-clause-exact
returns-in-Err-clause-exact c =
    let framed = c.frame-frame.ensures.checked.framed c.octets-file.ensures.honest in
    let octets : c.new.result.octets.now ≡ c.args.checked.now.source.octets = c.new.ensures.octets ∙ c.octets-file.ensures.octets in
    let place = rw (c.octets-file.ensures.octets, c.frame-frame.ensures.frame) at c.place_of-place.ensures in
    let rules = (rw (c.frame-frame.ensures.frame, octets) at c.shape_at.ensures.rules) refl framed place in
    let sound = slice_never_fails (read_failed c.shape_at.result) c.new.result c.shape_at.new.src c.shape_at.ensures.reads in
    let vouched : IsVouchedBy c.args.checked.now.certificate.heights c.args.object = omega arith in
    let within = vouched_inside _ _ c.args.object c.frame-frame.ensures.checked.count vouched in
    head_lost c.args.checked.now c.args.object _ vouched
    (λ x has. never_refused (λ (y : Head). y ≡ x) c.shape_at.result c.in-Err.field-0 sound (shape_answered _ _ _ framed within c.shape_at.result rules x has) c.in-Err.is)
