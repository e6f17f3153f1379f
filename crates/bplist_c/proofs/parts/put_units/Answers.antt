use Rattle.std.proofs.Common.{rules, arith, ◌≡◌, ◌∙◌, Ok, Err, length, take, refl, sym, ap}
use Rattle.std.proofs.lemmas.List.{length-take-le}
use Rattle.bplist_octets.specs.Octets.{part}
use Rattle.bplist_objects.specs.Units.{IsTextKind, units_of}
use Rattle.bplist_c.specs.Objects.{units_answer}
use Rattle.bplist_c.specs.declared.status.Status.TheVariants as statuses
use Rattle.bplist_c.proofs.Contents.{is_text, no_text}
use Rattle.bplist_c.proofs.HeadSteps.{by_content, by_none}
use Rattle.bplist_c.proofs.UnitSteps.{units_put}
use Rattle.bplist_c.proofs.parts.put_units.Goals as goal

pub returns-in-Err : goal.returns-in-Err
returns-in-Err c = (
  Err c.in-Err.status,
  (c.number.ensures, refl, refl),
  by_none c.args.checked.now c.args.object _ c.in-Err.status c.in-Err.ensures.exact,
)

pub returns-in-Ascii : goal.returns-in-Ascii
returns-in-Ascii c =
    let checked = c.args.checked.now in
    let f = checked.source.octets in
    let head = c.in-Ok.head in
    let from = c.args.from in
    let room = length c.args.buffer.now in
    let text : IsTextKind head.kind = search rules in
    let few : length (take c.min-now.result c.args.buffer.now) ≡ c.min-now.result =
    length-take-le c.min-now.result c.args.buffer.now (omega (arith, c.min-now.ensures)) in (
      Ok (part (units_of f head) from room),
      units_put f head from c.min-from.result c.min-now.result c.read_part.new.into c.args.buffer.now c.args.count.now text c.in-Ok.ensures.body
          (omega (arith, c.min-from.ensures)) (omega (arith, c.min-now.ensures)) (rw (c.octets-file.ensures.octets, few) at c.read_part.ensures),
      by_content checked c.args.object (λ content answer. answer ≡ units_answer from room content) head _ c.in-Ok.ensures.exact
          (λ vouched content spells is. is_text f checked.frame from room head.kind head.count head.body text ∙ ap (units_answer from room) (sym is)),
    )

pub returns-in_default : goal.returns-in_default
returns-in_default c =
    let checked = c.args.checked.now in
    let head = c.in-Ok.head in
    let from = c.args.from in
    let room = length c.args.buffer.now in
    let none = no_text checked.source.octets checked.frame from room head.kind head.count head.body c.in_default.not-Ascii c.in_default.not-Wide in (
      Err statuses.OtherKind,
      (c.number-in_default.ensures, refl, refl),
      by_content checked c.args.object (λ content answer. answer ≡ units_answer from room content) head _ c.in-Ok.ensures.exact
          (λ vouched content spells is. none ∙ ap (units_answer from room) (sym is)),
    )
