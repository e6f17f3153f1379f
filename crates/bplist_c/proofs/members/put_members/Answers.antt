use Rattle.std.proofs.Common.{arith, ◌≡◌, ◌++◌, ◌-◌, ◌∙◌, min, Err, Ok, length, drop, refl, sym, ap}
use Rattle.std.proofs.lemmas.List.{length-take-le}
use Rattle.bplist_c.specs.Members.{MembersSay}
use Rattle.bplist_c.proofs.HeadSteps.{by_content, by_none}
use Rattle.bplist_c.proofs.MemberSteps.{members_say}
use Rattle.bplist_c.proofs.UnitSteps.{fitting}
use Rattle.bplist_c.proofs.members.put_members.Goals as goal

pub returns-in-Err : goal.returns-in-Err
returns-in-Err c = (
  Err c.in-Err.status,
  (c.number.ensures, refl, refl),
  by_none c.args.checked.now c.args.object _ c.in-Err.status c.in-Err.ensures.exact,
)

pub returns : goal.returns
returns c =
    let checked = c.args.checked.now in
    let old = c.args.buffer.now in
    let room = length old in
    let objects = c.fill.new.into in
    let framed = c.frame-frame.ensures.checked.framed c.octets-octets.ensures.honest in
    let begin = c.min-from.ensures ∙ ap (min c.args.from) c.refs_of-all.ensures in
    let many = c.min-now.ensures ∙ ap (λ all. min (all - c.min-from.result) room) c.refs_of-all.ensures in
    let len : length objects ≡ c.min-now.result = c.fill.auto.into ∙ length-take-le c.min-now.result old (omega (arith, c.min-now.ensures)) in (
      Ok objects,
      fitting objects old (objects ++ drop c.min-now.result old) c.args.count.now c.min-now.result (omega (arith, len)) (sym len) (ap (λ n. objects ++ drop n old) (sym len)),
      by_content checked c.args.object (MembersSay c.args.from room) c.in-Ok.head (Ok objects) c.in-Ok.ensures.exact
          (λ vouched content spells is. members_say checked.source.octets checked.frame c.args.object content c.in-Ok.head framed spells is
          c.args.from room c.min-from.result c.min-now.result objects begin many len c.fill.ensures),
    )
