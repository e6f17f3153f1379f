use Rattle.std.proofs.Common.{◌≡◌, ◌++◌, ◌∙◌, None, Some, ap, arith, rules, sym}
use Rattle.bplint_engine.specs.Walks.{first_rows, row_lines}
use Rattle.bplint_engine.proofs.WalkSteps.{falls_behind, next_gives, ready_behind}
use Rattle.bplint_engine.proofs.walk.Walk.next.Goals as goal

pub returns-in-Some-clause-exact : goal.returns-in-Some-clause-exact
returns-in-Some-clause-exact g c = λ honest style left p.
    let names = c.args.self.now.names in
    let was : c.args.self.now.first ≡ Some c.in-Some.row = search rules in
    let gone : c.take.new.self ≡ None = search rules in (
      p.rest,
      record { order = p.order; rest = p.rest; stands = p.stands; few = p.few; is = ap (λ f. row_lines style names f ++ p.rest) (sym gone) },
      p.is ∙ ap (λ f. row_lines style names f ++ p.rest) was,
    )

pub returns-in-Some-clause-ready : goal.returns-in-Some-clause-ready
returns-in-Some-clause-ready g c =
    let gone : c.take.new.self ≡ None = search rules in
    record { stack = c.requires.stack; name = rw gone tt }

pub returns-in-Some-clause-falls : goal.returns-in-Some-clause-falls
returns-in-Some-clause-falls g c =
    let gone : c.take.new.self ≡ None = search rules in
    let was : c.args.self.now.first ≡ Some c.in-Some.row = search rules in
    let none = ap first_rows gone in
    let one = ap first_rows was in
    omega (arith, none, one)

pub returns-clause-ready : goal.returns-clause-ready
returns-clause-ready g c =
    let gone : c.take.new.self ≡ None = search rules in
    ready_behind c.args.checked.now.frame c.next_member.new.self c.next_member.result (c.next_member.ensures.kept.1 ∙ gone) c.next_member.ensures.stack

pub returns-clause-falls : goal.returns-clause-falls
returns-clause-falls g c =
    let gone : c.take.new.self ≡ None = search rules in
    falls_behind c.args.self.now c.next_member.new.self c.next_member.result (c.next_member.ensures.kept.1 ∙ gone) c.next_member.ensures.falls

pub returns-clause-exact : goal.returns-clause-exact
returns-clause-exact g c = λ honest style left p.
    let none : c.args.self.now.first ≡ None = search rules in
    let gone : c.take.new.self ≡ None = search rules in
    next_gives style c.args.checked.now c.args.self.now c.next_member.new.self left c.next_member.result none (c.next_member.ensures.kept.1 ∙ gone) c.next_member.ensures.kept.0 c.next_member.ensures.falls p
    (c.next_member.ensures.exact honest style p.order p.rest p.stands p.few)
