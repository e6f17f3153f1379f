use Rattle.std.proofs.Common.{◌≡◌, ◌++◌, ◌∷◌, ◌∙◌, [], ap, arith, rules, subst, sym}
use Rattle.std.specs.Prelude.{reverse}
use Rattle.std.proofs.lemmas.List.{reverse-append}
use Rattle.std.proofs.lemmas.Result.{err_from_is_err_and}
use Rattle.bplint_engine.specs.Names.{name_in}
use Rattle.bplint_engine.specs.Walks.{AreOpen, LinesLeftIn, lines_inside}
use Rattle.bplint_engine.proofs.WalkSteps.{left_behind, left_some, next_deep, next_flat, open_behind, row_named}
use Rattle.bplint_engine.proofs.walk.Walk.next_member.Goals as goal

pub returns-in_default-clause-exact : goal.returns-in_default-clause-exact
returns-in_default-clause-exact g c = λ honest style order left stands few.
    let empty : c.args.self.now.stack.items ≡ [] = search rules in
    rw empty at stands

pub returns-then-self-eq0-clause-exact : goal.returns-then-self-eq0-clause-exact
returns-then-self-eq0-clause-exact g c = λ honest style order left stands few.
    let now = c.args.self.now in
    let items : now.stack.items ≡ c.pop.new.self.items ++ c.in-Some.opened ∷ [] = search rules in
    let turned = ap reverse items ∙ reverse-append c.pop.new.self.items (c.in-Some.opened ∷ []) in
    let F = c.args.checked.now.frame in
    let are = subst (AreOpen F now.names) turned c.requires in
    let on = subst (λ os. LinesLeftIn style now.manner.deep c.args.checked.now now.names os left) turned stands in
    let some = left_some style now.manner.deep c.args.checked.now F now.names c.in-Some.opened (reverse c.pop.new.self.items) left are on in
    absurd (omega (arith, some, few, c.if-self-eq0.true))

pub name_member-requires : goal.name_member-requires
name_member-requires g c =
    let now = c.args.self.now in
    let items : now.stack.items ≡ c.pop.new.self.items ++ c.in-Some.opened ∷ [] = search rules in
    let turned = ap reverse items ∙ reverse-append c.pop.new.self.items (c.in-Some.opened ∷ []) in
    (subst (AreOpen c.args.checked.now.frame now.names) turned c.requires).0

pub returns-in_err-at-clause-exact : goal.returns-in_err-at-clause-exact
returns-in_err-at-clause-exact g c = λ honest style order left stands few.
    let now = c.args.self.now in
    let items : now.stack.items ≡ c.pop.new.self.items ++ c.in-Some.opened ∷ [] = search rules in
    let turned = ap reverse items ∙ reverse-append c.pop.new.self.items (c.in-Some.opened ∷ []) in
    let on = subst (λ os. LinesLeftIn style now.manner.deep c.args.checked.now now.names os left) turned stands in
    let of = on.2 in
    let p = err_from_is_err_and c.from_residual.result c.from_residual.ensures.1 in
    rw (p.1, p.2) (c.in_err-at.ensures.exact honest style order of.0 of.1 of.2)

pub enter-requires-clause-stack : goal.enter-requires-clause-stack
enter-requires-clause-stack g c =
    let now = c.args.self.now in
    let o = c.in-Some.opened in
    let F = c.args.checked.now.frame in
    let items : now.stack.items ≡ c.pop.new.self.items ++ o ∷ [] = search rules in
    let turned = ap reverse items ∙ reverse-append c.pop.new.self.items (o ∷ []) in
    let are = subst (AreOpen F now.names) turned c.requires in
    let back = c.in_ok-put_back.ensures in
    let named = c.in_ok-at.ensures.name in
    rw c.in_ok-at.ensures.reads (rw back.kept.0 (open_behind F now.names c.name_member.new.self.names o c.pop.new.self.items c.put_back.new.self.stack.items named.same
    (omega (arith, named.last, named.further)) are (rw c.in_ok-at.ensures.rest.stack at back.stack)))

pub returns-in_ok-enter-clause-exact : goal.returns-in_ok-enter-clause-exact
returns-in_ok-enter-clause-exact g c = λ honest style order left stands few.
    let now = c.args.self.now in
    let deep = now.manner.deep in
    let file = c.args.checked.now in
    let o = c.in-Some.opened in
    let items : now.stack.items ≡ c.pop.new.self.items ++ o ∷ [] = search rules in
    let turned = ap reverse items ∙ reverse-append c.pop.new.self.items (o ∷ []) in
    let are = subst (AreOpen file.frame now.names) turned c.requires in
    let on = subst (λ os. LinesLeftIn style deep file now.names os left) turned stands in
    let of = on.2 in
    let member = c.in_ok-at.ensures.exact honest style order of.0 of.1 of.2 in
    let names = c.name_member.new.self.names in
    let name = name_in names c.in_ok-at.at.name in
    let back = c.in_ok-put_back.ensures in
    let behind = left_behind style deep file file.frame now.names names o c.pop.new.self.items c.put_back.new.self.stack.items on.0 on.1 left of.0 name member.0 are of.1 of.2 of.3 on.3 on.4
    member.1 c.in_ok-at.ensures.name.same (rw c.in_ok-at.ensures.rest.stack at back.stack) in
    let enters = (rw (c.in_ok-at.ensures.reads, back.kept.0) at c.in_ok-enter.ensures.exact) honest style deep member.0 member.2 behind.0 behind.1 in
    let yes = ap (λ m. m.deep) (sym c.in_ok-at.ensures.rest.manner ∙ sym back.kept.1) ∙ c.if-self.true in
    let same = ap (λ t. name_in t c.in_ok-enter.field-0.name) (c.in_ok-enter.ensures.kept.0 ∙ back.kept.0) ∙ ap (name_in names) c.in_ok-enter.ensures.name in
    let line = row_named style c.enter.new.self.names name c.in_ok-enter.field-0 member.0 same enters.0 in
    (lines_inside style deep name member.0 ++ behind.0, enters.1, next_deep style deep name member.0 _ behind.0 left yes line behind.2)

pub returns-in_ok-row_at-clause-exact : goal.returns-in_ok-row_at-clause-exact
returns-in_ok-row_at-clause-exact g c = λ honest style order left stands few.
    let now = c.args.self.now in
    let deep = now.manner.deep in
    let file = c.args.checked.now in
    let o = c.in-Some.opened in
    let items : now.stack.items ≡ c.pop.new.self.items ++ o ∷ [] = search rules in
    let turned = ap reverse items ∙ reverse-append c.pop.new.self.items (o ∷ []) in
    let are = subst (AreOpen file.frame now.names) turned c.requires in
    let on = subst (λ os. LinesLeftIn style deep file now.names os left) turned stands in
    let of = on.2 in
    let member = c.in_ok-at.ensures.exact honest style order of.0 of.1 of.2 in
    let names = c.name_member.new.self.names in
    let name = name_in names c.in_ok-at.at.name in
    let back = c.in_ok-put_back.ensures in
    let behind = left_behind style deep file file.frame now.names names o c.pop.new.self.items c.put_back.new.self.stack.items on.0 on.1 left of.0 name member.0 are of.1 of.2 of.3 on.3 on.4
    member.1 c.in_ok-at.ensures.name.same (rw c.in_ok-at.ensures.rest.stack at back.stack) in
    let shown = (rw c.in_ok-at.ensures.reads at c.in_ok-row_at.ensures.exact) honest member.0 member.2 in
    let no = ap (λ m. m.deep) (sym c.in_ok-at.ensures.rest.manner ∙ sym back.kept.1) ∙ c.if-self.false in
    let same = ap (λ t. name_in t c.in_ok-row_at.field-0.name) back.kept.0 ∙ ap (name_in names) c.in_ok-row_at.ensures.name in
    let line = row_named style c.put_back.new.self.names name c.in_ok-row_at.field-0 member.0 same shown in
    (behind.0, subst (λ t. LinesLeftIn style deep file t (reverse c.put_back.new.self.stack.items) behind.0) (sym back.kept.0) behind.1, next_flat style deep name member.0 _ behind.0 left no line behind.2)

pub returns-in_err-enter-clause-exact : goal.returns-in_err-enter-clause-exact
returns-in_err-enter-clause-exact g c = λ honest style order left stands few.
    let now = c.args.self.now in
    let deep = now.manner.deep in
    let file = c.args.checked.now in
    let o = c.in-Some.opened in
    let items : now.stack.items ≡ c.pop.new.self.items ++ o ∷ [] = search rules in
    let turned = ap reverse items ∙ reverse-append c.pop.new.self.items (o ∷ []) in
    let are = subst (AreOpen file.frame now.names) turned c.requires in
    let on = subst (λ os. LinesLeftIn style deep file now.names os left) turned stands in
    let of = on.2 in
    let member = c.in_ok-at.ensures.exact honest style order of.0 of.1 of.2 in
    let names = c.name_member.new.self.names in
    let name = name_in names c.in_ok-at.at.name in
    let back = c.in_ok-put_back.ensures in
    let behind = left_behind style deep file file.frame now.names names o c.pop.new.self.items c.put_back.new.self.stack.items on.0 on.1 left of.0 name member.0 are of.1 of.2 of.3 on.3 on.4
    member.1 c.in_ok-at.ensures.name.same (rw c.in_ok-at.ensures.rest.stack at back.stack) in
    let p = err_from_is_err_and c.from_residual-in_err-enter.result c.from_residual-in_err-enter.ensures.1 in
    rw (p.1, p.2) ((rw (c.in_ok-at.ensures.reads, back.kept.0) at c.in_err-enter.ensures.exact) honest style deep member.0 member.2 behind.0 behind.1)

pub returns-in_err-row_at-clause-exact : goal.returns-in_err-row_at-clause-exact
returns-in_err-row_at-clause-exact g c = λ honest style order left stands few.
    let now = c.args.self.now in
    let o = c.in-Some.opened in
    let items : now.stack.items ≡ c.pop.new.self.items ++ o ∷ [] = search rules in
    let turned = ap reverse items ∙ reverse-append c.pop.new.self.items (o ∷ []) in
    let on = subst (λ os. LinesLeftIn style now.manner.deep c.args.checked.now now.names os left) turned stands in
    let of = on.2 in
    let member = c.in_ok-at.ensures.exact honest style order of.0 of.1 of.2 in
    let p = err_from_is_err_and c.from_residual-in_err-row_at.result c.from_residual-in_err-row_at.ensures.1 in
    rw (p.1, p.2) ((rw c.in_ok-at.ensures.reads at c.in_err-row_at.ensures.exact) honest member.0 member.2)

pub returns-in_ok-row_at-clause-stack : goal.returns-in_ok-row_at-clause-stack
returns-in_ok-row_at-clause-stack g c =
    let now = c.args.self.now in
    let o = c.in-Some.opened in
    let F = c.args.checked.now.frame in
    let items : now.stack.items ≡ c.pop.new.self.items ++ o ∷ [] = search rules in
    let turned = ap reverse items ∙ reverse-append c.pop.new.self.items (o ∷ []) in
    let are = subst (AreOpen F now.names) turned c.requires in
    let back = c.in_ok-put_back.ensures in
    let named = c.in_ok-at.ensures.name in
    rw back.kept.0 (open_behind F now.names c.name_member.new.self.names o c.pop.new.self.items c.put_back.new.self.stack.items named.same
    (omega (arith, named.last, named.further)) are (rw c.in_ok-at.ensures.rest.stack at back.stack))
