use Rattle.std.proofs.Common.{◌≡◌, ◌++◌, ◌∙◌, None, [], ap, refl, rules, subst, sym, true}
use Rattle.std.specs.Prelude.{reverse}
use Rattle.std.proofs.lemmas.Result.{err_from_is_err_and}
use Rattle.bplint_engine.specs.Names.{name_in}
use Rattle.bplint_engine.specs.Walks.{LinesLeftIn, lines_inside}
use Rattle.bplint_engine.proofs.WalkSteps.{begins_deep, begins_leaf, begins_members, row_named}
use Rattle.bplint_engine.proofs.walk.Walk.begin.Goals as goal

pub returns-in_err-row-clause-exact : goal.returns-in_err-row-clause-exact
returns-in_err-row-clause-exact g c = λ honest style order w held few.
    let empty : c.new-2.result.items ≡ [] = search rules in
    let p = err_from_is_err_and c.from_residual-in_err-row.result c.from_residual-in_err-row.ensures.1 in
    rw (p.1, p.2) (c.in_err-row.ensures.exact honest style true w held [] (subst (λ xs. LinesLeftIn style true c.args.checked.now c.in_ok-names.names (reverse xs) []) (sym empty) refl))

pub returns-then-walk-clause-ready : goal.returns-then-walk-clause-ready
returns-then-walk-clause-ready g c =
    record { stack = c.in_ok-row.ensures.stack; name = rw (c.in_ok-row.ensures.name, c.in_ok-row.ensures.kept.0) c.whole.ensures.0 }

pub returns-in_default-clause-ready : goal.returns-in_default-clause-ready
returns-in_default-clause-ready g c =
    record { stack = c.in_ok-row.ensures.stack; name = rw (c.in_ok-row.ensures.name, c.in_ok-row.ensures.kept.0) c.whole.ensures.0 }

pub returns-then-walk-clause-exact : goal.returns-then-walk-clause-exact
returns-then-walk-clause-exact g c = λ honest style order w held few.
    let manner = c.args.start.manner in
    let path = c.args.start.path.now in
    let names = c.enter.new.self.names in
    let empty : c.new-2.result.items ≡ [] = search rules in
    let none = subst (λ xs. LinesLeftIn style manner.deep c.args.checked.now c.in_ok-names.names (reverse xs) []) (sym empty) refl in
    let shows = c.in_ok-row.ensures.exact honest style manner.deep w held [] none in
    let top : name_in c.in_ok-names.names c.whole.result ≡ path = c.whole.ensures.1 ∙ c.in_ok-names.ensures in
    let name : name_in names c.in_ok-row.row.name ≡ path = ap (λ t. name_in t c.in_ok-row.row.name) c.in_ok-row.ensures.kept.0 ∙ ap (name_in c.in_ok-names.names) c.in_ok-row.ensures.name ∙ top in
    let stands = subst (λ n. LinesLeftIn style manner.deep c.args.checked.now names (reverse c.enter.new.self.stack.items) (lines_inside style manner.deep n w ++ [])) top shows.1 in
    begins_deep style c.args.checked.now _ c.in_ok-row.row manner path w order c.in_ok-row.ensures.kept.1 refl (row_named style names path c.in_ok-row.row w name shows.0) stands
    (sym (ap (λ m. m.deep) c.in_ok-row.ensures.kept.1) ∙ c.if-walk.true) (rw c.in_ok-row.ensures.kept.3 few)

pub returns-in_default-clause-exact : goal.returns-in_default-clause-exact
returns-in_default-clause-exact g c = λ honest style order w held few.
    let manner = c.args.start.manner in
    let path = c.args.start.path.now in
    let names = c.enter.new.self.names in
    let empty : c.new-2.result.items ≡ [] = search rules in
    let none = subst (λ xs. LinesLeftIn style manner.deep c.args.checked.now c.in_ok-names.names (reverse xs) []) (sym empty) refl in
    let shows = c.in_ok-row.ensures.exact honest style manner.deep w held [] none in
    let top : name_in c.in_ok-names.names c.whole.result ≡ path = c.whole.ensures.1 ∙ c.in_ok-names.ensures in
    let name : name_in names c.in_ok-row.row.name ≡ path = ap (λ t. name_in t c.in_ok-row.row.name) c.in_ok-row.ensures.kept.0 ∙ ap (name_in c.in_ok-names.names) c.in_ok-row.ensures.name ∙ top in
    let stands = subst (λ n. LinesLeftIn style manner.deep c.args.checked.now names (reverse c.enter.new.self.stack.items) (lines_inside style manner.deep n w ++ [])) top shows.1 in
    let gone : c.count_of.result ≡ None = search rules in
    let is_leaf = rw gone at (c.count_of.ensures w shows.0) in
    begins_leaf style c.args.checked.now _ c.in_ok-row.row manner path w order c.in_ok-row.ensures.kept.1 refl (row_named style names path c.in_ok-row.row w name shows.0) stands is_leaf

pub returns-clause-exact : goal.returns-clause-exact
returns-clause-exact g c = λ honest style order w held few.
    let manner = c.args.start.manner in
    let path = c.args.start.path.now in
    let names = c.enter.new.self.names in
    let empty : c.new-2.result.items ≡ [] = search rules in
    let none = subst (λ xs. LinesLeftIn style manner.deep c.args.checked.now c.in_ok-names.names (reverse xs) []) (sym empty) refl in
    let shows = c.in_ok-row.ensures.exact honest style manner.deep w held [] none in
    let top : name_in c.in_ok-names.names c.whole.result ≡ path = c.whole.ensures.1 ∙ c.in_ok-names.ensures in
    let stands = subst (λ n. LinesLeftIn style manner.deep c.args.checked.now names (reverse c.enter.new.self.stack.items) (lines_inside style manner.deep n w ++ [])) top shows.1 in
    let has = rw c.in-Some.is at (c.count_of.ensures w shows.0) in
    begins_members style c.args.checked.now _ manner path w order c.in_ok-row.ensures.kept.1 c.in_ok-row.ensures.kept.2 stands
    (sym (ap (λ m. m.deep) c.in_ok-row.ensures.kept.1) ∙ c.if-walk.false) has
