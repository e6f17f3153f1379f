use Rattle.std.proofs.Common.{◌≡◌, ◌*◌, ◌+◌, ◌∙◌, Some, ap, sym}
use Rattle.std.proofs.lemmas.Result.{err_from_is_err_and}
use Rattle.bplist_objects.specs.Value.{leaf, text}
use Rattle.bplist_cursor.specs.Members.{member_of}
use Rattle.bplint_lines.specs.MemberNames.{key_name}
use Rattle.bplint_engine.specs.Names.{name_in}
use Rattle.bplint_engine.proofs.TreeLines.{array_named, dict_named, set_named}
use Rattle.bplint_engine.proofs.walk.Walk.name_member.Goals as goal

pub returns-in_err-node-in-Array-clause-exact : goal.returns-in_err-node-in-Array-clause-exact
returns-in_err-node-in-Array-clause-exact g c = λ honest style order w of is.
    let there = array_named style _ c.args.opened.now.next w (rw c.in-Array.is at is) c.requires.within in
    let p = err_from_is_err_and c.from_residual.result c.from_residual.ensures.1 in
    rw (p.1, p.2) (c.in_err-node-in-Array.ensures.exact honest w there.0 of there.1)

pub returns-in_ok-name-in-Array-clause-exact : goal.returns-in_ok-name-in-Array-clause-exact
returns-in_ok-name-in-Array-clause-exact g c = λ honest style order w of is.
    let there = array_named style _ c.args.opened.now.next w (rw c.in-Array.is at is) c.requires.within in
    (there.0, there.2 (name_in c.args.self.now.names c.args.opened.now.at.name) ∙ ap (λ n. Some (n, there.0)) (sym c.in_ok-name-in-Array.ensures.1), c.in_ok-node-in-Array.ensures.exact honest w there.0 of there.1)

pub returns-in_err-node-in-Set-clause-exact : goal.returns-in_err-node-in-Set-clause-exact
returns-in_err-node-in-Set-clause-exact g c = λ honest style order w of is.
    let there = set_named style _ c.args.opened.now.next w (rw c.in-Set.is at is) c.requires.within in
    let p = err_from_is_err_and c.from_residual-in_err-node-in-Set.result c.from_residual-in_err-node-in-Set.ensures.1 in
    rw (p.1, p.2) (c.in_err-node-in-Set.ensures.exact honest w there.0 of there.1)

pub returns-in_ok-name-in-Set-clause-exact : goal.returns-in_ok-name-in-Set-clause-exact
returns-in_ok-name-in-Set-clause-exact g c = λ honest style order w of is.
    let there = set_named style _ c.args.opened.now.next w (rw c.in-Set.is at is) c.requires.within in
    (there.0, there.2 (name_in c.args.self.now.names c.args.opened.now.at.name) ∙ ap (λ n. Some (n, there.0)) (sym (c.in_ok-name-in-Set.ensures.exact style order)), c.in_ok-node-in-Set.ensures.exact honest w there.0 of there.1)

pub returns-in_err-key-in-Dict-clause-exact : goal.returns-in_err-key-in-Dict-clause-exact
returns-in_err-key-in-Dict-clause-exact g c = λ honest style order w of is.
    let number : c.in_ok-number-in-Dict.number ≡ c.args.opened.now.next = let read = c.in_ok-number-in-Dict.ensures.exact order.1 in cc read in
    let there = dict_named style _ c.args.opened.now.next w (rw c.in-Dict.is at is) c.requires.within in
    let p = err_from_is_err_and c.from_residual-in_err-key-in-Dict.result c.from_residual-in_err-key-in-Dict.ensures.1 in
    rw (p.1, p.2) (c.in_err-key-in-Dict.ensures.exact honest w (leaf (text there.0)) of (ap (λ j. member_of w (2 * j)) number ∙ there.2))

pub returns-in_err-name-in-Dict-clause-exact : goal.returns-in_err-name-in-Dict-clause-exact
returns-in_err-name-in-Dict-clause-exact g c = λ honest style order w of is.
    let number : c.in_ok-number-in-Dict.number ≡ c.args.opened.now.next = let read = c.in_ok-number-in-Dict.ensures.exact order.1 in cc read in
    let there = dict_named style _ c.args.opened.now.next w (rw c.in-Dict.is at is) c.requires.within in
    let held = c.in_ok-key-in-Dict.ensures.exact honest w (leaf (text there.0)) of (ap (λ j. member_of w (2 * j)) number ∙ there.2) in
    let p = err_from_is_err_and c.from_residual-in_err-name-in-Dict.result c.from_residual-in_err-name-in-Dict.ensures.1 in
    rw (p.1, p.2) ((rw c.in_ok-key-in-Dict.ensures.reads at c.in_err-name-in-Dict.ensures.exact) honest style order there.0 held)

pub returns-in_err-node-in-Dict-clause-exact : goal.returns-in_err-node-in-Dict-clause-exact
returns-in_err-node-in-Dict-clause-exact g c = λ honest style order w of is.
    let number : c.in_ok-number-in-Dict.number ≡ c.args.opened.now.next = let read = c.in_ok-number-in-Dict.ensures.exact order.1 in cc read in
    let there = dict_named style _ c.args.opened.now.next w (rw c.in-Dict.is at is) c.requires.within in
    let p = err_from_is_err_and c.from_residual-in_err-node-in-Dict.result c.from_residual-in_err-node-in-Dict.ensures.1 in
    rw (p.1, p.2) ((rw (c.in_ok-name-in-Dict.ensures.reads, c.in_ok-key-in-Dict.ensures.reads) at c.in_err-node-in-Dict.ensures.exact) honest w there.1 of (ap (λ j. member_of w (2 * j + 1)) number ∙ there.3))

pub returns-in_ok-node-in-Dict-clause-exact : goal.returns-in_ok-node-in-Dict-clause-exact
returns-in_ok-node-in-Dict-clause-exact g c = λ honest style order w of is.
    let number : c.in_ok-number-in-Dict.number ≡ c.args.opened.now.next = let read = c.in_ok-number-in-Dict.ensures.exact order.1 in cc read in
    let there = dict_named style _ c.args.opened.now.next w (rw c.in-Dict.is at is) c.requires.within in
    let outer = name_in c.args.self.now.names c.args.opened.now.at.name in
    let held = c.in_ok-key-in-Dict.ensures.exact honest w (leaf (text there.0)) of (ap (λ j. member_of w (2 * j)) number ∙ there.2) in
    let named = (rw c.in_ok-key-in-Dict.ensures.reads at c.in_ok-name-in-Dict.ensures.exact) honest style order there.0 held in
    let node = (rw (c.in_ok-name-in-Dict.ensures.reads, c.in_ok-key-in-Dict.ensures.reads) at c.in_ok-node-in-Dict.ensures.exact) honest w there.1 of (ap (λ j. member_of w (2 * j + 1)) number ∙ there.3) in
    (there.1, there.4 outer ∙ ap (λ n. Some (n, there.1)) (ap (λ j. key_name style outer j there.0) (sym number) ∙ sym named), node)
