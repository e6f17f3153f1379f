use Rattle.std.proofs.Common.{arith, ◌≡◌, ap, ◌∙◌, sym, subst}
use Rattle.bplist_objects.specs.Heads.{Spells}
use Rattle.bplist_cert.proofs.CheckSteps.{on_err}
use Rattle.bplist_cursor.specs.Shown.{content_face}
use Rattle.bplist_cursor.proofs.AskedSteps.{same_face}
use Rattle.bplist_cursor.proofs.Causes.{unread_excused}
use Rattle.bplist_cursor.proofs.FoundSteps.{unread_for}
use Rattle.bplist_cursor.proofs.VouchedObjects.{gives_weaker, never_changed}
use Rattle.bplist_cursor.proofs.ShownFaces.{held_face}
use Rattle.bplist_cursor.proofs.node_face.face.Goals as goal

pub returns-in_err-head-clause-content : goal.returns-in_err-head-clause-content
returns-in_err-head-clause-content g c = λ honest vouched content s.
    on_err _ _ _ _ c.from_residual.ensures.1 (unread_excused c.in_err-head.field-0.0 (c.in_err-head.ensures.exact honest vouched content s))

pub returns-in_err-head-clause-value : goal.returns-in_err-head-clause-value
returns-in_err-head-clause-value g c = λ honest vouched v h.
    let held = held_face c.args.checked.now.source.octets c.args.checked.now.frame v c.args.node.object.0 h in
    on_err _ _ _ _ c.from_residual.ensures.1 (unread_excused c.in_err-head.field-0.0 (c.in_err-head.ensures.exact honest vouched held.0 held.1))

pub returns-in_err-head-clause-unchanged : goal.returns-in_err-head-clause-unchanged
returns-in_err-head-clause-unchanged g c = λ honest vouched.
    let checked = c.args.checked.now in
    on_err _ _ _ _ c.from_residual.ensures.1 (unread_excused c.in_err-head.field-0.0 (unread_for checked c.frame-frame.ensures.checked honest c.args.node.object.0 vouched c.in_err-head.field-0.0
    (λ v h. let held = held_face checked.source.octets checked.frame v c.args.node.object.0 h in c.in_err-head.ensures.exact honest vouched held.0 held.1)))

pub returns-clause-content : goal.returns-clause-content
returns-clause-content g c = λ honest vouched content s.
    let same = c.in_ok-head.ensures.exact honest vouched content s in
    let spells = subst (Spells c.args.checked.now.source.octets c.args.checked.now.frame c.args.node.object.0) same s in
    let shown = (rw c.in_ok-head.ensures.reads at c.face_by_head.ensures.content) honest c.args.node.object.0 spells in
    gives_weaker _ _ c.face_by_head.result (λ x e. e ∙ ap content_face (sym same)) shown

pub returns-clause-value : goal.returns-clause-value
returns-clause-value g c = λ honest vouched v h.
    let held = held_face c.args.checked.now.source.octets c.args.checked.now.frame v c.args.node.object.0 h in
    gives_weaker _ _ c.face_by_head.result (λ x e. e ∙ held.2) (returns-clause-content g c honest vouched held.0 held.1)

pub returns-clause-unchanged : goal.returns-clause-unchanged
returns-clause-unchanged g c = λ honest vouched.
    never_changed c.args.checked.now c.frame-frame.ensures.checked honest c.args.node.object.0 vouched
    (λ content shown. shown ≡ content_face content) c.face_by_head.result (returns-clause-content g c honest vouched)

pub returns-clause-asks : goal.returns-clause-asks
returns-clause-asks g c = λ honest vouched v h.
    let same = same_face c.args.checked.now.source.octets c.args.checked.now.frame v c.args.node.object.0 c.in_ok-head.head h (c.in_ok-head.ensures.exact honest vouched) c.in_ok-head.ensures.body in
    omega (arith, same, c.face_by_head.ensures.asks, c.in_ok-head.ensures.asks)
