use Rattle.bplist_objects.specs.Value.{text}
use Rattle.bplist_objects.specs.Heads.{leaf}
use Rattle.bplist_objects.proofs.Leaves.{text_value}
use Rattle.bplist_cert.proofs.CheckSteps.{on_err}
use Rattle.bplist_cursor.proofs.Keys.{text_kinds}
use Rattle.bplist_cursor.proofs.key_search.key_head.Goals as goal

pub returns-in_err-head-clause-exact : goal.returns-in_err-head-clause-exact
returns-in_err-head-clause-exact g c = λ honest us s.
    on_err _ _ _ _ c.from_residual.ensures.1 (c.in_err-head.ensures.exact honest (leaf (text us)) s)

pub returns-in-Ascii-clause-exact : goal.returns-in-Ascii-clause-exact
returns-in-Ascii-clause-exact g c = λ honest us s.
    let head = c.in_ok-head.head in
    (text_value c.args.checked.now.source.octets c.args.checked.now.frame head.kind head.count head.body us (c.in_ok-head.ensures.exact honest (leaf (text us)) s)).1

pub returns-in_default-clause-exact : goal.returns-in_default-clause-exact
returns-in_default-clause-exact g c = λ honest us s.
    let head = c.in_ok-head.head in
    let is = text_value c.args.checked.now.source.octets c.args.checked.now.frame head.kind head.count head.body us (c.in_ok-head.ensures.exact honest (leaf (text us)) s) in
    absurd (text_kinds head.kind is.0 c.in_default.not-Ascii c.in_default.not-Wide)
