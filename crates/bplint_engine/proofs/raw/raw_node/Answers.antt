use Rattle.std.proofs.Common.{refl}
use Rattle.std.proofs.lemmas.Result.{err_from_is_err_and}
use Rattle.bplint_lines.specs.declared.fault.Said.TheVariants.{All}
use Rattle.bplint_engine.specs.Raw.{NodeShowsRaw, raw_in}
use Rattle.bplint_engine.proofs.LeftBytes.{kept_self}
use Rattle.bplint_engine.proofs.SentAnswers.{cursor_leaves, some_failed}
use Rattle.bplint_engine.proofs.raw.raw_node.Goals as goal

pub returns-in_err-raw-clause-exact : goal.returns-in_err-raw-clause-exact
returns-in_err-raw-clause-exact g c = λ honest vouched w holds.
    let p = err_from_is_err_and c.from_residual.result c.from_residual.ensures.1 in
    rw (p.1, p.2) (cursor_leaves (NodeShowsRaw w) _ c.in_err-raw.field-0.0 (c.in_err-raw.ensures.exact honest vouched w holds))

pub returns-in_err-send_raw-in-Some-clause-exact : goal.returns-in_err-send_raw-in-Some-clause-exact
returns-in_err-send_raw-in-Some-clause-exact g c = λ honest vouched w holds.
    let p = err_from_is_err_and c.from_residual-in_err-send_raw-in-Some.result c.from_residual-in_err-send_raw-in-Some.ensures.1 in
    let raw = rw c.in-Some.is at (c.in_ok-raw.ensures.exact honest vouched w holds) in
    let sends = (rw c.in_ok-raw.ensures.reads at c.in_err-send_raw-in-Some.ensures.exact) honest raw.1 in
    rw (p.1, p.2) (some_failed (NodeShowsRaw w) All (raw_in c.args.checked.now.source.octets c.in-Some.raw) _ _ _ (refl, raw.0) sends)

pub returns-in_ok-send_raw-in-Some-clause-exact : goal.returns-in_ok-send_raw-in-Some-clause-exact
returns-in_ok-send_raw-in-Some-clause-exact g c = λ honest vouched w holds.
    let raw = rw c.in-Some.is at (c.in_ok-raw.ensures.exact honest vouched w holds) in
    let sends = (rw c.in_ok-raw.ensures.reads at c.in_ok-send_raw-in-Some.ensures.exact) honest raw.1 in
    (raw_in c.args.checked.now.source.octets c.in-Some.raw, (refl, raw.0), sends)

pub returns-in-None-clause-exact : goal.returns-in-None-clause-exact
returns-in-None-clause-exact g c = λ honest vouched w holds.
    let none = rw c.in-None.is at (c.in_ok-raw.ensures.exact honest vouched w holds) in
    ((refl, none), kept_self _)
