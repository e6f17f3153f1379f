use Rattle.std.proofs.Common.{arith, sym, ap, ◌∙◌}
use Rattle.bplist_cert.proofs.CheckSteps.{on_err}
use Rattle.bplist_cursor.specs.declared.replies.Reply.TheVariants as replies
use Rattle.bplist_cursor.proofs.Causes.{unread_excused}
use Rattle.bplist_cursor.proofs.StepReferences.{content_of_value}
use Rattle.bplist_cursor.proofs.KeyReplies.{keys_told, no_keys}
use Rattle.bplist_cursor.proofs.answers.keys_at.Goals as goal

pub returns-in_err-head-clause-exact : goal.returns-in_err-head-clause-exact
returns-in_err-head-clause-exact g c = λ honest v o.
    let s = content_of_value c.args.checked.now.source.octets c.args.checked.now.frame v c.args.node.object.0 o.1 in
    on_err _ _ _ _ c.from_residual.ensures.1 (unread_excused c.in_err-head.field-0.0 (c.in_err-head.ensures.exact honest o.0 s.0 s.1))

pub returns-in_err-key_texts-in-Dict-clause-exact : goal.returns-in_err-key_texts-in-Dict-clause-exact
returns-in_err-key_texts-in-Dict-clause-exact g c = λ honest v o.
    let checked = c.args.checked.now in
    let t = keys_told checked.source.octets checked.frame v c.args.node.object.0 c.in_ok-head.head o.1 (c.in_ok-head.ensures.exact honest o.0) c.in-Dict.is in
    on_err _ _ _ _ c.from_residual-in_err-key_texts-in-Dict.ensures.1 ((rw c.in_ok-head.ensures.reads at c.in_err-key_texts-in-Dict.ensures.exact) honest c.args.node.object.0 t.keys t.values t.spells t.means t.units t.texts)

pub returns-in_ok-key_texts-in-Dict-clause-exact : goal.returns-in_ok-key_texts-in-Dict-clause-exact
returns-in_ok-key_texts-in-Dict-clause-exact g c = λ honest v o.
    let checked = c.args.checked.now in
    let t = keys_told checked.source.octets checked.frame v c.args.node.object.0 c.in_ok-head.head o.1 (c.in_ok-head.ensures.exact honest o.0) c.in-Dict.is in
    ap replies.Keys ((rw c.in_ok-head.ensures.reads at c.in_ok-key_texts-in-Dict.ensures.exact) honest c.args.node.object.0 t.keys t.values t.spells t.means t.units t.texts) ∙ sym t.told

pub returns-in_default : goal.returns-in_default
returns-in_default g c = record {
  reads = c.in_ok-head.ensures.reads;
  asks = λ honest v o. omega (arith, c.in_ok-head.ensures.asks);
  exact = λ honest v o. sym (no_keys c.args.checked.now.source.octets c.args.checked.now.frame v c.args.node.object.0 c.in_ok-head.head o.1 (c.in_ok-head.ensures.exact honest o.0) c.in_default.not-Dict);
}

pub returns-in_err-key_texts-in-Dict-clause-asks : goal.returns-in_err-key_texts-in-Dict-clause-asks
returns-in_err-key_texts-in-Dict-clause-asks g c = λ honest v o.
    let checked = c.args.checked.now in
    let t = keys_told checked.source.octets checked.frame v c.args.node.object.0 c.in_ok-head.head o.1 (c.in_ok-head.ensures.exact honest o.0) c.in-Dict.is in
    let keys = (rw c.in_ok-head.ensures.reads at c.in_err-key_texts-in-Dict.ensures.asks) honest c.args.node.object.0 t.keys t.values t.spells t.means t.units t.texts in
    omega (arith, keys, t.bytes, c.in_ok-head.ensures.asks)

pub returns-in_ok-key_texts-in-Dict-clause-asks : goal.returns-in_ok-key_texts-in-Dict-clause-asks
returns-in_ok-key_texts-in-Dict-clause-asks g c = λ honest v o.
    let checked = c.args.checked.now in
    let t = keys_told checked.source.octets checked.frame v c.args.node.object.0 c.in_ok-head.head o.1 (c.in_ok-head.ensures.exact honest o.0) c.in-Dict.is in
    let keys = (rw c.in_ok-head.ensures.reads at c.in_ok-key_texts-in-Dict.ensures.asks) honest c.args.node.object.0 t.keys t.values t.spells t.means t.units t.texts in
    omega (arith, keys, t.bytes, c.in_ok-head.ensures.asks)
