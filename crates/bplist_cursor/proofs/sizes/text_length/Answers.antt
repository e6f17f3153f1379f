use Rattle.std.proofs.Common.{arith, rules, length, inl, inr, ◌≤◌, ◌+◌, ◌*◌, ◌≡◌, ◌∙◌, ap, sym, take, flat_map}
use Rattle.std.specs.List.{list_all}
use Rattle.bplist_cursor.specs.Nodes.{cap}
use Rattle.std.specs.Char.{is_ascii_alphanumeric}
use Rattle.bplist_cursor.specs.Texts.{quoted_unit}
use Rattle.bplist_objects.specs.Units.{units_of}
use Rattle.bplist_objects.specs.Announced.{item_size}
use Rattle.bplist_objects.proofs.BlockSteps.{units_are}
use Rattle.bplist_objects.proofs.Units.{length-units_at}
use Rattle.bplist_cert.specs.CheckedFile.{meaning_of}
use Rattle.bplist_cursor.proofs.LengthSteps.{plain_more, quoted_more, plain_length, quoted_text_length}
use Rattle.bplist_cursor.proofs.PassSteps.{a_block_more}
use Rattle.bplist_cursor.proofs.sizes.text_length.Goals.{else-plain-via-then-plain+else-head-gt0, else-plain-via-else-plain}
use Rattle.bplist_cursor.proofs.sizes.text_length.Goals as goal

pub loop-units-preserved : goal.loop-units-preserved
loop-units-preserved g c =
    let us = units_of c.args.checked.now.source.octets c.args.head.now in
    let i = c.loop-units.invariant in
    let from = c.loop-units.units.next in
    let lent = c.block-block.result.now in
    let block = units_are (ap meaning_of i.same) i.of c.block-block.ensures.units (c.in_ok-read.ensures.next c.if-branch.true) in
    record {
      same = search rules;
      of = c.in_ok-read.ensures.same ∙ i.of;
      asked = a_block_more _ _ _ from _ (item_size 1 c.args.head.now.kind) i.asked (rw i.of at c.in_ok-read.ensures.asks_block);
      plain = λ honest.
          plain_more us lent from (length lent) c.loop-units.plain c.are_plain.result (i.plain honest) (block.units honest) c.are_plain.ensures
          ∙ ap (λ n. list_all is_ascii_alphanumeric (take n us)) block.long;
      quoted = λ honest.
          c.saturating_add-quoted.ensures
          ∙ quoted_more us lent from (length lent) c.loop-units.quoted c.quoted_length.result (i.quoted honest) (block.units honest) c.quoted_length.ensures
          ∙ ap (λ n. cap (2 + length (flat_map quoted_unit (take n us)))) block.long;
    }

pub returns-then-head-gt0-clause-exact : goal.returns-then-head-gt0-clause-exact
returns-then-head-gt0-clause-exact g c = λ honest.
    let f = c.args.checked.now.source.octets in
    let us = units_of f c.args.head.now in
    let within : c.args.head.now.body + c.args.head.now.count * item_size 1 c.args.head.now.kind ≤ length f = omega arith in
    let len = length-units_at f c.args.head.now.kind c.args.head.now.count c.args.head.now.body c.requires.text.kind within in
    let i = c.loop-units.invariant in
    let end = c.in_ok-read.ensures.end c.if-branch.false in
    let all : c.loop-units.units.next ≡ c.args.head.now.count = end.1 ∙ ap (λ h. h.count) i.of in
    plain_length us c.args.head.now.count len (sym c.if-plain.true ∙ i.plain honest ∙ ap (λ n. list_all is_ascii_alphanumeric (take n us)) all) c.if-head-gt0.true (omega arith)

pub returns-else-plain-clause-exact : goal.returns-else-plain-clause-exact
returns-else-plain-clause-exact g c = λ honest.
    let f = c.args.checked.now.source.octets in
    let us = units_of f c.args.head.now in
    let within : c.args.head.now.body + c.args.head.now.count * item_size 1 c.args.head.now.kind ≤ length f = omega arith in
    let len = length-units_at f c.args.head.now.kind c.args.head.now.count c.args.head.now.body c.requires.text.kind within in
    let i = c.loop-units.invariant in
    let end = c.in_ok-read.ensures.end c.if-branch.false in
    let all : c.loop-units.units.next ≡ c.args.head.now.count = end.1 ∙ ap (λ h. h.count) i.of in
    let q = i.quoted honest ∙ ap (λ n. cap (2 + length (flat_map quoted_unit (take n us)))) all in
    let p = i.plain honest ∙ ap (λ n. list_all is_ascii_alphanumeric (take n us)) all in
    quoted_text_length us c.args.head.now.count c.loop-units.quoted len
    (elim c.else-plain.branch [
      | else-plain-via-then-plain+else-head-gt0 w ↦ inr (omega (arith, w.if-head-gt0.false))
      | else-plain-via-else-plain w ↦ inl (sym w.if-plain.false ∙ p)
    ])
    q
