use Rattle.std.proofs.Common.{rules, arith, ◌≤◌, length, take, sym, ap, ◌∙◌}
use Rattle.std.proofs.lemmas.List.{take_all}
use Rattle.std.specs.List.{list_all}
use Rattle.bplist_objects.specs.Units.{units_of}
use Rattle.bplist_objects.proofs.BlockSteps.{units_are}
use Rattle.bplist_objects.proofs.Units.{length-units_at}
use Rattle.std.specs.Char.{is_ascii_alphanumeric}
use Rattle.bplist_cert.specs.CheckedFile.{meaning_of}
use Rattle.bplist_ascii.proofs.WriteSteps.{part_not_unquoted, all_more, all_is_unquoted}
use Rattle.bplist_ascii.proofs.leaves.is_unquoted.Goals as goal

pub returns-then-not-are_plain-clause-exact : goal.returns-then-not-are_plain-clause-exact
returns-then-not-are_plain-clause-exact g c = λ honest.
    let us = units_of c.args.checked.now.source.octets c.args.head.now in
    let i = c.loop-units.invariant in
    let block = units_are (ap meaning_of i.same) i.of c.block.ensures.units (c.in_ok-read.ensures.next c.if-branch.true) in
    part_not_unquoted us c.loop-units.units.next (length c.block.result.now) (ap (list_all is_ascii_alphanumeric) (sym (block.units honest)) ∙ sym c.if-not-are_plain.ensures)

pub loop-units-preserved : goal.loop-units-preserved
loop-units-preserved g c =
    let us = units_of c.args.checked.now.source.octets c.args.head.now in
    let i = c.loop-units.invariant in
    let block = units_are (ap meaning_of i.same) i.of c.block.ensures.units (c.in_ok-read.ensures.next c.if-branch.true) in
    record {
      same = search rules;
      of = c.in_ok-read.ensures.same ∙ i.of;
      so_far = λ honest.
          ap (λ n. list_all is_ascii_alphanumeric (take n us)) (sym block.long)
          ∙ all_more is_ascii_alphanumeric us c.loop-units.units.next (length c.block.result.now) (i.so_far honest) (ap (list_all is_ascii_alphanumeric) (sym (block.units honest)) ∙ sym c.if-not-are_plain.ensures);
    }

pub returns-clause-exact : goal.returns-clause-exact
returns-clause-exact g c = λ honest.
    let us = units_of c.args.checked.now.source.octets c.args.head.now in
    let long = length-units_at c.args.checked.now.source.octets c.args.head.now.kind c.args.head.now.count c.args.head.now.body c.requires.text.kind (omega arith) in
    let i = c.loop-units.invariant in
    let end = c.in_ok-read.ensures.end c.if-branch.false in
    let all : length us ≤ c.loop-units.units.next = omega (arith, long, end.1, ap (λ h. h.count) i.of) in
    sym (all_is_unquoted us (omega (arith, long, c.if-head-eq0.false)) (ap (list_all is_ascii_alphanumeric) (sym (take_all c.loop-units.units.next us all)) ∙ i.so_far honest))
