use Rattle.std.proofs.Common.{rules, arith, [], ◌++◌, ◌≡◌, ◌≤◌, Err, length, take, refl, sym, ap, ◌∙◌}
use Rattle.std.proofs.lemmas.List.{take_all}
use Rattle.std.proofs.lemmas.Result.{err_from_is_err_and}
use Rattle.std.specs.List.{flat_map}
use Rattle.bplist_octets.specs.Octets.{part}
use Rattle.bplist_objects.specs.Units.{units_of}
use Rattle.bplist_objects.proofs.BlockSteps.{units_are}
use Rattle.bplist_objects.proofs.Units.{length-units_at}
use Rattle.bplist_cert.specs.CheckedFile.{meaning_of}
use Rattle.bplist_ascii.specs.BoundedWrites.{styled, fits}
use Rattle.bplist_ascii.proofs.WriteSteps.{on_err, adds_nothing, adds_some, adds_fit, adds_within, adds_fail, text_more, text_adds, flat_part, flat_parts, all_in_part, length-unquoted, text_under}
use Rattle.bplist_ascii.proofs.leaves.write_text_body.Goals as goal

pub loop-sink-init : goal.loop-sink-init
loop-sink-init g c =
    let us = units_of c.args.checked.now.source.octets c.args.text.now.head in
    let start = c.of-units.ensures.start in
    record {
      same = refl;
      of = c.of-units.ensures.of;
      so_far = record {
        bytes = [];
        adds = adds_nothing _ _ _;
        is = λ _. ap (λ n. flat_map (styled c.args.text.now.style) (take n us)) (sym start);
      };
      falls = λ _. omega (arith, start);
    }

pub returns-in_err-read-clause-fails : goal.returns-in_err-read-clause-fails
returns-in_err-read-clause-fails g c =
    let p = err_from_is_err_and c.from_residual.result c.from_residual.ensures.1 in
    let us = units_of c.args.checked.now.source.octets c.args.text.now.head in
    rw (p.1, p.2) (λ honest all low. adds_some _ (text_adds c.loop-sink.invariant.so_far honest) (flat_parts (styled c.args.text.now.style) us c.loop-sink.units.next 0))

pub returns-in_err-read-clause-bounded : goal.returns-in_err-read-clause-bounded
returns-in_err-read-clause-bounded g c = on_err c.from_residual.result (adds_fit c.loop-sink.invariant.so_far.adds)

pub returns-in_err-write_units-clause-fails : goal.returns-in_err-write_units-clause-fails
returns-in_err-write_units-clause-fails g c =
    let is : c.from_residual-in_err-write_units.result ≡ Err c.in_err-write_units.field-0.0 = search rules in
    let us = units_of c.args.checked.now.source.octets c.args.text.now.head in
    let f = styled c.args.text.now.style in
    let i = c.loop-sink.invariant in
    let from = c.loop-sink.units.next in
    let long = length c.block.result.now in
    let block = units_are (ap meaning_of i.same) i.of c.block.ensures.units (c.in_ok-read.ensures.next c.if-branch.true) in
    rw is (λ honest all low.
    adds_fail _ _ _ (flat_map f (part us from long)) _ (flat_map f us) _ (text_adds i.so_far honest)
    ((rw (block.units honest) at c.in_err-write_units.ensures.fails) (all_in_part (fits c.args.text.now.style) us from long all)) (flat_parts f us from long) low)

pub returns-in_err-write_units-clause-bounded : goal.returns-in_err-write_units-clause-bounded
returns-in_err-write_units-clause-bounded g c =
    let is : c.from_residual-in_err-write_units.result ≡ Err c.in_err-write_units.field-0.0 = search rules in
    rw is (adds_within _ _ _ c.loop-sink.invariant.so_far.adds c.in_err-write_units.ensures.bounded)

pub loop-sink-preserved : goal.loop-sink-preserved
loop-sink-preserved g c =
    let us = units_of c.args.checked.now.source.octets c.args.text.now.head in
    let f = styled c.args.text.now.style in
    let i = c.loop-sink.invariant in
    let from = c.loop-sink.units.next in
    let lent = c.block.result.now in
    let block = units_are (ap meaning_of i.same) i.of c.block.ensures.units (c.in_ok-read.ensures.next c.if-branch.true) in
    record {
      same = search rules;
      of = c.in_ok-read.ensures.same ∙ i.of;
      so_far = text_more _ _ i.so_far c.in_ok-write_units.ensures.adds (λ honest.
          ap (λ x. flat_map f (take from us) ++ flat_map f x) (block.units honest)
          ∙ flat_part f us from (length lent)
          ∙ ap (λ n. flat_map f (take n us)) block.long);
      falls = λ unquoted.
          let counted = (rw unquoted at c.in_ok-write_units.ensures.adds).counted in
          let before = i.falls unquoted in
          omega (arith, counted, before, block.long, length-unquoted lent);
    }

pub returns-clause-adds : goal.returns-clause-adds
returns-clause-adds g c =
    let head = c.args.text.now.head in
    let us = units_of c.args.checked.now.source.octets head in
    let long = length-units_at c.args.checked.now.source.octets head.kind head.count head.body c.requires.text.kind (omega arith) in
    let i = c.loop-sink.invariant in
    let end = c.in_ok-read.ensures.end c.if-branch.false in
    let all : length us ≤ c.loop-sink.units.next = omega (arith, long, end.1, ap (λ h. h.count) i.of) in
    text_under (λ _. ap (flat_map (styled c.args.text.now.style)) (take_all c.loop-sink.units.next us all)) i.so_far
