use Rattle.std.proofs.Common.{◌≡◌, ◌+◌, ◌-◌, arith, length, slice_index, take, drop, ap, sym, ◌∙◌}
use Rattle.std.proofs.lemmas.List.{length-take-le}
use Rattle.std.specs.Char.Utf16.{is_high_surrogate}
use Rattle.bplist_octets.specs.Octets.{part}
use Rattle.bplist_objects.specs.Units.{units_of}
use Rattle.bplist_objects.proofs.Units.{length-units_at}
use Rattle.bplint_engine.proofs.ReadCharacters.{cut_at_end, cut_before, cut_behind, front_read, last_read}
use Rattle.bplint_engine.specs.Streams.{IsCut}
use Rattle.bplint_engine.proofs.raw_bytes.read_characters.Goals as goal
use Rattle.bplint_engine.proofs.raw_bytes.read_characters.Goals.{else-now-left-via-then-now-left+else-is_high_surrogate, else-now-left-via-else-now-left}

pub returns-then-is_high_surrogate-clause-exact : goal.returns-then-is_high_surrogate-clause-exact
returns-then-is_high_surrogate-clause-exact g c = λ honest.
    let f = c.args.checked.now.source.octets in
    let head = c.args.head.now in
    let us = units_of f head in
    let now = c.min-now.result in
    let long : length us ≡ head.count = length-units_at f head.kind head.count head.body c.requires.text.kind (omega arith) in
    let len : length (take now c.args.buffer.now) ≡ now = length-take-le now c.args.buffer.now (omega arith) in
    let read = c.in_ok-body_units.ensures.units honest ∙ ap (part us c.args.from) len in
    let last = last_read us c.body_units.new.into (drop now c.args.buffer.now) c.args.from now (omega arith) (omega (arith, long)) read in (
      cut_before us (c.args.from + (now - 1)) (ap is_high_surrogate (sym last) ∙ sym c.if-is_high_surrogate.ensures),
      front_read us c.body_units.new.into (drop now c.args.buffer.now) c.args.from now (now - 1) (omega arith) (omega (arith, long)) read,
    )

pub returns-else-now-left-clause-exact : goal.returns-else-now-left-clause-exact
returns-else-now-left-clause-exact g c = λ honest.
    let f = c.args.checked.now.source.octets in
    let head = c.args.head.now in
    let us = units_of f head in
    let now = c.min-now.result in
    let long : length us ≡ head.count = length-units_at f head.kind head.count head.body c.requires.text.kind (omega arith) in
    let len : length (take now c.args.buffer.now) ≡ now = length-take-le now c.args.buffer.now (omega arith) in
    let read = c.in_ok-body_units.ensures.units honest ∙ ap (part us c.args.from) len in
    let last = last_read us c.body_units.new.into (drop now c.args.buffer.now) c.args.from now (omega arith) (omega (arith, long)) read in
    let step : c.args.from + now - 1 ≡ c.args.from + (now - 1) = omega arith in
    let cut : IsCut us (c.args.from + now) =
    elim c.else-now-left.branch [
      | else-now-left-via-then-now-left+else-is_high_surrogate w ↦
          cut_behind us (c.args.from + now) (ap (λ i. is_high_surrogate (slice_index us i)) step ∙ ap is_high_surrogate (sym last) ∙ sym w.if-is_high_surrogate.ensures)
      | else-now-left-via-else-now-left w ↦ let all = w.if-now-left.false in cut_at_end us (c.args.from + now) (omega (arith, long, all))
    ] in
    (cut, front_read us c.body_units.new.into (drop now c.args.buffer.now) c.args.from now now (omega arith) (omega (arith, long)) read)
