use Rattle.std.proofs.Common.{◌≡◌, ◌++◌, length, take, drop, ◌∙◌, arith}
use Rattle.std.proofs.lemmas.List.{length-take-le, take-append-le, take_all}
use Rattle.bplist_objects.proofs.unit_blocks.read_front.Goals as goal

pub returns-clause-units : goal.returns-clause-units
returns-clause-units g c =
    let count = c.args.count in
    let into = c.args.into.now in
    let new = c.read_units.new.into in
    let room : length (take count into) ≡ count = length-take-le count into c.requires.room in
    let long : length new ≡ count = c.read_units.auto.into ∙ room in
    let front : take count (new ++ drop count into) ≡ new = take-append-le count new (drop count into) (omega (arith, long)) ∙ take_all count new (omega (arith, long)) in
    rw front (rw room at c.read_units.ensures.units)
