use Rattle.std.proofs.Common.{rules, ◌≡◌, ◌∙◌, length, drop}
use Rattle.bplist_c.proofs.UnitSteps.{take_front, whole_units}
use Rattle.bplist_c.proofs.utf8.utf8_of_text.Goals as goal

pub returns-in-Ok : goal.returns-in-Ok
returns-in-Ok c =
    let many : length c.deref_mut.result.now ≡ c.args.head.now.count = c.deref_mut.ensures.len ∙ c.in_ok-units.ensures.len in
    let fits : length c.read_part.new.into ≡ c.in_ok-units.units.len = c.read_part.auto.into ∙ c.deref_mut.ensures.len in
    let front = take_front c.in_ok-units.units.len c.read_part.new.into (drop (length c.read_part.new.into) c.in_ok-units.units.items) fits in
    let read : c.deref.result.now ≡ c.read_part.new.into = c.deref.ensures.value ∙ front in
    let same = read ∙ whole_units c.args.file.now c.args.head.now (length c.deref_mut.result.now) c.read_part.new.into c.requires.text many c.read_part.ensures in
    rw (← same) (search rules)

pub returns : goal.returns
returns c =
    let many : length c.deref_mut.result.now ≡ c.args.head.now.count = c.deref_mut.ensures.len ∙ c.in_ok-units.ensures.len in
    let fits : length c.read_part.new.into ≡ c.in_ok-units.units.len = c.read_part.auto.into ∙ c.deref_mut.ensures.len in
    let front = take_front c.in_ok-units.units.len c.read_part.new.into (drop (length c.read_part.new.into) c.in_ok-units.units.items) fits in
    let read : c.deref.result.now ≡ c.read_part.new.into = c.deref.ensures.value ∙ front in
    let same = read ∙ whole_units c.args.file.now c.args.head.now (length c.deref_mut.result.now) c.read_part.new.into c.requires.text many c.read_part.ensures in
    rw (← same) (search rules)
