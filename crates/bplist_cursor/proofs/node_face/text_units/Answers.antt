use Rattle.std.proofs.Common.{arith, ◌≡◌, ◌∙◌, length, drop}
use Rattle.bplist_cursor.proofs.ShownFaces.{all_units, take_front}
use Rattle.bplist_cursor.proofs.node_face.text_units.Goals as goal

pub returns-clause-value : goal.returns-clause-value
returns-clause-value g c = λ honest.
    let len : length c.deref_mut.result.now ≡ c.args.head.now.count = c.deref_mut.ensures.len ∙ c.in_ok-units.ensures.len in
    let same : length c.body_units.new.into ≡ c.in_ok-units.units.len = c.body_units.auto.into ∙ c.deref_mut.ensures.len in
    let front = take_front c.in_ok-units.units.len c.body_units.new.into (drop (length c.body_units.new.into) c.in_ok-units.units.items) same in
    let is : c.new.result ≡ c.body_units.new.into = c.new.ensures ∙ front in
    is ∙ c.in_ok-body_units.ensures.units honest
    ∙ all_units c.args.checked.now.source.octets c.args.head.now (length c.deref_mut.result.now) c.requires.text.kind (omega arith) len
