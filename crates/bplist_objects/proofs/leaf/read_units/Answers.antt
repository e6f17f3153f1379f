use Rattle.std.proofs.Common.{◌+◌, ◌*◌, ◌≤◌, arith, length, Result, Ok, Err, OnOk}
use Rattle.bplist_objects.specs.Announced.{item_size}
use Rattle.bplist_objects.proofs.Units.{units_part}
use Rattle.bplist_objects.proofs.leaf.read_units.Goals as goal

-- a consequence of what an Ok says
on_ok : {X E : Type 0} {P Q : Type 0} → (r : Result X E) → (P → Q) → OnOk r P → OnOk r Q
on_ok (Ok x) h p = h p
on_ok (Err e) h p = tt

pub returns-clause-units : goal.returns-clause-units
returns-clause-units g c =
    let f = (g.S.Source.means c.args.src.now).octets in
    let head = c.args.head.now in
    let within : head.body + head.count * item_size 1 head.kind ≤ length f = omega arith in
    let here = rw c.item_size-bytes.ensures at c.read_many.ensures.numbers in
    on_ok c.read_many.result
    (λ numbers honest. units_part f head.kind head.count head.body c.args.from (length c.args.into.now) c.read_many.new.into c.requires.text.kind within c.requires.within c.read_many.auto.into (λ k l. numbers honest k 0 l))
    here
