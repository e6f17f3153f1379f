use Rattle.std.proofs.Common.{◌≡◌, ◌+◌, length, take, ap, ◌∙◌, sym, arith}
use Rattle.std.proofs.lemmas.List.{length-take-le}
use Rattle.bplist_octets.specs.Octets.{part}
use Rattle.bplist_objects.specs.Announced.{item_size}
use Rattle.bplist_objects.specs.Units.{units_of}
use Rattle.bplist_objects.proofs.BlockSteps.{block_of_rest}
use Rattle.bplist_objects.proofs.unit_blocks.UnitBlocks.read.Goals as goal

pub returns-in_err-read_front-clause-asks : goal.returns-in_err-read_front-clause-asks
returns-in_err-read_front-clause-asks g c =
    let head = c.self.inside.head in
    rw (← c.self.view_is) (block_of_rest _ _ c.self.inside.next c.min-count.result head.count (item_size 1 head.kind) c.read_front.ensures.asks (omega arith))

pub returns-clause-asks : goal.returns-clause-asks
returns-clause-asks g c =
    let head = c.self.inside.head in
    rw (← c.self.view_is) (block_of_rest _ _ c.self.inside.next c.min-count.result head.count (item_size 1 head.kind) c.read_front.ensures.asks (omega arith))

pub returns-clause-asks_block : goal.returns-clause-asks_block
returns-clause-asks_block g c =
    let count = c.min-count.result in
    rw (← c.self.view_is) (block_of_rest _ _ c.self.inside.next count (c.self.inside.next + count) (item_size 1 c.self.inside.head.kind) c.read_front.ensures.asks (omega arith))

pub returns-clause-next : goal.returns-clause-next
returns-clause-next g c =
    let count = c.min-count.result in
    let us = units_of (g.S.Source.means c.args.src.now).octets c.self.inside.head in
    let long : length (take count c.read_front.new.into) ≡ count = length-take-le count c.read_front.new.into (omega arith) in
    rw (← c.self.view_is) (λ _. record {
      more = omega arith;
      within = omega arith;
      long = omega (arith, long);
      units = λ honest. c.in_ok-read_front.ensures.units honest ∙ ap (part us c.self.inside.next) (sym long);
    })
