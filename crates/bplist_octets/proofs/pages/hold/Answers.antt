use Rattle.std.proofs.Common.{ap, sym, take, ◌∙◌, arith}
use Rattle.std.proofs.lemmas.Bool.{ltb-false}
use Rattle.std.proofs.lemmas.List.{with_items_is}
use Rattle.bplist_octets.proofs.PageSteps.{is_none, read_once}
use Rattle.bplist_octets.proofs.pages.hold.Goals.{then-whole, else-whole, then-whole-2, else-whole-2}
use Rattle.bplist_octets.proofs.pages.hold.Goals as goal

pub overflow_add-page : goal.overflow_add-page
overflow_add-page g c =
    let lacks = rw (is_none _ c.if-is_some.ensures) at c.index_in.ensures in
    let once = read_once _ _ _ _ _ c.requires.page lacks c.requires.fits c.requires.inside in
    omega (arith, once)

pub returns-clause-left : goal.returns-clause-left
returns-clause-left g c = λ _.
    let lacks = rw (is_none _ c.if-is_some.ensures) at c.index_in.ensures in
    let once = read_once _ _ _ _ _ c.requires.page lacks c.requires.fits c.requires.inside in
    let asks = c.fill.ensures.asks in
    elim c.if-whole-2.branch [
      | then-whole-2 w ↦ let room = rw w.block-is at c.max-room.ensures in omega (arith, once, asks, c.min-held.ensures, room, c.requires.fits)
      | else-whole-2 w ↦ let room = rw w.block-is at c.max-room.ensures in omega (arith, once, asks, c.min-held.ensures, room, c.requires.fits)
    ]

pub returns-clause-page : goal.returns-clause-page
returns-clause-page g c =
    record {
      place = elim c.if-whole-2.branch [
        | then-whole-2 w ↦ rw w.block-is (omega arith)
        | else-whole-2 w ↦ rw w.block-is (omega arith)
      ];
      room = omega (arith, c.has_room.ensures, c.as_mut_slice.ensures.len);
      inside = omega (arith, c.min-held.ensures, c.len.ensures, c.requires.inside);
      none = λ unread. absurd (omega (arith, unread));
      holds = λ honest. ap (take c.min-held.result) (with_items_is c.has_room.new.octets c.fill.new.into (omega (arith, c.as_mut_slice.ensures.len))) ∙ c.in_default.ensures.filled honest;
      whole = λ two. elim c.if-whole-2.branch [
        | then-whole-2 w ↦
            let room = rw w.block-is at c.max-room.ensures in
            let held = rw w.block-is at c.min-held.ensures in
            rw w.block-is (omega arith, omega (arith, held, room, c.len.ensures, c.requires.fits))
        | else-whole-2 w ↦ elim c.if-whole.branch [
          | then-whole v ↦ absurd (cc (sym v.whole-is ∙ w.if-whole-2.false))
          | else-whole v ↦ let unread = ltb-false _ _ (sym v.whole-is ∙ w.if-whole-2.false) in absurd (omega (arith, two, unread))
        ]
      ];
    }
