use Rattle.std.proofs.Common.{refl, sym, arith}
use Rattle.bplist_objects.specs.Framed.{frame_in}
use Rattle.bplist_keys.proofs.Groups.{among_same, among_taken, among_trans, inside_among, shapes_among}
use Rattle.bplist_keys.proofs.NamedUnits.{units_permuted}
use Rattle.bplist_keys.proofs.ranks.put_listed_in_order.Goals as goal

pub read-requires-clause-inside : goal.read-requires-clause-inside
read-requires-clause-inside g c = inside_among _ _ _ (among_taken _ _ c.sort_by_number.ensures.from_old) c.requires.objects

pub put_in_order-requires-clause-objects : goal.put_in_order-requires-clause-objects
put_in_order-requires-clause-objects g c =
    let read = c.in_ok-texts.ensures in
    rw read.reads (inside_among _ _ _ (among_trans _ c.sort_by_number.new.items c.read.new.items (among_taken c.args.items.now _ c.sort_by_number.ensures.from_old) (among_same _ _ read.all (λ k _. read.same k))) c.requires.objects)

pub returns-in_err-put_in_order-clause-asks : goal.returns-in_err-put_in_order-clause-asks
returns-in_err-put_in_order-clause-asks g c = λ honest shapes few total.
    let m = g.P.Source.means c.args.src.now in
    let sort = c.sort_by_number.ensures in
    let read = c.in_ok-texts.ensures in
    let same = units_permuted m.octets (frame_in m) c.args.items.now _ c.sort_by_number.new.items refl sort.permuted in
    let held = read.fits honest (shapes_among m.octets (frame_in m) _ _ (among_taken _ _ sort.from_old) shapes) few (omega (arith, same, total)) in
    omega (arith, read.asks, c.in_err-put_in_order.ensures.asks held, sort.all)

pub returns-clause-asks : goal.returns-clause-asks
returns-clause-asks g c = λ honest shapes few total.
    let m = g.P.Source.means c.args.src.now in
    let sort = c.sort_by_number.ensures in
    let read = c.in_ok-texts.ensures in
    let same = units_permuted m.octets (frame_in m) c.args.items.now _ c.sort_by_number.new.items refl sort.permuted in
    let held = read.fits honest (shapes_among m.octets (frame_in m) _ _ (among_taken _ _ sort.from_old) shapes) few (omega (arith, same, total)) in
    omega (arith, read.asks, c.in_ok-put_in_order.ensures.asks held, sort.all)

pub returns-clause-from_old : goal.returns-clause-from_old
returns-clause-from_old g c =
    let read = c.in_ok-texts.ensures in
    among_trans c.args.items.now c.sort_by_number.new.items _ (among_taken _ _ c.sort_by_number.ensures.from_old)
    (among_trans _ c.read.new.items _ (among_same _ _ read.all (λ k _. read.same k)) c.in_ok-put_in_order.ensures.from_old)

pub returns-clause-into_new : goal.returns-clause-into_new
returns-clause-into_new g c =
    let read = c.in_ok-texts.ensures in
    among_trans _ c.sort_by_number.new.items c.args.items.now
    (among_trans _ c.read.new.items _ c.in_ok-put_in_order.ensures.into_new (among_same _ _ (sym read.all) (λ k _. sym (read.same k)))) (among_taken _ _ c.sort_by_number.ensures.into_new)

pub returns-clause-parted : goal.returns-clause-parted
returns-clause-parted g c = λ honest shapes.
    let m = g.P.Source.means c.args.src.now in
    let read = c.in_ok-texts.ensures in
    (rw read.reads at c.in_ok-put_in_order.ensures.parted) honest (read.ready honest (shapes_among m.octets (frame_in m) _ _ (among_taken _ _ c.sort_by_number.ensures.from_old) shapes))
