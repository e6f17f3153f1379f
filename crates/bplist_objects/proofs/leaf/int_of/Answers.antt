use Rattle.std.proofs.Common.{◌≡◌, ◌≤◌, arith, ◌∙◌, sym, ap, length, subst, ◌⊎◌}
use Rattle.std.proofs.lemmas.List.{length-take-le}
use Rattle.std.proofs.lemmas.Int.{ints}
use Rattle.bplist_octets.specs.Octets.{part}
use Rattle.bplist_objects.specs.Numbers.{integer}
use Rattle.bplist_objects.proofs.Integers.{int_count}
use Rattle.bplist_objects.proofs.leaf.int_of.Goals as goal

pub slice_bounds-octets-end : goal.slice_bounds-octets-end
slice_bounds-octets-end g c = (int_count c.args.head.now.kind c.args.head.now.count c.requires.kind c.requires.head.may).1

pub slice_bounds-body-end : goal.slice_bounds-body-end
slice_bounds-body-end g c =
    sym (length-take-le c.args.head.now.count _ (int_count c.args.head.now.kind c.args.head.now.count c.requires.kind c.requires.head.may).1)

pub integer_in-requires-clause-some : goal.integer_in-requires-clause-some
integer_in-requires-clause-some g c =
    let may = int_count c.args.head.now.kind c.args.head.now.count c.requires.kind c.requires.head.may in
    let len : length c.read_at.new.into ≡ c.args.head.now.count = c.read_at.auto.into ∙ length-take-le c.args.head.now.count _ may.1 in
    omega (arith, may.0, len)

pub integer_in-requires-clause-width : goal.integer_in-requires-clause-width
integer_in-requires-clause-width g c =
    let may = int_count c.args.head.now.kind c.args.head.now.count c.requires.kind c.requires.head.may in
    let len : length c.read_at.new.into ≡ c.args.head.now.count = c.read_at.auto.into ∙ length-take-le c.args.head.now.count _ may.1 in
    subst (λ n. (n ≤ 4) ⊎ ((n ≡ 8) ⊎ (n ≡ 16))) (sym len) may.2

pub returns-clause-value : goal.returns-clause-value
returns-clause-value g c = λ honest.
    let may = int_count c.args.head.now.kind c.args.head.now.count c.requires.kind c.requires.head.may in
    let body = part (g.S.Source.means c.args.src.now).octets c.args.head.now.body in
    let filled = c.in_ok-read_at.ensures.filled honest ∙ ap body (length-take-le c.args.head.now.count _ may.1) in
    let whole : c.integer_in.result ≡ integer (body c.args.head.now.count) = c.integer_in.ensures ∙ ap integer filled in
    rw (sym whole) (omega (arith, ints))
