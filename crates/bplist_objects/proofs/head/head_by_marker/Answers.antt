use Rattle.std.proofs.Common.{◌≡◌, IsTrue, ◌+◌, ◌*◌, ◌<◌, ◌≤◌, ◌∙◌, ap, refl, sym, arith, subst, Some, inl, inr, slice_index}
use Rattle.std.proofs.Math.Nat.{lt_of_not-le}
use Rattle.std.proofs.lemmas.Bool.{iff_false}
use Rattle.std.proofs.lemmas.Result.{err_from_is_err_and}
use Rattle.bplist_objects.specs.declared.rule.Rule.TheVariants.{Extent}
use Rattle.bplist_objects.specs.declared.head.Head.{Head}
use Rattle.bplist_objects.specs.Announced.{IsMarker, item_size}
use Rattle.bplist_objects.specs.Markers.{markers_of, IsLongOf, Announces}
use Rattle.bplist_objects.proofs.FrameTies.{numbered}
use Rattle.bplist_objects.proofs.HeadLaws.{head_announced}
use Rattle.bplist_objects.proofs.ShapeLaws.{shape_count, announced_behind, shape_kept, shape_extent}
use Rattle.bplist_objects.proofs.head.head_by_marker.Given.{Over}
use Rattle.bplist_objects.proofs.head.head_by_marker.Goals.{After-item_size, in-Some-short_count, in-None+in_ok-count-in-None}
use Rattle.bplist_objects.proofs.head.head_by_marker.Goals as goal

-- marker and count announce what was found, whose body begins inside the file
announced : (g : Over) (c : After-item_size g) → IsTrue (g.S.Source.means c.args.src.now).honest → slice_index (g.S.Source.means c.args.src.now).octets c.args.place ≡ c.args.marker
    → Announces (g.S.Source.means c.args.src.now).octets c.args.place c.in-Some.kind c.match-short_count.count.0 c.match-short_count.count.1
    × (c.match-short_count.count.1 ≤ c.args.frame.now.table)
announced g c honest marked =
    let f = (g.S.Source.means c.args.src.now).octets in
    elim c.match-short_count.branch [
      | in-Some-short_count w ↦ rw w.count-is (w.in-Some-short_count.ensures.found f c.args.place marked, omega arith)
      | in-None+in_ok-count-in-None w ↦
          let form = markers_of c.in-Some.kind in
          let long = subst (IsLongOf form) (sym marked) w.in-None.ensures.found.0 in
          rw w.count-is (announced_behind f c.args.place form _ _ long (w.in_ok-count-in-None.ensures.exact honest), w.in_ok-count-in-None.ensures.safe.1)
    ]

pub returns-then-not-ends_before_table-clause-rules : goal.returns-then-not-ends_before_table-clause-rules
returns-then-not-ends_before_table-clause-rules g c = λ honest framed at marked.
    let f = (g.S.Source.means c.args.src.now).octets in
    let F = c.args.frame.now in
    let x = c.match-short_count.count in
    let is = announced g (goal.at.returns-then-not-ends_before_table-clause-rules g c).After-item_size honest marked in
    let head : Head = record { kind = c.in-Some.kind; count = x.0; body = x.1; «end» = x.1 + x.0 * item_size F.ref_size c.in-Some.kind } in
    let over = lt_of_not-le (iff_false c.ends_before_table.ensures c.if-not-ends_before_table.true) in
    let size = rw c.item_size.ensures at c.saturating_mul-size.ensures in
    let late : F.table < x.1 + x.0 * item_size F.ref_size c.in-Some.kind = omega (arith, over, size) in
    let has = head_announced f F c.args.n.0 head (omega (arith, is.1)) (subst (λ p. Announces f p c.in-Some.kind x.0 x.1) at is.0, refl) in
    rw c.broken-then-not-ends_before_table.ensures (shape_extent f F c.args.n.0 (omega arith) head has late (record { rule = Extent; object = Some c.args.n; place = c.args.place }) refl refl at)

pub returns-clause-rules : goal.returns-clause-rules
returns-clause-rules g c = λ honest framed at marked.
    let f = (g.S.Source.means c.args.src.now).octets in
    let F = c.args.frame.now in
    let x = c.match-short_count.count in
    let is = announced g (goal.at.returns-clause-rules g c).After-item_size honest marked in
    let size = rw c.item_size.ensures at c.saturating_mul-size.ensures in
    let same : x.1 + c.saturating_mul-size.result ≡ x.1 + x.0 * item_size F.ref_size c.in-Some.kind = omega (arith, size, c.ends_before_table.ensures.0 c.if-not-ends_before_table.false) in
    let head : Head = record { kind = c.in-Some.kind; count = x.0; body = x.1; «end» = x.1 + c.saturating_mul-size.result } in
    let headed = head_announced f F c.args.n.0 head (omega (arith, is.1)) (subst (λ p. Announces f p c.in-Some.kind x.0 x.1) at is.0, same) in
    (headed, shape_kept f F c.args.n.0 (omega arith) head headed (omega (arith, c.ends_before_table.ensures.0 c.if-not-ends_before_table.false)))

pub returns-in_err-count-in-None-clause-rules : goal.returns-in_err-count-in-None-clause-rules
returns-in_err-count-in-None-clause-rules g c = λ honest framed at marked.
    let f = (g.S.Source.means c.args.src.now).octets in
    let long = subst (IsLongOf (markers_of c.in-Some.kind)) (sym marked) c.in-None.ensures.found.0 in
    let p = err_from_is_err_and c.from_residual.result c.from_residual.ensures.1 in
    rw (p.1, p.2) (shape_count f c.args.frame.now c.args.n.0 c.args.place c.in-Some.kind c.in_err-count-in-None.field-0.0 c.requires.safe.ref_low (omega (arith, (numbered framed).table_late)) at c.requires.low long (c.in_err-count-in-None.ensures.exact honest))

pub returns-in_default-clause-rules : goal.returns-in_default-clause-rules
returns-in_default-clause-rules g c = λ honest framed at marked.
    let f = (g.S.Source.means c.args.src.now).octets in
    let low = subst (λ place. 8 ≤ place) at c.requires.low in
    let found = ap (λ i. slice_index f i) (sym at) ∙ marked in
    rw c.broken.ensures (inr (low, inl (refl, (refl, ((λ marker. c.in_default.ensures (subst IsMarker found marker)), at)))))
