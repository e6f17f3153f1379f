use Rattle.std.proofs.Common.{◌≡◌, ◌≤◌, ◌<◌, ◌+◌, ◌∙◌, length, slice_index, sym, ap, refl, arith, Some, None}
use Rattle.std.proofs.Math.Nat.{lt_of_not-le}
use Rattle.std.proofs.lemmas.Bool.{iff_false}
use Rattle.bplist_objects.specs.declared.rule.Rule.TheVariants.{Extent}
use Rattle.bplist_objects.specs.declared.frame.Frame.{Frame}
use Rattle.bplist_objects.specs.Framed.{frame_in}
use Rattle.bplist_objects.specs.Frame.{off}
use Rattle.bplist_objects.specs.Visits.{size_said}
use Rattle.bplist_objects.proofs.VisitLaws.{said_kept, said_late, unsaid}
use Rattle.bplist_objects.proofs.scan.visit_in.Goals as goal

pub returns-then-not-ends_before_table-clause-exact : goal.returns-then-not-ends_before_table-clause-exact
returns-then-not-ends_before_table-clause-exact g c = λ honest at.
    let f = (g.P.Source.means c.args.src.now).octets in
    let F : Frame = frame_in (g.P.Source.means c.args.src.now) in
    let marked = (rw c.frame-frame.ensures.frame at c.in_ok-marker.ensures.rules) honest (c.frame-frame.ensures.framed.framed honest) at in
    let said : size_said (slice_index f (off f F c.args.n.0)) ≡ Some c.in-Some.size = ap size_said (ap (λ p. slice_index f p) (sym at) ∙ marked) ∙ sym c.size_said.ensures ∙ c.in-Some.is in
    let table : c.frame-frame.result.table ≡ F.table = ap (λ (x : Frame). x.table) c.frame-frame.ensures.frame in
    let far : 8 ≤ off f F c.args.n.0 = omega (arith, at, c.in_ok-marker.ensures.low) in
    let within : off f F c.args.n.0 < length f = omega (arith, at, table, c.in_ok-marker.ensures.inside, c.frame-frame.ensures.framed.safe.safe.room) in
    let late : F.table < off f F c.args.n.0 + c.in-Some.size = omega (arith, table, at, lt_of_not-le (iff_false c.ends_before_table.ensures c.if-not-ends_before_table.true)) in
    rw c.broken.ensures (said_late f F c.args.n.0 c.in-Some.size far within said late (record { rule = Extent; object = Some c.args.n; place = c.args.place }) refl refl at)

pub returns-clause-exact : goal.returns-clause-exact
returns-clause-exact g c = λ honest at.
    let f = (g.P.Source.means c.args.src.now).octets in
    let F : Frame = frame_in (g.P.Source.means c.args.src.now) in
    let marked = (rw c.frame-frame.ensures.frame at c.in_ok-marker.ensures.rules) honest (c.frame-frame.ensures.framed.framed honest) at in
    let said : size_said (slice_index f (off f F c.args.n.0)) ≡ Some c.in-Some.size = ap size_said (ap (λ p. slice_index f p) (sym at) ∙ marked) ∙ sym c.size_said.ensures ∙ c.in-Some.is in
    let table : c.frame-frame.result.table ≡ F.table = ap (λ (x : Frame). x.table) c.frame-frame.ensures.frame in
    let far : 8 ≤ off f F c.args.n.0 = omega (arith, at, c.in_ok-marker.ensures.low) in
    let within : off f F c.args.n.0 < length f = omega (arith, at, table, c.in_ok-marker.ensures.inside, c.frame-frame.ensures.framed.safe.safe.room) in
    let inside : off f F c.args.n.0 + c.in-Some.size ≤ F.table = omega (arith, table, at, c.ends_before_table.ensures.0 c.if-not-ends_before_table.false) in
    let kept = said_kept f F c.args.n.0 c.in-Some.size far within said inside in
    (kept.0, kept.1, omega (arith, kept.2, at), kept.3, kept.4)

pub returns-in_default-clause-exact : goal.returns-in_default-clause-exact
returns-in_default-clause-exact g c = λ honest at.
    let f = (g.P.Source.means c.args.src.now).octets in
    let F : Frame = frame_in (g.P.Source.means c.args.src.now) in
    let marked = (rw c.frame-frame.ensures.frame at c.in_ok-marker.ensures.rules) honest (c.frame-frame.ensures.framed.framed honest) at in
    let none : size_said (slice_index f (off f F c.args.n.0)) ≡ None = ap size_said (ap (λ p. slice_index f p) (sym at) ∙ marked) ∙ sym c.size_said.ensures ∙ c.in_default.is in
    let said = (rw (c.in_ok-marker.ensures.reads, c.frame-frame.ensures.frame) at c.in_ok-head.ensures.rules) honest (c.frame-frame.ensures.framed.framed honest) at marked in
    (said.0, said.1, unsaid f F c.args.n.0 c.in_ok-head.head said.0 none)
