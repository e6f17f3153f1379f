use Rattle.std.proofs.Common.{◌≡◌, ◌+◌, ◌<◌, length, refl, sym, ap, ◌∙◌, subst, inl, inr, arith}
use Rattle.std.proofs.lemmas.Bool.{cases_eq}
use Rattle.std.proofs.lemmas.Grind.{common_steps}
use Rattle.std.proofs.lemmas.List.{length-set}
use Rattle.bplist_objects.specs.declared.frame.Frame.{Frame}
use Rattle.bplist_objects.specs.Framed.{frame_in}
use Rattle.bplist_objects.specs.Units.{units_of}
use Rattle.bplist_keys.specs.declared.sorting.Item.{Item}
use Rattle.bplist_keys.specs.Groups.{item_at}
use Rattle.bplist_keys.specs.KeyTexts.{AreHeld}
use Rattle.bplist_keys.specs.Texts.{HasTextShape, text_units}
use Rattle.bplist_keys.proofs.HeldTexts.{held_in, held_more}
use Rattle.bplist_keys.proofs.Merging.{put_here, put_other}
use Rattle.bplist_keys.proofs.TextUnits.{text_units-head}
use Rattle.bplist_keys.proofs.NamedUnits.{units_count, units_taken}
use Rattle.std.proofs.lemmas.List.Sums.{sum_by-take-le}
use Rattle.bplist_keys.proofs.key_texts.KeyTexts.read.Goals as goal

pub returns-in_default-clause-ready : goal.returns-in_default-clause-ready
returns-in_default-clause-ready g c = λ honest shapes k low.
    let m = g.P.Source.means c.args.src.now in
    let v = c.loop-k.invariant in
    subst (HasTextShape m.octets (frame_in m)) (sym (v.objects k)) (shapes k (omega (arith, low, v.all)))

pub returns-then-head-saturating_sub-clause-ready : goal.returns-then-head-saturating_sub-clause-ready
returns-then-head-saturating_sub-clause-ready g c = λ honest shapes k low.
    let m = g.P.Source.means c.args.src.now in
    let v = c.loop-k.invariant in
    subst (HasTextShape m.octets (frame_in m)) (sym (v.objects k)) (shapes k (omega (arith, low, v.all)))

pub returns-in_default-clause-fits : goal.returns-in_default-clause-fits
returns-in_default-clause-fits g c = λ honest shapes few total.
    let m = g.P.Source.means c.args.src.now in
    let v = c.loop-k.invariant in
    let k = c.loop-k.k in
    absurd ((rw (v.same, c.in_default.is) at c.in_ok-head.ensures.exact) honest (subst (HasTextShape m.octets (frame_in m)) (sym (v.objects k)) (shapes k (omega (arith, c.loop-k-test.true, v.all)))))

pub returns-then-head-saturating_sub-clause-fits : goal.returns-then-head-saturating_sub-clause-fits
returns-then-head-saturating_sub-clause-fits g c = λ honest shapes few total.
    let m = g.P.Source.means c.args.src.now in
    let f = m.octets in
    let F : Frame = frame_in m in
    let v = c.loop-k.invariant in
    let k = c.loop-k.k in
    let xs = c.args.items.now in
    let has = (rw (v.same, c.in-Some.is) at c.in_ok-head.ensures.exact) honest in
    let safe = (rw (v.same, c.in-Some.is) at c.in_ok-head.ensures.safe) in
    let size = units_count f F (item_at c.loop-k.items k).object c.in-Some.head has safe in
    let same : length (text_units f F (item_at c.loop-k.items k).object) ≡ length (text_units f F (item_at xs k).object) = ap (λ j. length (text_units f F j)) (v.objects k) in
    let taken = units_taken f F xs k (omega (arith, c.loop-k-test.true, v.all)) in
    let part = sum_by-take-le (λ (x : Item). length (text_units f F x.object)) xs (k + 1) in
    let long : c.len.result ≡ length c.loop-k.texts.units.items = grind (arith, common_steps) in
    absurd (omega (arith, v.counted honest shapes, c.if-head-saturating_sub.true, c.saturating_sub.ensures, long, c.len-room.ensures, size, same, taken, part, total))

pub loop-k-preserved : goal.loop-k-preserved
loop-k-preserved g c =
    let m = g.P.Source.means c.args.src.now in
    let f = m.octets in
    let F : Frame = frame_in m in
    let v = c.loop-k.invariant in
    let k = c.loop-k.k in
    let xs = c.loop-k.items in
    let own = item_at xs k in
    let head = c.in-Some.head in
    let pushed = c.in_ok-push-2.ensures in
    let x : Item = record { object = own.object; group = k; number = own.number } in
    let room : k < length xs = omega (arith, c.loop-k-test.true, v.all) in
    record {
      same = pushed.reads ∙ c.in_ok-head.ensures.reads ∙ v.same;
      within =
          (let long : c.len.result ≡ length c.loop-k.texts.units.items = grind (arith, common_steps) in
          omega (arith, pushed.more, c.if-head-saturating_sub.false, c.saturating_sub.ensures, long, c.len-room.ensures, v.within));
      asked = omega (arith, v.asked, pushed.more, pushed.asks, c.in_ok-head.ensures.asks);
      counted = λ honest shapes.
          let has = (rw (v.same, c.in-Some.is) at c.in_ok-head.ensures.exact) honest in
          let safe = (rw (v.same, c.in-Some.is) at c.in_ok-head.ensures.safe) in
          let size = units_count f F own.object head has safe in
          let same : length (text_units f F own.object) ≡ length (text_units f F (item_at c.args.items.now k).object) = ap (λ j. length (text_units f F j)) (v.objects k) in
          omega (arith, v.counted honest shapes, pushed.more, size, same, units_taken f F c.args.items.now k (omega (arith, room, v.all)));
      all = length-set xs k x ∙ v.all;
      objects = λ j. elim (cases_eq j k) [
        | inl e ↦ rw (e, put_here xs k x room) (v.objects k)
        | inr d ↦ ap (λ (y : Item). y.object) (put_other xs k j x d) ∙ v.objects j
      ];
      held = λ honest shapes.
          let has = (rw (v.same, c.in-Some.is) at c.in_ok-head.ensures.exact) honest in
          let is = text_units-head f F own.object head has in
          let text = (rw (c.in_ok-head.ensures.reads, v.same) at pushed.text) honest in
          held_more (units_of f head) c.loop-k.texts c.push-in-loop-k.new.self text (text_units f F) xs k x room (sym is) refl (v.held honest shapes);
    }

pub returns-clause-ready : goal.returns-clause-ready
returns-clause-ready g c = λ honest shapes.
    let m = g.P.Source.means c.args.src.now in
    let text = text_units m.octets (frame_in m) in
    let v = c.loop-k.invariant in
    let xs = c.loop-k.items in
    let read = v.held honest shapes in
    let held : AreHeld text c.loop-k.texts xs = λ k low. read.held k (omega (arith, low, v.all, c.loop-k-test.false)) in
    λ k low. (
      c.number.ensures.held text (λ j inside. held_in text c.loop-k.texts _ (item_at xs j) refl refl (held j inside)) k low,
      c.number.ensures.fronts text (λ j inside. held_in text c.loop-k.texts _ (item_at xs j) refl refl (held j inside)) (c.common_fronts-texts.ensures text held) k low,
    )
