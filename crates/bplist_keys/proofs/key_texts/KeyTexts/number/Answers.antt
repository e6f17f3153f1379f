use Rattle.std.proofs.Common.{◌<◌, length, arith, inl, inr, ◌∙◌, ap}
use Rattle.std.proofs.lemmas.Bool.{cases_eq}
use Rattle.std.proofs.lemmas.List.{length-set}
use Rattle.bplist_keys.specs.declared.sorting.Item.{Item}
use Rattle.bplist_keys.specs.Groups.{item_at}
use Rattle.bplist_keys.proofs.Merging.{put_here, put_other}
use Rattle.bplist_keys.proofs.key_texts.KeyTexts.number.Goals as goal

pub loop-k-preserved : goal.loop-k-preserved
loop-k-preserved c =
    let v = c.loop-k.invariant in
    let k = c.loop-k.k in
    let xs = c.loop-k.items in
    let own = item_at xs k in
    let x : Item = record { object = own.object; group = own.group; number = c.of.result } in
    let room : k < length xs = omega (arith, c.loop-k-test.true, v.all) in
    record {
      all = length-set xs k x ∙ v.all;
      same = λ j. elim (cases_eq j k) [
        | inl e ↦ rw (e, put_here xs k x room) (v.same k)
        | inr d ↦ ap (λ (y : Item). y.object) (put_other xs k j x d) ∙ v.same j
      ];
      held = λ text held j low. elim (cases_eq j k) [
        | inl e ↦
            let h = v.held text held k room in
            rw (e, put_here xs k x room) (record { inside = h.inside; order = h.order; within = h.within; units = h.units })
        | inr d ↦ rw (put_other xs k j x d) (v.held text held j (omega (arith, low, length-set xs k x)))
      ];
      fronts = λ text held fits j low. elim (cases_eq j k) [
        | inl e ↦
            let is = c.text.ensures text (v.held text held k room) in
            let fit = fits k (omega (arith, room, v.all)) in
            rw (e, put_here xs k x room) ((rw is at c.of.ensures) c.args.self.now.units.items (rw (v.same k) fit))
        | inr d ↦ rw (put_other xs k j x d) (v.fronts text held fits j (omega (arith, low, d)))
      ];
    }
