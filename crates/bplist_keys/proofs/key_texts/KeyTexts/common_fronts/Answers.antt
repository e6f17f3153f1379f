use Rattle.std.proofs.Common.{arith, inl, inr}
use Rattle.std.proofs.lemmas.Bool.{cases_eq}
use Rattle.bplist_keys.specs.Groups.{item_at}
use Rattle.bplist_keys.proofs.FrontLaws.{fits_fewer}
use Rattle.bplist_keys.proofs.key_texts.KeyTexts.common_fronts.Goals as goal

pub loop-k-preserved : goal.loop-k-preserved
loop-k-preserved c =
    let v = c.loop-k.invariant in
    let xs = c.args.items.now in
    let first = c.args.self.now.units.items in
    let k = c.loop-k.k in
    let one = c.with-fronts.ensures in
    record {
      fits = λ text held j low. elim (cases_eq j k) [
        | inl e ↦ rw (e, ← c.text.ensures text (held k c.loop-k-test.true)) (rw c.deref.ensures.value at one.fits)
        | inr d ↦ fits_fewer first c.loop-k.fronts c.with-fronts.result (text (item_at xs j).object) one.shared one.narrow (v.fits text held j (omega (arith, low, d)))
      ];
    }
