use Rattle.std.proofs.Common.{sym, ◌∙◌, inl, inr, Less, Equal, Greater}
use Rattle.std.proofs.lemmas.Bool.{cases_order}
use Rattle.std.specs.Cmp.{nat_cmp_is}
use Rattle.bplist_objects.proofs.UnitOrder.{compare_units-less, ne_not_equal}
use Rattle.bplist_keys.proofs.FrontLaws.{front_less}
use Rattle.bplist_keys.proofs.key_texts.KeyTexts.compare.Goals as goal

pub returns-then-is_ne : goal.returns-then-is_ne
returns-then-is_ne c = λ text first second front front_2.
    let m = c.args.first.now.number in
    let n = c.args.second.now.number in
    let units = c.args.self.now.units.items in
    let fronts = c.args.self.now.fronts in
    let us = text c.args.first.now.object in
    let vs = text c.args.second.now.object in
    elim (cases_order m n) [
      | inl same ↦ absurd (ne_not_equal c.cmp-order.result (sym c.if-is_ne.ensures) (c.cmp-order.ensures ∙ sym (nat_cmp_is m n Equal same)))
      | inr apart ↦ elim apart [
        | inl low ↦ c.cmp-order.ensures ∙ sym (nat_cmp_is m n Less low) ∙ sym (front_less units fronts us vs m n front front_2 low)
        | inr high ↦ c.cmp-order.ensures ∙ sym (nat_cmp_is m n Greater high) ∙ sym (compare_units-less vs us (front_less units fronts vs us n m front_2 front high))
      ]
    ]

pub returns : goal.returns
returns c = λ text first second front front_2. (rw (c.text.ensures text first, c.text-2.ensures text second) at c.cmp.ensures)
