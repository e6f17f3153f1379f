use Rattle.std.proofs.Common.{arith, ◌≡◌, ◌<◌, length, refl, subst, inl, inr, false, true, sym, ◌∙◌}
use Rattle.std.proofs.lemmas.Bool.{cases_lt}
use Rattle.bplist_cursor.proofs.DigitSteps.{IsReading, not_empty, no_leading_zero, no_other, not_so_large, read_whole}
use Rattle.bplist_cursor.proofs.steps.index_of.Goals as goal
use Rattle.bplist_cursor.proofs.steps.index_of.Goals.{then-is_empty-via-then-is_empty, then-is_empty-via-else-is_empty+then-has_leading_zero, then-unit-lt-ZERO-via-then-unit-lt-ZERO, then-unit-lt-ZERO-via-else-unit-lt-ZERO+then-unit-gt-NINE}

pub returns-then-is_empty : goal.returns-then-is_empty
returns-then-is_empty c = λ i h e. elim c.then-is_empty.branch [
  | then-is_empty-via-then-is_empty w ↦ not_empty i c.args.step.now (omega (arith, h, c.ranges.count)) e (grind (arith, w.if-is_empty.ensures))
  | then-is_empty-via-else-is_empty+then-has_leading_zero w ↦
      let zero = w.has_leading_zero.ensures.0 w.if-has_leading_zero.true in
      no_leading_zero i c.args.step.now (omega (arith, h, c.ranges.count)) e zero.1 zero.0
]

pub returns-then-unit-lt-ZERO : goal.returns-then-unit-lt-ZERO
returns-then-unit-lt-ZERO c = λ i h e.
    no_other i c.loop-unit.unit-index c.args.step.now (omega (arith, h, c.ranges.count)) e c.loop-unit-test.true (elim c.then-unit-lt-ZERO.branch [
      | then-unit-lt-ZERO-via-then-unit-lt-ZERO w ↦ inl w.if-unit-lt-ZERO.true
      | then-unit-lt-ZERO-via-else-unit-lt-ZERO+then-unit-gt-NINE w ↦ inr w.if-unit-gt-NINE.true
    ])

pub returns-then-next-count : goal.returns-then-next-count
returns-then-next-count c = λ i h e.
    not_so_large i c.loop-unit.unit-index c.args.count c.loop-unit.index _ c.args.step.now (omega (arith, h, c.ranges.count)) e c.loop-unit.invariant c.loop-unit-test.true refl (omega arith) h

pub returns : goal.returns
returns c =
    let end : c.loop-unit.unit-index ≡ length c.args.step.now = omega arith in
    let some : 0 < length c.args.step.now = grind (arith, c.if-is_empty.ensures) in
    read_whole c.args.step.now c.args.count c.loop-unit.index (omega (arith, c.ranges.count)) (subst (λ i. IsReading c.args.step.now c.args.count i c.loop-unit.index) end c.loop-unit.invariant)
    some (λ e. elim (cases_lt 1 (length c.args.step.now)) [
      | inl long ↦ let h : false ≡ true = sym c.if-has_leading_zero.false ∙ c.has_leading_zero.ensures.1 (long, e) in absurd (cc)
      | inr short ↦ omega (arith, short, some)
    ])
