use Rattle.std.proofs.Common.{arith, inl, inr}
use Rattle.std.proofs.lemmas.Bool.{cases_lt}
use Rattle.bplist_lint.proofs.BitSets.{full_word}
use Rattle.bplist_lint.proofs.bit_set.first_outside.Goals as goal

pub loop-i-preserved-then-word : goal.loop-i-preserved-then-word
loop-i-preserved-then-word c =
    let i = c.loop-i.invariant in
    record {
      from = omega (arith, i.from);
      before = λ k low high. elim (cases_lt k c.loop-i.i) [
        | inl first ↦ i.before k low first
        | inr later ↦ full_word c.args.words.now _ c.if-word.true k (omega (arith, later, high))
      ];
    }
