use Rattle.std.proofs.Common.{◌≡◌, ℕ, ◌+◌, ◌*◌, ◌-◌, ◌<◌, ◌≤◌}
use Rattle.bplist_objects.specs.Framed.{HonestlyIn}
use Rattle.bplist_lint.specs.BitSets.{IsIn, count_in}
use Rattle.bplist_lint.specs.ReachSearch.{AreGood}
use Rattle.bplist_lint.proofs.reach.are_good.Given as goal

abbrev pub invariant-loop-number : goal.invariant-loop-number
invariant-loop-number g l =
    let means = g.P.Source.means in
    record {
      reads : means l.src ≡ means l.fn.src;
      asked : g.P.Source.asked l.src + 8 * count_in l.fn.good.words.items l.fn.good.size ≤ g.P.Source.asked l.fn.src + 8 * count_in l.good.words.items l.fn.good.size;
      size : l.good.size ≡ l.fn.good.size;
      outside : l.number < l.fn.good.size → IsIn l.good.words.items l.number → ⊥;
      from : l.first ≤ l.number;
      good : HonestlyIn (means l.fn.src) (λ f F. AreGood f F l.fn.good.words.items → AreGood f F l.good.words.items);
      known : (k : ℕ) → l.first ≤ k → k < l.number → IsIn l.good.words.items k;
    }

abbrev pub decreases-loop-number : goal.decreases-loop-number
decreases-loop-number g l = l.end - l.number
