use Rattle.std.proofs.Common.{◌≡◌, ℕ, ◌<◌, get_or}
use Rattle.bplist_objects.specs.Scan.{nth_number}
use Rattle.bplist_objects.proofs.numbers.spell_block.Given as goal

-- the numbers so far are those of the block
abbrev pub invariant-loop-k : goal.invariant-loop-k
invariant-loop-k g l = (k : ℕ) (d : _) → k < l.k → g.T.Spelled.means (get_or l.into k d) ≡ g.T.Spelled.cut (nth_number l.block 0 l.size k)
