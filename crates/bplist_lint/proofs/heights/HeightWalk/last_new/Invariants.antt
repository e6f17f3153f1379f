use Rattle.std.proofs.Common.{◌≢◌, ℕ, ◌<◌, ◌≤◌}
use Rattle.bplist_keys.specs.Marks.{IsMarked}
use Rattle.bplist_lint.specs.HeightWalks.{state_at}
use Rattle.bplist_lint.specs.declared.heights.State.TheVariants.{New}
use Rattle.bplist_lint.proofs.heights.HeightWalk.last_new.Given as goal

-- of the objects so far, something is known about each marked one
abbrev pub invariant-loop-n : goal.invariant-loop-n
invariant-loop-n l = (m : ℕ) → l.n ≤ m → m < l.before → IsMarked l.marks m → state_at l.self.states.items m ≢ New
