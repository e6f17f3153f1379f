use Rattle.std.proofs.Common.{◌≡◌, ◌↔◌, ℕ, ◌+◌, ◌*◌, ◌≤◌, Bool, List, slice_index, IsTrue, None}
use Rattle.bplist_objects.specs.Framed.{HonestlyIn}
use Rattle.bplist_objects.specs.Reach.{Reach}
use Rattle.bplist_keys.specs.Marks.{IsMarked}
use Rattle.bplist_keys.specs.Ranks.{AreClasses}
use Rattle.bplist_lint.specs.ReferenceGraph.{AreChildless}
use Rattle.bplist_cert.specs.CheckRules.{key_rules}
use Rattle.bplist_lint.specs.ReachRules.{KeepReached, is_marked, reach_rules}
use Rattle.bplist_lint.specs.ReachWalk.{AreNamed, extents_below}
use Rattle.bplist_lint.proofs.key_rules.check_numbers.Given as goal

abbrev pub invariant-loop-n : goal.invariant-loop-n
invariant-loop-n g l =
    let m = g.P.Source.means l.fn.src in
    record {
      reads : g.P.Source.means l.src ≡ m;
      asked : HonestlyIn m (λ f F. g.P.Source.asked l.src ≤ g.P.Source.asked l.fn.src + 36 * l.n + extents_below f F (is_marked l.marks) l.n);
      same : l.table.classes.table.items ≡ l.initial.table.classes.table.items;
      low : IsTrue m.honest → (x : ℕ) → slice_index l.table.seen.items x ≤ l.n;
      exact : HonestlyIn m (λ f F. (named : List Bool) → ((n : ℕ) → IsMarked l.marks n ↔ Reach f F n) → KeepReached f F reach_rules F.objects → AreChildless f F l.childless
          → AreNamed f F named → AreClasses f F named l.fn.numbers.table.items → KeepReached f F (key_rules None) l.n);
    }
