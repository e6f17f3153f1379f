use Rattle.std.proofs.Common.{◌≡◌, [], arith}
use Rattle.std.proofs.lemmas.Grind.{common_steps}
use Rattle.bplist_lint.proofs.Walks.{walking_on}
use Rattle.bplist_lint.proofs.walk.visit_from.Goals as goal

pub loop-m-init : goal.loop-m-init
loop-m-init g c =
    let none : c.args.progress.now.worklist.stack.items ≡ [] = grind (arith, common_steps) in
    record {
      reads = c.in_ok-visit.ensures.reads;
      steady = c.in_ok-visit.ensures.steady;
      asked = omega (arith, c.in_ok-visit.ensures.asks, c.in_ok-visit.ensures.one);
      once = omega (arith, c.in_ok-visit.ensures.one, c.in_ok-visit.ensures.worked.work);
      only = c.in_ok-visit.ensures.only;
      current = c.in_ok-visit.ensures.worked.current;
      walking = λ honest marked w. c.in_ok-visit.ensures.walking honest (rw none (walking_on _ _ _ _ _ _ _ w marked));
    }
