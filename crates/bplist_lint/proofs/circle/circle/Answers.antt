use Rattle.std.proofs.Common.{◌≡◌, ◌<◌, ◌≤◌, ◌+◌, ℕ, Bool, List, IsTrue, arith, rules, inl, inr, length, replicate, false, sym, ◌∙◌}
use Rattle.std.proofs.lemmas.List.{get_or_read}
use Rattle.bplist_lint.proofs.TrailSteps.{fewer_left, numbers_named, trail_none, trail_more, leading_more, leading_start, is_circle, is_next, founded_all}
use Rattle.bplist_lint.proofs.HeightCosts.{trail_on, trail_marked, trail_step, trail_zero}
use Rattle.bplist_lint.proofs.MarkSteps.{fresh-set, none_marked}
use Rattle.bplist_keys.specs.Marks.{IsMarked}
use Rattle.bplist_lint.specs.Graph.{AreWhole, Reaches}
use Rattle.bplist_lint.specs.Trail.{trail_bytes}
use Rattle.bplist_lint.proofs.circle.circle.Given.{Over}
use Rattle.bplist_lint.proofs.circle.circle.Goals as goal
use Rattle.bplist_lint.proofs.circle.circle.Goals.{After-tail, else-walk-test, then-walk-test+in_ok-push+in_ok-m+in-None}

pub walk-init : goal.walk-init
walk-init g c =
    let all_new : c.in_ok-met.met.items ≡ replicate (length c.args.heights.now) false = search rules in
    record {
      same = cc;
      reads = cc;
      inside = c.requires.top;
      placed = rw (all_new, c.in_ok-trail.ensures.items, ← c.requires.all_heights) (trail_none _);
      leading = λ honest whole. rw c.in_ok-trail.ensures.items (leading_start _ _ _ (c.requires.heights honest) c.requires.circular);
      asked = λ honest whole. rw all_new (λ n is. absurd (none_marked _ n is), omega (arith, trail_zero (g.R.References.graph c.args.graph.now) (length c.args.heights.now)));
    }

pub walk-preserved : goal.walk-preserved
walk-preserved g c =
    let p = c.walk.invariant.placed in
    let first = rw c.in-Some.is at (rw (c.walk.invariant.same, c.walk.invariant.reads) at c.in_ok-m.ensures.first) in
    let inside = rw c.in-Some.is at (rw c.walk.invariant.same at c.in_ok-m.ensures.inside) in
    let new = sym (get_or_read c.walk.met.items c.walk.x c.index.result.now (omega (arith, p.all_met, c.walk.invariant.inside)) c.index.ensures false) ∙ c.walk-test.true in
    record {
      same = c.in_ok-m.ensures.same ∙ c.walk.invariant.same;
      reads = c.in_ok-m.ensures.reads ∙ c.walk.invariant.reads;
      inside = inside;
      placed = rw c.in_ok-push.ensures.items (trail_more _ _ _ _ p c.walk.invariant.inside new);
      leading = λ honest whole.
          let l = c.walk.invariant.leading honest whole in
          let n = is_next _ _ _ _ _ (c.requires.heights honest) l.reached (first honest (whole _ l.reached)) in
          rw c.in_ok-push.ensures.items (leading_more _ _ _ _ _ l n.0 n.1);
      asked = λ honest whole.
          let l = c.walk.invariant.leading honest whole in
          let a = c.walk.invariant.asked honest whole in
          let one = (rw (c.walk.invariant.same, c.walk.invariant.reads) at c.in_ok-m.ensures.asks) honest (whole _ l.reached) in
          let more = trail_on (g.R.References.graph c.args.graph.now) c.walk.met.items c.walk.x c.walk.invariant.inside p.all_met new in
          (λ n is. elim (fresh-set c.walk.met.items c.walk.x n is) [ inl old ↦ a.0 n old | inr e ↦ rw e l.reached ], omega (arith, a.1, one, more));
    }

pub returns-clause-circle : goal.returns-clause-circle
returns-clause-circle g c = λ honest whole.
    let l = c.walk.invariant.leading honest whole in
    elim c.walk-test.branch [
      | else-walk-test w ↦
          let at_index = rw (c.deref.ensures.value, w.trail-is) at c.index_in-index.ensures in
          let objects = rw (c.tail.ensures, c.deref-2.ensures.value, w.trail-is) at c.in_ok-named.ensures in
          rw (objects, numbers_named) (is_circle _ _ _ _ _ _ _ c.walk.invariant.placed l at_index)
      | then-walk-test+in_ok-push+in_ok-m+in-None w ↦
          let have = (rw w.in-None.is at (rw (c.walk.invariant.same, c.walk.invariant.reads) at w.in_ok-m.ensures.first)) honest (whole _ l.reached) in
          absurd (l.not_founded (founded_all _ _ _ _ (c.requires.heights honest) have))
    ]

pub walk-smaller : goal.walk-smaller
walk-smaller g c =
    let within : c.walk.x < length c.walk.met.items = omega (arith, c.walk.invariant.placed.all_met, c.walk.invariant.inside) in
    fewer_left _ _ within (sym (get_or_read c.walk.met.items c.walk.x c.index.result.now within c.index.ensures false) ∙ c.walk-test.true)

pub returns-in_err-push-clause-asks : goal.returns-in_err-push-clause-asks
returns-in_err-push-clause-asks g c = λ honest whole marks are.
    let a = c.walk.invariant.asked honest whole in
    omega (arith, a.1, trail_marked (g.R.References.graph c.args.graph.now) c.walk.met.items marks (λ n is. are n (a.0 n is)))

pub returns-in_err-m-clause-asks : goal.returns-in_err-m-clause-asks
returns-in_err-m-clause-asks g c = λ honest whole marks are.
    let i = c.walk.invariant in
    let l = i.leading honest whole in
    let a = i.asked honest whole in
    let met = c.walk.met.items in
    let new = sym (get_or_read met c.walk.x c.index.result.now (omega (arith, i.placed.all_met, i.inside)) c.index.ensures false) ∙ c.walk-test.true in
    let one = (rw (i.same, i.reads) at c.first_without.ensures.asks) honest (whole _ l.reached) in
    trail_step (g.R.References.graph c.args.graph.now) met marks c.walk.x _ _ _ i.inside i.placed.all_met new (λ n is. are n (a.0 n is)) (are _ l.reached) a.1 one

-- what was asked for after the walk, however it ended
asked : (g : Over) (c : After-tail g) → IsTrue (g.R.References.means c.args.graph.now).honest → AreWhole (g.R.References.graph c.args.graph.now) c.args.top → (marks : List Bool) → ((n : ℕ) → Reaches (g.R.References.graph c.args.graph.now).refs c.args.top n → IsMarked marks n)
    → g.R.References.asked c.walk-test.graph ≤ g.R.References.asked c.args.graph.now + trail_bytes (g.R.References.graph c.args.graph.now) marks
asked g c honest whole marks are =
    let i = c.walk.invariant in
    let a = i.asked honest whole in
    elim c.walk-test.branch [
      | else-walk-test w ↦ rw w.graph-is (omega (arith, a.1, trail_marked (g.R.References.graph c.args.graph.now) c.walk.met.items marks (λ n is. are n (a.0 n is))))
      | then-walk-test+in_ok-push+in_ok-m+in-None w ↦
          let l = i.leading honest whole in
          let met = c.walk.met.items in
          let new = sym (get_or_read met c.walk.x c.index.result.now (omega (arith, i.placed.all_met, i.inside)) c.index.ensures false) ∙ w.walk-test.true in
          let one = (rw (i.same, i.reads) at w.in_ok-m.ensures.asks) honest (whole _ l.reached) in
          rw w.graph-is (trail_step (g.R.References.graph c.args.graph.now) met marks c.walk.x _ _ _ i.inside i.placed.all_met new (λ n is. are n (a.0 n is)) (are _ l.reached) a.1 one)
    ]

pub returns-in_err-named-clause-asks : goal.returns-in_err-named-clause-asks
returns-in_err-named-clause-asks g c = asked g (goal.at.returns-in_err-named-clause-asks g c).After-tail

pub returns-clause-asks : goal.returns-clause-asks
returns-clause-asks g c = asked g (goal.at.returns-clause-asks g c).After-tail
