use Rattle.std.proofs.Common.{arith, ◌∙◌, inl, inr}
use Rattle.std.proofs.lemmas.Grind.{common_steps}
use Rattle.std.proofs.lemmas.Bool.{cases_eq, cases_lt}
use Rattle.bplist_lint.proofs.ReachSteps.{marked_within}
use Rattle.bplist_lint.proofs.HeightSteps.{standing_first, walking_first, are_least}
use Rattle.bplist_lint.proofs.heights.least_heights.Goals as goal

pub loop-n-init : goal.loop-n-init
loop-n-init g c = record {
  same = cc;
  reads = cc;
  inside = omega arith;
  rests = record {
    empty = c.in_ok-walk.ensures.empty;
    standing = rw (c.in_ok-walk.ensures.states, c.in_ok-walk.ensures.heights) (standing_first _ _ c.requires.all_childless);
  };
  sees = λ m h is. absurd (let low = marked_within c.args.marks.now m is in grind (arith, common_steps));
  walking = λ honest closed known. rw (c.in_ok-walk.ensures.states, c.in_ok-walk.ensures.heights) (walking_first _ _ _ known, omega arith);
}

pub loop-n-preserved : goal.loop-n-preserved
loop-n-preserved g c =
    let i = c.loop-n.invariant in
    let found = c.in-Some.ensures in
    let walked = c.in_ok-settle_from.ensures in
    record {
      same = c.settle_from.ensures.same ∙ i.same;
      reads = walked.reads ∙ i.reads;
      inside = omega (arith, found.0, i.inside);
      rests = rw i.same at walked.rests;
      sees = λ m h is. elim (cases_eq m c.in-Some.n) [
        | inl e ↦ rw e walked.settles.sees
        | inr ne ↦ walked.settles.keeps m (elim (cases_lt m c.loop-n.before) [
          | inl early ↦ found.2 m (omega (arith, h, ne)) early is
          | inr late ↦ i.sees m late is
        ])
      ];
      walking = λ honest closed known.
          let before = i.walking honest closed known in
          let step = (rw (i.same, i.reads) at walked.walks) honest _ closed found.1 before.0 in
          (step.0, omega (arith, before.1, step.1));
    }

pub returns-clause-exact : goal.returns-clause-exact
returns-clause-exact g c = λ honest closed known.
    let i = c.loop-n.invariant in
    are_least _ _ _ _ _ i.rests.standing (i.walking honest closed known).0 (λ m is. elim (cases_lt m c.loop-n.before) [
      | inl early ↦ c.in_default.ensures m early is
      | inr late ↦ i.sees m late is
    ])
