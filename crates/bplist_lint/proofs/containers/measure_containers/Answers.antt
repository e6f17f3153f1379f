use Rattle.std.proofs.Common.{◌≡◌, ◌≤◌, ℕ, ◌+◌, ◌*◌, ◌-◌, inl, inr, refl, sym, ◌∙◌, subst, arith}
use Rattle.std.proofs.lemmas.Bool.{false≢true}
use Rattle.std.proofs.lemmas.Grind.{common_steps}
use Rattle.bplist_objects.specs.Framed.{HonestlyIn, frame_in}
use Rattle.bplist_objects.proofs.FrameTies.{numbered}
use Rattle.bplist_objects.proofs.ReachedObjects.{reach_within}
use Rattle.bplist_keys.specs.Classes.{IsNew}
use Rattle.bplist_lint.proofs.ContainerSteps.{AreFinishedFrom, finished_first, finished_more, finished_over, finished_all}
use Rattle.bplist_lint.proofs.KeyClasses.{reached_sound, keys_known}
use Rattle.bplist_lint.specs.ReachRules.{is_marked}
use Rattle.bplist_lint.proofs.RangeSums.{extents_more}
use Rattle.bplist_lint.proofs.KeySteps.{childless_keys}
use Rattle.bplist_lint.specs.ReachWalk.{extents_below}
use Rattle.bplist_lint.proofs.containers.measure_containers.Given.{Over}
use Rattle.bplist_lint.proofs.containers.measure_containers.Goals.{After-container_height, else-marks-n-via-then-marks-n+else-not-childless-n, else-marks-n-via-else-marks-n}
use Rattle.bplist_lint.proofs.containers.measure_containers.Goals as goal

pub loop-n-init : goal.loop-n-init
loop-n-init g c = record {
  reads = refl;
  asked = λ honest. rw c.frame-frame.ensures.frame (omega arith);
  all = refl;
  room = refl;
  same = refl;
  seen = λ none x. inl (none x);
  finished = λ honest named marks kept childless are_named classes none first.
      rw (first, c.frame-frame.ensures.frame) (finished_first _ _ (c.frame-frame.ensures.framed.framed honest) c.args.marks.now c.args.childless.now marks childless);
}

pub loop-n-preserved-then-not-childless-n : goal.loop-n-preserved-then-not-childless-n
loop-n-preserved-then-not-childless-n g c =
    let m = g.P.Source.means c.args.src.now in
    let i = c.loop-n.invariant in
    let n : ℕ = c.loop-n.n - 1 in
    let next : n + 1 ≡ c.loop-n.n = omega (arith, c.loop-n-test.true) in
    record {
      reads = c.in_ok-height.ensures.reads ∙ i.reads;
      asked = λ honest.
          let more = rw (← next) at (i.asked honest) in
          let own = rw c.if-marks-n.true at (extents_more m.octets (frame_in m) (is_marked c.args.marks.now) n) in
          let one = (rw i.reads at c.in_ok-height.ensures.asks) honest in
          omega (arith, more, own, one);
      all = grind (arith, common_steps);
      room = c.container_height.ensures.room ∙ i.room;
      same = c.container_height.ensures.same ∙ i.same;
      seen = λ none x. elim (c.container_height.ensures.stamped x) [
        | inl here ↦ inr (omega (arith, here, next))
        | inr same ↦ elim (i.seen none x) [
          | inl zero ↦ inl (same ∙ zero)
          | inr above ↦ inr (omega (arith, above, same, next))
        ]
      ];
      finished = λ honest named marks kept childless are_named classes none first.
          let framed = c.frame-frame.ensures.framed.framed honest in
          let sound = reached_sound _ _ c.args.marks.now c.requires.marks framed marks kept in
          let r = (marks n).0 c.if-marks-n.true in
          let within = reach_within _ _ (numbered framed).top n r in
          let keys = keys_known _ _ c.args.marks.now named c.args.table.now.classes.table.items n sound classes (are_named n r) within c.if-marks-n.true in
          let new : IsNew c.loop-n.table.seen.items n = λ x e. elim (i.seen none x) [
            | inl zero ↦ absurd (omega (arith, zero, e))
            | inr above ↦ absurd (omega (arith, above, e, next))
          ] in
          let made = rw c.in-Some.is at ((rw (i.reads, i.same) at c.in_ok-height.ensures.exact) honest (sound.kept n c.if-marks-n.true) keys new) in
          let before = subst (AreFinishedFrom _ _ c.args.marks.now c.args.childless.now c.loop-n.heights) (sym next) (i.finished honest named marks kept childless are_named classes none first) in
          finished_more _ _ framed c.args.marks.now c.args.childless.now marks c.loop-n.heights n c.in-Some.height (omega (arith, within, i.all, c.requires.heights)) c.if-marks-n.true made.0 made.1 before;
    }

pub loop-n-preserved : goal.loop-n-preserved
loop-n-preserved g c =
    let m = g.P.Source.means c.args.src.now in
    let i = c.loop-n.invariant in
    let n : ℕ = c.loop-n.n - 1 in
    let next : n + 1 ≡ c.loop-n.n = omega (arith, c.loop-n-test.true) in
    record {
      reads = i.reads;
      asked = λ honest.
          let more = rw (← next) at (i.asked honest) in
          let over = extents_more m.octets (frame_in m) (is_marked c.args.marks.now) n in
          omega (arith, more, over);
      all = i.all;
      room = i.room;
      same = i.same;
      seen = λ none x. elim (i.seen none x) [ inl zero ↦ inl zero | inr above ↦ inr (omega (arith, above, next)) ];
      finished = λ honest named marks kept childless are_named classes none first.
          let framed = c.frame-frame.ensures.framed.framed honest in
          let before = subst (AreFinishedFrom _ _ c.args.marks.now c.args.childless.now c.loop-n.heights) (sym next) (i.finished honest named marks kept childless are_named classes none first) in
          elim c.else-marks-n.branch [
            | else-marks-n-via-then-marks-n+else-not-childless-n w ↦
                let sound = reached_sound _ _ c.args.marks.now c.requires.marks framed marks kept in
                let within = reach_within _ _ (numbered framed).top n ((marks n).0 w.if-marks-n.true) in
                finished_over _ _ framed c.args.marks.now c.args.childless.now marks c.loop-n.heights n
                (λ r. childless_keys _ _ n framed within (sound.kept n w.if-marks-n.true) (childless n w.if-not-childless-n.false).1)
                (λ _. before.ones n w.if-not-childless-n.false) before
            | else-marks-n-via-else-marks-n w ↦
                finished_over _ _ framed c.args.marks.now c.args.childless.now marks c.loop-n.heights n
                (λ r. absurd (false≢true (sym w.if-marks-n.false ∙ (marks n).1 r)))
                (λ is. absurd (false≢true (sym w.if-marks-n.false ∙ is))) before
          ];
    }

pub returns-clause-exact : goal.returns-clause-exact
returns-clause-exact g c = λ honest named marks kept childless are_named classes none first _.
    let end : c.loop-n.n ≡ 0 = omega (arith, c.loop-n-test.false) in
    finished_all _ _ (c.frame-frame.ensures.framed.framed honest) c.args.marks.now c.args.childless.now marks _ (rw end at (c.loop-n.invariant.finished honest named marks kept childless are_named classes none first))

-- what was asked for with one more container
asked : (g : Over) (c : After-container_height g) → HonestlyIn (g.P.Source.means c.args.src.now) (λ f F. g.P.Source.asked c.container_height.new.src
    ≤ g.P.Source.asked c.args.src.now + (36 * F.objects + extents_below f F (is_marked c.args.marks.now) F.objects))
asked g c honest =
    let m = g.P.Source.means c.args.src.now in
    let i = c.loop-n.invariant in
    let n : ℕ = c.loop-n.n - 1 in
    let next : n + 1 ≡ c.loop-n.n = omega (arith, c.loop-n-test.true) in
    let more = rw (← next) at (i.asked honest) in
    let own = rw c.if-marks-n.true at (extents_more m.octets (frame_in m) (is_marked c.args.marks.now) n) in
    omega (arith, more, own, (rw i.reads at c.container_height.ensures.asks) honest)

pub returns-in_err-height-clause-asks : goal.returns-in_err-height-clause-asks
returns-in_err-height-clause-asks g c = asked g (goal.at.returns-in_err-height-clause-asks g c).After-container_height

pub returns-in-None-clause-asks : goal.returns-in-None-clause-asks
returns-in-None-clause-asks g c = asked g (goal.at.returns-in-None-clause-asks g c).After-container_height
