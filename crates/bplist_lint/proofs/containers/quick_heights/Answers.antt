use Rattle.std.proofs.Common.{◌≡◌, length, arith}
use Rattle.std.proofs.lemmas.Grind.{common_steps}
use Rattle.std.proofs.lemmas.List.{with_items_is}
use Rattle.bplist_lint.proofs.ContainerSteps.{finished_keys, finished_least}
use Rattle.bplist_lint.proofs.containers.quick_heights.Goals.{then-all, else-all}
use Rattle.bplist_lint.proofs.containers.quick_heights.Goals as goal

pub returns-clause-exact : goal.returns-clause-exact
returns-clause-exact g c = λ honest named marks kept childless are_named classes.
    let framed = c.frame-frame.ensures.framed.framed honest in
    elim c.if-all.branch [
      | then-all w ↦
          let heights = c.measure_containers.new.heights in
          let done = (rw (c.in_ok-table.ensures.classes, c.deref_mut.ensures.value) at c.in_ok-all.ensures.exact) honest named marks kept childless are_named classes c.in_ok-table.ensures.none c.in_ok-heights.ensures w.if-all.true in
          let long : length heights ≡ c.in_ok-heights.heights.len = grind (arith, common_steps) in
          let least = finished_least _ _ framed c.args.marks.now c.args.childless.now marks kept heights done in
          rw (w.found-is, with_items_is c.in_ok-heights.heights heights long) (finished_keys _ _ framed c.args.marks.now c.args.childless.now marks heights done, (least.0, omega (arith, least.1)))
      | else-all w ↦ rw w.found-is tt
    ]
