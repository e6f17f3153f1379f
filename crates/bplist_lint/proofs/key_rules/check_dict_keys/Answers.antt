use Rattle.std.proofs.Common.{◌≤◌, ◌+◌, None, refl, inr, arith}
use Rattle.bplist_objects.specs.Framed.{HonestlyIn, frame_in}
use Rattle.bplist_cert.proofs.TextObjects.{shape_kept}
use Rattle.bplist_cert.proofs.CheckSteps.{object_refused, on_err}
use Rattle.bplist_cert.proofs.KeyRepeats.{keys_inside, good_at, classed_texts, apart_differ}
use Rattle.bplist_objects.proofs.HeadTies.{announced_shape}
use Rattle.bplist_lint.proofs.ExtentBytes.{keys_bytes}
use Rattle.bplist_lint.proofs.KeyClasses.{wrong_fault}
use Rattle.bplist_lint.specs.ReachWalk.{extent}
use Rattle.bplist_lint.proofs.key_rules.check_dict_keys.Given.{Over}
use Rattle.bplist_lint.proofs.key_rules.check_dict_keys.Goals.{After-first_wrong}
use Rattle.bplist_lint.proofs.key_rules.check_dict_keys.Goals as goal

pub returns-in_err-head-clause-exact : goal.returns-in_err-head-clause-exact
returns-in_err-head-clause-exact g c = λ honest kept keys low.
    on_err _ _ _ _ c.from_residual.ensures.1 (object_refused _ _ c.in_err-head.field-0.0 (λ fault h. absurd (shape_kept (g.P.Source.means c.args.src.now).octets _ c.args.n fault kept h)) (c.in_err-head.ensures.rules honest))

pub returns-in-None-clause-exact : goal.returns-in-None-clause-exact
returns-in-None-clause-exact g c = λ honest kept keys low.
    let framed = c.frame-frame.ensures.framed.framed honest in
    let n = c.args.n in
    let head = c.in_ok-head.head in
    let classes = c.args.table.now.classes.table.items in
    let has = (c.in_ok-head.ensures.rules honest).0 in
    let known = keys head has c.in-Dict.is in
    let inside = keys_inside _ _ n kept head has c.in-Dict.is in
    let good = (rw (c.in_ok-head.ensures.reads, c.in-None.is) at c.in_ok-first_wrong-in-Dict.ensures.exact) honest low in
    good_at _ _ None n head has (λ _. (classed_texts _ _ head classes known.0 framed known.1 inside head.count (omega arith) good.0, apart_differ _ _ head classes known.0 head.count (omega arith) good.1))

pub returns-in-Some-clause-exact : goal.returns-in-Some-clause-exact
returns-in-Some-clause-exact g c = λ honest kept keys low.
    let framed = c.frame-frame.ensures.framed.framed honest in
    let n = c.args.n in
    let head = c.in_ok-head.head in
    let classes = c.args.table.now.classes.table.items in
    let has = (c.in_ok-head.ensures.rules honest).0 in
    let known = keys head has c.in-Dict.is in
    let inside = keys_inside _ _ n kept head has c.in-Dict.is in
    let wrong = (rw (c.in_ok-head.ensures.reads, c.in-Some.is) at c.in_ok-first_wrong-in-Dict.ensures.exact) honest low in
    wrong_fault _ _ framed head classes known.0 known.1 inside (record { 0 = n }) has c.in-Dict.is c.in-Some.wrong c.fault.result wrong (rw (c.in_ok-first_wrong-in-Dict.ensures.reads, c.in_ok-head.ensures.reads) at c.fault.ensures)

pub returns-in_default : goal.returns-in_default
returns-in_default g c = record {
  reads = c.in_ok-head.ensures.reads;
  asks = λ honest. omega (arith, c.in_ok-head.ensures.asks);
  same = refl;
  stamped = λ x. inr refl;
  exact = λ honest kept keys new.
      good_at (g.P.Source.means c.args.src.now).octets (frame_in (g.P.Source.means c.args.src.now)) None c.args.n c.in_ok-head.head (c.in_ok-head.ensures.rules honest).0 (λ dict. absurd (c.in_default.not-Dict dict));
}

-- what was asked for with the keys
asked : (g : Over) (c : After-first_wrong g) → HonestlyIn (g.P.Source.means c.args.src.now) (λ f F. g.P.Source.asked c.first_wrong.new.src ≤ g.P.Source.asked c.args.src.now + (36 + extent f F c.args.n))
asked g c honest =
    let framed = c.frame-frame.ensures.framed in
    let head = c.in_ok-head.head in
    let has = c.in_ok-head.ensures.rules honest in
    let shape = announced_shape _ _ c.args.n (framed.framed honest) c.requires head has.0 has.1 in
    omega (arith, c.in_ok-head.ensures.asks, rw c.in_ok-head.ensures.reads at c.first_wrong.ensures.asks, keys_bytes _ _ c.args.n head framed.safe.safe.ref_low c.in-Dict.is shape)

pub returns-in_err-first_wrong-in-Dict-clause-asks : goal.returns-in_err-first_wrong-in-Dict-clause-asks
returns-in_err-first_wrong-in-Dict-clause-asks g c = asked g (goal.at.returns-in_err-first_wrong-in-Dict-clause-asks g c).After-first_wrong

pub returns-in-None-clause-asks : goal.returns-in-None-clause-asks
returns-in-None-clause-asks g c = asked g (goal.at.returns-in-None-clause-asks g c).After-first_wrong

pub returns-in-Some-clause-asks : goal.returns-in-Some-clause-asks
returns-in-Some-clause-asks g c = asked g (goal.at.returns-in-Some-clause-asks g c).After-first_wrong
