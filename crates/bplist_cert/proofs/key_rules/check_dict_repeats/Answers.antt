use Rattle.std.proofs.Common.{◌≡◌, None, refl, inl, inr, ap, subst, ◌∙◌, arith}
use Rattle.bplist_objects.specs.declared.frame.Frame.{Frame}
use Rattle.bplist_objects.specs.declared.head.Head.{Head}
use Rattle.bplist_objects.specs.Framed.{frame_in}
use Rattle.bplist_objects.proofs.BodyLaws.{HasHead-unique}
use Rattle.bplist_cert.proofs.AskedBytes.{keys_within}
use Rattle.bplist_cert.specs.Looks.{KeepBeforeKeysBelow}
use Rattle.bplist_cert.proofs.TextObjects.{shape_kept}
use Rattle.bplist_cert.proofs.CheckSteps.{object_refused, on_err}
use Rattle.bplist_cert.proofs.KeyRepeats.{none_there, keys_inside, seen_own, sound_keys, good_at, classed_texts, apart_differ, twice_fault}
use Rattle.bplist_cert.proofs.key_rules.check_dict_repeats.Goals as goal

pub returns-in_err-head-clause-exact : goal.returns-in_err-head-clause-exact
returns-in_err-head-clause-exact g c = λ honest low vouched seen classed stamps learnt.
    let kept = seen_own _ _ c.args.seen.now.heights.now c.args.n (seen c.args.n low vouched) in
    on_err _ _ _ _ c.from_residual.ensures.1 (object_refused _ _ c.in_err-head.field-0.0 (λ fault h. absurd (shape_kept _ _ c.args.n fault kept h)) (c.in_err-head.ensures.rules honest))

pub returns-then-seen-frame-clause-exact : goal.returns-then-seen-frame-clause-exact
returns-then-seen-frame-clause-exact g c = λ honest low vouched seen classed stamps learnt.
    let f = (g.P.Source.means c.args.src.now).octets in
    let F : Frame = frame_in (g.P.Source.means c.args.src.now) in
    let head = c.in_ok-head.head in
    let has = (c.in_ok-head.ensures.rules honest).0 in
    let heights = c.args.seen.now.heights.now in
    let known = classed head has c.in-Dict.is in
    let found = none_there _ _ c.in_ok-found.found c.is_none.result c.is_none.ensures c.if-is_none.true ((rw c.in_ok-head.ensures.reads at c.in_ok-found.ensures.exact) honest stamps) in
    let whole : c.args.seen.now.bound ≡ F.objects = c.if-seen-frame.true ∙ ap (λ (x : Frame). x.objects) c.frame-frame.ensures.frame in
    let sound = sound_keys f F heights (subst (KeepBeforeKeysBelow f F heights) whole seen) c.args.n c.requires vouched head has c.in-Dict.is in
    let inside = keys_inside f F c.args.n (seen_own f F heights c.args.n (seen c.args.n low vouched)) head has c.in-Dict.is in
    let texts = classed_texts f F head _ known (c.frame-frame.ensures.framed.framed honest) sound inside head.count (omega arith) found.0 in
    (learnt, good_at f F None c.args.n head has (λ _. (texts, apart_differ f F head _ known head.count (omega arith) found.1)))

pub returns-in_err-check_texts-clause-exact : goal.returns-in_err-check_texts-clause-exact
returns-in_err-check_texts-clause-exact g c = λ honest low vouched seen classed stamps learnt.
    let head = c.in_ok-head.head in
    let has = (c.in_ok-head.ensures.rules honest).0 in
    on_err _ _ _ _ c.from_residual-in_err-check_texts.ensures.1 (object_refused _ _ c.in_err-check_texts.field-0.0 (λ fault h. (head, has, (c.in-Dict.is, inl h)))
    ((rw (c.in_ok-found.ensures.reads, c.in_ok-head.ensures.reads) at c.in_err-check_texts.ensures.exact) honest learnt))

pub returns-in-None-clause-exact : goal.returns-in-None-clause-exact
returns-in-None-clause-exact g c = λ honest low vouched seen classed stamps learnt.
    let head = c.in_ok-head.head in
    let has = (c.in_ok-head.ensures.rules honest).0 in
    let found = (rw (c.in-None.is, c.in_ok-head.ensures.reads) at c.in_ok-found.ensures.exact) honest stamps in
    let texts = (rw (c.in_ok-found.ensures.reads, c.in_ok-head.ensures.reads) at c.in_ok-check_texts.ensures.exact) honest learnt in
    (texts.0, good_at _ _ None c.args.n head has (λ _. (texts.1, apart_differ _ _ head _ (classed head has c.in-Dict.is) head.count (omega arith) found.1)))

pub returns-in-Some-clause-exact : goal.returns-in-Some-clause-exact
returns-in-Some-clause-exact g c = λ honest low vouched seen classed stamps learnt.
    let head = c.in_ok-head.head in
    let has = (c.in_ok-head.ensures.rules honest).0 in
    let found = (rw (c.in-Some.is, c.in_ok-head.ensures.reads) at c.in_ok-found.ensures.exact) honest stamps in
    let texts = (rw (c.in_ok-found.ensures.reads, c.in_ok-head.ensures.reads) at c.in_ok-check_texts.ensures.exact) honest learnt in
    let told = rw (c.in_ok-check_texts.ensures.reads, c.in_ok-found.ensures.reads, c.in_ok-head.ensures.reads) at c.fault.ensures in
    (head, has, (c.in-Dict.is, inr (texts.1, twice_fault _ _ head _ (classed head has c.in-Dict.is) texts.1 (record { 0 = c.args.n }) c.in-Some.wrong c.fault.result found told)))

pub returns-in_default : goal.returns-in_default
returns-in_default g c = record {
  reads = c.in_ok-head.ensures.reads;
  same = refl;
  asks = λ honest whole head has. omega (arith, c.in_ok-head.ensures.asks, has.body, has.ends);
  stamped = λ x. inr refl;
  exact = λ honest low vouched seen classed stamps learnt.
      (learnt, good_at (g.P.Source.means c.args.src.now).octets (frame_in (g.P.Source.means c.args.src.now)) None c.args.n c.in_ok-head.head (c.in_ok-head.ensures.rules honest).0 (λ dict. absurd (c.in_default.not-Dict dict)));
}

pub returns-then-seen-frame-clause-asks : goal.returns-then-seen-frame-clause-asks
returns-then-seen-frame-clause-asks g c = λ honest whole head has.
    let f = (g.P.Source.means c.args.src.now).octets in
    let F : Frame = frame_in (g.P.Source.means c.args.src.now) in
    let here = c.in_ok-head.head in
    let own = (c.in_ok-head.ensures.rules honest).0 in
    let same = ap (λ (x : Head). x.«end») (HasHead-unique f F c.args.n here head own has) in
    let read = rw c.in_ok-head.ensures.reads at c.in_ok-found.ensures.asks in
    omega (arith, c.in_ok-head.ensures.asks, read, keys_within f F c.args.n here c.frame-frame.ensures.framed.safe.safe.ref_low c.in-Dict.is own, same)
