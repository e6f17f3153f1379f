use Rattle.std.proofs.Common.{◌≡◌, ◌∙◌, Some, inl, inr, ap, subst}
use Rattle.bplist_objects.specs.declared.frame.Frame.{Frame}
use Rattle.bplist_objects.specs.Framed.{frame_in}
use Rattle.bplist_cert.specs.Looks.{KeepBeforeKeysBelow}
use Rattle.bplist_cert.proofs.TextObjects.{shape_kept}
use Rattle.bplist_cert.proofs.CheckSteps.{given_weaker, on_err}
use Rattle.bplist_cert.proofs.KeyRepeats.{none_there, keys_inside, seen_own, sound_keys, good_at}
use Rattle.bplist_cert.proofs.KeyPairs.{shapes_texts}
use Rattle.bplist_cert.proofs.key_lists.check_dict_order.Goals as goal

pub returns-in_err-head-clause-exact : goal.returns-in_err-head-clause-exact
returns-in_err-head-clause-exact g c = λ honest low vouched seen learnt.
    let kept = seen_own _ _ c.args.seen.now.heights.now c.args.n (seen c.args.n low vouched) in
    on_err _ _ _ _ c.from_residual.ensures.1 (given_weaker _ _ c.in_err-head.field-0.0 (λ fault h. absurd (shape_kept _ _ c.args.n fault kept h)) (c.in_err-head.ensures.rules honest))

pub returns-then-seen-frame-clause-exact : goal.returns-then-seen-frame-clause-exact
returns-then-seen-frame-clause-exact g c = λ honest low vouched seen learnt.
    let f = (g.P.Source.means c.args.src.now).octets in
    let F : Frame = frame_in (g.P.Source.means c.args.src.now) in
    let heights = c.args.seen.now.heights.now in
    let head = c.in_ok-head.head in
    let has = (c.in_ok-head.ensures.rules honest).0 in
    let found = (rw c.in_ok-head.ensures.reads at c.in_ok-found.ensures.exact) honest learnt.0 in
    let listed = none_there _ _ c.in_ok-found.found c.is_none.result c.is_none.ensures c.if-is_none.true found.1 in
    let whole : c.args.seen.now.bound ≡ F.objects = c.if-seen-frame.true ∙ ap (λ (x : Frame). x.objects) c.frame-frame.ensures.frame in
    let sound = sound_keys f F heights (subst (KeepBeforeKeysBelow f F heights) whole seen) c.args.n c.requires vouched head has c.in-Dict.is in
    let inside = keys_inside f F c.args.n (seen_own f F heights c.args.n (seen c.args.n low vouched)) head has c.in-Dict.is in
    ((found.0, learnt.1), good_at f F (Some c.args.keys.now) c.args.n head has (λ _. (shapes_texts f F (c.frame-frame.ensures.framed.framed honest) head inside sound listed.0, listed.1)))

pub returns-in_err-check_texts-clause-exact : goal.returns-in_err-check_texts-clause-exact
returns-in_err-check_texts-clause-exact g c = λ honest low vouched seen learnt.
    let head = c.in_ok-head.head in
    let has = (c.in_ok-head.ensures.rules honest).0 in
    let texts = (rw (c.in_ok-found.ensures.reads, c.in_ok-head.ensures.reads) at c.in_err-check_texts.ensures.exact) honest learnt.1 in
    on_err _ _ _ _ c.from_residual-in_err-check_texts.ensures.1 (given_weaker _ _ c.in_err-check_texts.field-0.0 (λ fault h. (head, has, (c.in-Dict.is, inl h))) texts)

pub returns-in-None-clause-exact : goal.returns-in-None-clause-exact
returns-in-None-clause-exact g c = λ honest low vouched seen learnt.
    let found = (rw (c.in-None.is, c.in_ok-head.ensures.reads) at c.in_ok-found.ensures.exact) honest learnt.0 in
    let texts = (rw (c.in_ok-found.ensures.reads, c.in_ok-head.ensures.reads) at c.in_ok-check_texts.ensures.exact) honest learnt.1 in
    ((found.0, texts.0), good_at _ _ (Some c.args.keys.now) c.args.n c.in_ok-head.head (c.in_ok-head.ensures.rules honest).0 (λ _. (texts.1, found.1.1)))

pub returns-in-Some-clause-exact : goal.returns-in-Some-clause-exact
returns-in-Some-clause-exact g c = λ honest low vouched seen learnt.
    let has = (c.in_ok-head.ensures.rules honest).0 in
    let found = (rw (c.in-Some.is, c.in_ok-head.ensures.reads) at c.in_ok-found.ensures.exact) honest learnt.0 in
    let texts = (rw (c.in_ok-found.ensures.reads, c.in_ok-head.ensures.reads) at c.in_ok-check_texts.ensures.exact) honest learnt.1 in
    (c.in_ok-head.head, has, (c.in-Dict.is, inr (texts.1, found.1 texts.1)))

pub returns-in_default : goal.returns-in_default
returns-in_default g c = record {
  reads = c.in_ok-head.ensures.reads;
  exact = λ honest low vouched seen learnt.
      (learnt, good_at (g.P.Source.means c.args.src.now).octets (frame_in (g.P.Source.means c.args.src.now)) (Some c.args.keys.now) c.args.n c.in_ok-head.head (c.in_ok-head.ensures.rules honest).0 (λ dict. absurd (c.in_default.not-Dict dict)));
}
