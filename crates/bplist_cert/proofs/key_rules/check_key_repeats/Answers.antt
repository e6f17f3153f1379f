use Rattle.std.proofs.Common.{◌≡◌, ◌+◌, ◌*◌, ◌≤◌, ◌∙◌, ap, sym, subst, count_by, arith}
use Rattle.std.proofs.lemmas.Bool.{eqb-true, false≢true}
use Rattle.std.proofs.lemmas.Result.{on_ok_weaker}
use Rattle.bplist_objects.specs.declared.frame.Frame.{Frame}
use Rattle.bplist_objects.specs.Framed.{frame_in}
use Rattle.bplist_cert.specs.Looks.{KeepBeforeKeysBelow}
use Rattle.bplist_cert.proofs.KeyRepeats.{good_unnamed}
use Rattle.bplist_cert.proofs.KeysLooks.{collected_apart}
use Rattle.bplist_cert.proofs.key_rules.check_key_repeats.Goals as goal
use Rattle.bplist_cert.proofs.key_rules.check_key_repeats.Goals.{then-are_apart, else-are_apart, then-keys-objects+in_ok-keep_places, else-keys-objects}

pub returns-then-keys-eq0-clause-exact : goal.returns-then-keys-eq0-clause-exact
returns-then-keys-eq0-clause-exact g c = λ honest seen given n low vouched.
    let named = c.in_ok-named.named.marks.items in
    let none : count_by (λ marked. marked) named ≡ 0 = omega (arith, c.count-keys.ensures, c.if-keys-eq0.true) in
    good_unnamed _ _ named n none ((c.in_ok-named.ensures.exact honest seen given).1 n low vouched)

pub returns-clause-exact : goal.returns-clause-exact
returns-clause-exact g c = λ honest seen given.
    let m = g.P.Source.means c.args.src.now in
    let F : Frame = frame_in m in
    let objects : c.frame-objects.result.objects ≡ F.objects = ap (λ (x : Frame). x.objects) c.frame-objects.ensures.frame in
    let same : g.P.Source.means c.if-keys-objects.src ≡ g.P.Source.means c.args.src.now =
    elim c.if-keys-objects.branch [
      | then-keys-objects+in_ok-keep_places w ↦ rw w.src-is (w.in_ok-keep_places.ensures.reads ∙ c.in_ok-named.ensures.reads)
      | else-keys-objects w ↦ rw w.src-is c.in_ok-named.ensures.reads
    ] in
    (rw same at c.check_named.ensures.exact) honest seen (c.in_ok-named.ensures.exact honest seen given)
    (λ apart. elim c.if-are_apart.branch [
      | then-are_apart w ↦
          let all = eqb-true c.args.seen.now.bound c.frame-objects.result.objects (sym w.apart-is ∙ apart) in
          (omega (arith, all, objects), collected_apart m.octets F c.args.seen.now.heights.now c.args.seen.now.bound c.args.names (c.are_apart.ensures w.if-are_apart.true) given)
      | else-are_apart w ↦ absurd (false≢true (sym w.if-are_apart.false ∙ sym w.apart-is ∙ apart))
    ])

pub returns-clause-asks : goal.returns-clause-asks
returns-clause-asks g c = λ honest whole walked.
    let m = g.P.Source.means c.args.src.now in
    let F : Frame = frame_in m in
    let heights = c.args.seen.now.heights.now in
    let same : g.P.Source.means c.if-keys-objects.src ≡ m = elim c.if-keys-objects.branch [
      | then-keys-objects+in_ok-keep_places w ↦ rw w.src-is (w.in_ok-keep_places.ensures.reads ∙ c.in_ok-named.ensures.reads)
      | else-keys-objects w ↦ rw w.src-is c.in_ok-named.ensures.reads
    ] in
    let more : g.P.Source.asked c.if-keys-objects.src ≤ g.P.Source.asked c.args.src.now + 8 * F.objects = elim c.if-keys-objects.branch [
      | then-keys-objects+in_ok-keep_places w ↦ rw w.src-is (omega (arith, c.in_ok-named.ensures.asks honest walked, rw c.in_ok-named.ensures.reads at w.in_ok-keep_places.ensures.asks))
      | else-keys-objects w ↦ rw w.src-is (omega (arith, c.in_ok-named.ensures.asks honest walked))
    ] in
    on_ok_weaker c.check_named.result (λ asked. omega (arith, asked, more))
    ((rw same at c.check_named.ensures.asks) honest whole (subst (KeepBeforeKeysBelow m.octets F heights) (sym whole) walked.kept) walked.room (c.in_ok-named.ensures.vouched honest walked))
