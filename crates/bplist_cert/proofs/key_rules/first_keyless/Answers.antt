use Rattle.std.proofs.Common.{◌≡◌, ◌+◌, suc, subst, ◌∙◌, arith}
use Rattle.std.proofs.lemmas.Bool.{false≢true}
use Rattle.bplist_objects.specs.Framed.{frame_in}
use Rattle.bplist_cert.specs.DictKeys.{KeysAreTexts}
use Rattle.bplist_cert.proofs.TextObjects.{texts_more}
use Rattle.bplist_cert.proofs.key_rules.first_keyless.Goals as goal

pub returns-then-not-branch-clause-exact : goal.returns-then-not-branch-clause-exact
returns-then-not-branch-clause-exact g c = λ honest head are texts low.
    let before = c.loop-k.invariant.texts honest head are texts low in
    let text = (rw (c.loop-k.invariant.same, are c.loop-k.k c.loop-k-test.true) at c.in_ok-is_text.ensures.exact) honest before.0 in (
      text.0,
      (omega (arith, c.loop-k-test.true), before.1, λ more. false≢true (rw c.if-not-branch.true at (text.1.1 (more (c.args.from + c.loop-k.k) (omega arith))))),
    )

pub loop-k-preserved : goal.loop-k-preserved
loop-k-preserved g c =
    let m = g.P.Source.means c.args.src.now in
    let last = c.args.from + c.loop-k.k in
    let e : suc last ≡ c.args.from + (c.loop-k.k + 1) = omega arith in
    record {
      same = c.in_ok-is_text.ensures.reads ∙ c.loop-k.invariant.same;
      texts = λ honest head are texts low.
          let before = c.loop-k.invariant.texts honest head are texts low in
          let text = (rw (c.loop-k.invariant.same, are c.loop-k.k c.loop-k-test.true) at c.in_ok-is_text.ensures.exact) honest before.0 in
          (text.0, subst (KeysAreTexts m.octets (frame_in m) head) e (texts_more m.octets (frame_in m) head last before.1 (text.1.0 c.if-not-branch.false)));
    }
