use Rattle.std.proofs.Common.{◌≡◌, ◌∙◌, subst, arith}
use Rattle.bplist_objects.specs.declared.frame.Frame.{Frame}
use Rattle.bplist_objects.specs.Framed.{frame_in}
use Rattle.bplist_cert.proofs.KeyPairs.{AscendTo, ascend_more, shapes_all, in_order_to, follows_in_order}
use Rattle.bplist_cert.proofs.key_order.first_unordered.Goals as goal

pub returns-in_default-clause-exact : goal.returns-in_default-clause-exact
returns-in_default-clause-exact g c = λ honest pairs.
    let v = c.loop-j.invariant in
    let high = (rw (c.in_default.is, v.same) at c.in_ok-m.ensures.exact) honest (c.in_ok-read_few.ensures.few honest) in (
      v.pairs honest pairs,
      λ texts. (
        omega (arith, c.loop-j-test.true, c.requires.whole),
        in_order_to _ _ c.args.dict.now.head c.args.list.now c.loop-j.j (v.ascend honest pairs),
        λ more.
            let low = (more c.loop-j.j (omega arith)).0 in
            let text = texts _ low in
            omega (arith, high low, text.1.within),
      ),
    )

pub returns-in_default-2-clause-exact : goal.returns-in_default-2-clause-exact
returns-in_default-2-clause-exact g c = λ honest pairs.
    let v = c.loop-j.invariant in
    let is = (rw (c.in-Some.is, v.same) at c.in_ok-m.ensures.exact) honest (c.in_ok-read_few.ensures.few honest) in
    let here = (rw (c.in_default-2.is, c.in_ok-m.ensures.reads, v.same) at c.in_ok-key.ensures.exact) honest (v.pairs honest pairs) (v.read honest pairs) in (
      here.0,
      λ texts. (
        omega (arith, c.loop-j-test.true, c.requires.whole),
        in_order_to _ _ c.args.dict.now.head c.args.list.now c.loop-j.j (v.ascend honest pairs),
        λ more. here.1 (follows_in_order _ _ c.args.dict.now.head c.args.list.now c.loop-j.j c.loop-j.before c.in-Some.m (v.ascend honest pairs) texts is (v.last honest) more),
      ),
    )

pub loop-j-preserved : goal.loop-j-preserved
loop-j-preserved g c =
    let v = c.loop-j.invariant in
    let inside = rw (c.in-Some.is, v.same) at c.in_ok-m.ensures.inside in
    let key = rw c.in-Some-2.is at c.in_ok-key.ensures.key in
    let few = c.in_ok-read_few.ensures.few in
    let is = rw (c.in-Some.is, v.same) at c.in_ok-m.ensures.exact in
    let exact = rw (c.in-Some-2.is, c.in_ok-m.ensures.reads, v.same) at c.in_ok-key.ensures.exact in
    record {
      same = c.in_ok-key.ensures.reads ∙ c.in_ok-m.ensures.reads ∙ v.same;
      inside = rw (c.in_ok-m.ensures.reads, v.same) at key.1;
      pairs = λ honest pairs. (exact honest (v.pairs honest pairs) (v.read honest pairs)).0;
      ascend = λ honest pairs.
          ascend_more _ _ c.args.dict.now.head c.args.list.now c.loop-j.j c.loop-j.before c.in-Some.m (v.ascend honest pairs) inside.0 (is honest (few honest)) (v.last honest)
          (exact honest (v.pairs honest pairs) (v.read honest pairs)).1.1;
      read = λ honest pairs. (exact honest (v.pairs honest pairs) (v.read honest pairs)).1.0;
      last = λ honest. (c.loop-j.j, omega arith, key.0 ∙ is honest (few honest));
    }

pub returns-clause-exact : goal.returns-clause-exact
returns-clause-exact g c = λ honest pairs.
    let f = (g.P.Source.means c.args.src.now).octets in
    let F : Frame = frame_in (g.P.Source.means c.args.src.now) in
    let v = c.loop-j.invariant in
    let e : c.loop-j.j ≡ c.args.dict.now.head.count = omega (arith, c.requires.whole, c.loop-j-test.false, c.loop-j.auto.j-end) in
    let so = subst (AscendTo f F c.args.dict.now.head c.args.list.now) e (v.ascend honest pairs) in
    (v.pairs honest pairs, (shapes_all f F c.args.dict.now.head c.args.list.now so, in_order_to f F c.args.dict.now.head c.args.list.now c.args.dict.now.head.count so))
