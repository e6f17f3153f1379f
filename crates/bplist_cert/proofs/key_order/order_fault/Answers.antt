use Rattle.std.proofs.Common.{◌≡◌, ◌≤◌, ◌+◌, ◌*◌, length, slice_index, refl, inr, ap, ap₂, subst, ◌∙◌, arith}
use Rattle.bplist_octets.specs.Octets.{part}
use Rattle.bplist_objects.specs.declared.frame.Frame.{Frame}
use Rattle.bplist_objects.specs.Framed.{frame_in}
use Rattle.bplist_objects.specs.Claims.{FailsAt}
use Rattle.bplist_cert.specs.DictKeys.{AreInOrder}
use Rattle.bplist_cert.specs.Lists.{Keyed, list_of}
use Rattle.bplist_cert.proofs.key_order.order_fault.Goals as goal

pub returns-in-None-clause-exact : goal.returns-in-None-clause-exact
returns-in-None-clause-exact g c = λ honest known.
    let f = (g.P.Source.means c.args.src.now).octets in
    let F : Frame = frame_in (g.P.Source.means c.args.src.now) in
    let keyed : Keyed = c.args.keys.now in
    let head = c.args.dict.now.head in
    let n = c.args.dict.now.n.0 in
    let found = (rw c.in-None.is at c.in_ok-first_unordered.ensures.exact) honest known in
    let positions : c.deref-2.result.now ≡ keyed.positions = c.deref-2.ensures.value ∙ ap (λ (k : Keyed). k.positions) c.keys.view_is in
    let start : c.entry_or-start.result ≡ slice_index keyed.starts n =
    c.entry_or-start.ensures ∙ ap (λ xs. slice_index xs n) (c.deref.ensures.value ∙ ap (λ (k : Keyed). k.starts) c.keys.view_is) in
    let list : c.part_of-list.result.now ≡ list_of keyed n head.count = c.part_of-list.ensures.part ∙ ap₂ (λ xs p. part xs p head.count) positions start in
    let whole : slice_index keyed.starts n + head.count ≤ length keyed.positions =
    omega (arith, c.if-start-dict.false, c.len.ensures, c.deref-2.ensures.len, ap length positions, start) in
    (found.0, (found.1.0, (whole, subst (λ xs. AreInOrder f F head xs head.count) list found.1.1)))

pub returns-in-Some-clause-exact : goal.returns-in-Some-clause-exact
returns-in-Some-clause-exact g c = λ honest known.
    let f = (g.P.Source.means c.args.src.now).octets in
    let F : Frame = frame_in (g.P.Source.means c.args.src.now) in
    let keyed : Keyed = c.args.keys.now in
    let head = c.args.dict.now.head in
    let n = c.args.dict.now.n.0 in
    let found = (rw c.in-Some.is at c.in_ok-first_unordered.ensures.exact) honest known in
    let objects : c.frame-count.result.objects ≡ F.objects = ap (λ (x : Frame). x.objects) c.frame-count.ensures.frame in
    let positions : c.deref-2.result.now ≡ keyed.positions = c.deref-2.ensures.value ∙ ap (λ (k : Keyed). k.positions) c.keys.view_is in
    let start : c.entry_or-start.result ≡ slice_index keyed.starts n =
    c.entry_or-start.ensures ∙ ap (λ xs. slice_index xs n) (c.deref.ensures.value ∙ ap (λ (k : Keyed). k.starts) c.keys.view_is) in
    let list : c.part_of-list.result.now ≡ list_of keyed n head.count = c.part_of-list.ensures.part ∙ ap₂ (λ xs p. part xs p head.count) positions start in
    let whole : slice_index keyed.starts n + head.count ≤ length keyed.positions =
    omega (arith, c.if-start-dict.false, c.len.ensures, c.deref-2.ensures.len, ap length positions, start) in
    let place : 16 + 8 * c.frame-count.result.objects + 4 * (c.entry_or-start.result + c.in-Some.j) ≡ 16 + 8 * F.objects + 4 * (slice_index keyed.starts n + c.in-Some.j) =
    omega (arith, objects, start) in
    (found.0, λ texts. (refl, refl, inr (whole, (c.in-Some.j, subst (λ xs. FailsAt (AreInOrder f F head xs) head.count c.in-Some.j) list (found.1 texts), place))))
