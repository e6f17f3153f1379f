use Rattle.std.proofs.Common.{arith, ◌≡◌, ◌<◌, length, slice_index, sym, ◌∙◌, subst}
use Rattle.bplist_objects.specs.Value.{text}
use Rattle.bplist_objects.specs.Heads.{Spells, leaf, dict}
use Rattle.bplist_cert.proofs.CheckSteps.{on_err}
use Rattle.bplist_cursor.proofs.Keys.{dict_counts, ref}
use Rattle.bplist_cursor.proofs.key_search.compare_listed.Goals as goal

pub returns-then-i-head-clause-exact : goal.returns-then-i-head-clause-exact
returns-then-i-head-clause-exact g c = λ honest n ks ms s e t keyed is room within.
    let position : c.in-Some.position ≡ slice_index keyed.positions c.args.at = cc (c.in-Some.is, c.position_of.ensures keyed is room) in
    omega (arith, position, within, (dict_counts c.args.checked.now.source.octets c.args.checked.now.frame c.args.head.now ks ms e).0, c.if-i-head.true)

pub returns-in_err-k-clause-exact : goal.returns-in_err-k-clause-exact
returns-in_err-k-clause-exact g c = λ honest n ks ms s e t keyed is room within.
    on_err _ _ _ _ c.from_residual.ensures.1 (c.in_err-k.ensures.exact honest n (dict ks ms) s e)

pub returns-in_err-compare_key-clause-exact : goal.returns-in_err-compare_key-clause-exact
returns-in_err-compare_key-clause-exact g c = λ honest n ks ms s e t keyed is room within.
    let position : c.in-Some.position ≡ slice_index keyed.positions c.args.at = cc (c.in-Some.is, c.position_of.ensures keyed is room) in
    let here : c.in-Some.position < length ks = omega (arith, position, within) in
    let k : c.in_ok-k.k.0 ≡ slice_index ks c.in-Some.position = c.in_ok-k.ensures.exact honest n (dict ks ms) s e ∙ ref ks ms c.in-Some.position here in
    let x = t c.in-Some.position here in
    on_err _ _ _ _ c.from_residual-in_err-compare_key.ensures.1 ((rw (c.in_ok-k.ensures.reads, k) at c.in_err-compare_key.ensures.exact) honest x.0 x.1)

pub returns-clause-exact : goal.returns-clause-exact
returns-clause-exact g c = λ honest n ks ms s e t keyed is room within.
    let position : c.in-Some.position ≡ slice_index keyed.positions c.args.at = cc (c.in-Some.is, c.position_of.ensures keyed is room) in
    let here : c.in-Some.position < length ks = omega (arith, position, within) in
    let k : c.in_ok-k.k.0 ≡ slice_index ks c.in-Some.position = c.in_ok-k.ensures.exact honest n (dict ks ms) s e ∙ ref ks ms c.in-Some.position here in (
      position,
      λ us spells.
          let u = subst (λ i. Spells c.args.checked.now.source.octets c.args.checked.now.frame (slice_index ks i) (leaf (text us))) (sym position) spells in
          (rw (c.in_ok-k.ensures.reads, k) at c.in_ok-compare_key.ensures.exact) honest us u,
    )
