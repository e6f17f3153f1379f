use Rattle.std.proofs.Common.{◌≡◌, arith}
use Rattle.std.proofs.lemmas.Result.{on_ok_weaker}
use Rattle.bplist_objects.specs.Framed.{frame_in}
use Rattle.bplist_objects.specs.Safe.{ref_count}
use Rattle.bplist_objects.proofs.BodyLaws.{refs_fit}
use Rattle.bplist_cert.proofs.QuickLooks.{rest_by_body, rest_by_heights}
use Rattle.bplist_cert.proofs.KeysLooks.{no_refs_keys, none_collected, collected_next}
use Rattle.bplist_cert.proofs.walk.check_rest.Goals as goal

pub returns-then-refs_of-eq0-clause-exact : goal.returns-then-refs_of-eq0-clause-exact
returns-then-refs_of-eq0-clause-exact g c = λ honest place has.
    let none : ref_count c.args.head.now.kind c.args.head.now.count ≡ 0 = omega (arith, c.refs_of.ensures, c.if-refs_of-eq0.true) in
    let names = none_collected _ _ c.args.heights.now c.args.«at».n.0 (λ _. no_refs_keys _ _ c.args.«at».n.0 c.args.head.now has none) c.args.named.now in
    rest_by_body _ _ c.args.heights.now c.args.«at».n.0 c.args.head.now c.check_body.result none names ((rw c.frame-frame.ensures.frame at c.check_body.ensures.exact) honest place has)

pub returns-clause-exact : goal.returns-clause-exact
returns-clause-exact g c = λ honest place has.
    let heights = c.args.heights.now in
    let n = c.args.«at».n.0 in
    let head = c.args.head.now in
    let some : ref_count head.kind head.count ≡ 0 → ⊥ = λ none. omega (arith, none, c.refs_of.ensures, c.if-refs_of-eq0.false) in
    rest_by_heights _ _ heights n head c.check_refs.result has some c.requires.all
    (λ met. collected_next _ _ heights n head has c.requires.all (λ k low. (met k low).0) c.args.named.now c.check_refs.new.names)
    (c.check_refs.ensures.exact honest) (c.check_refs.ensures.names honest)

pub returns-clause-asks : goal.returns-clause-asks
returns-clause-asks g c =
    let head = c.args.head.now in
    let fit = refs_fit (frame_in (g.P.Source.means c.args.src.now)).ref_size head.count head.kind c.frame-frame.ensures.framed.safe.safe.ref_low in
    on_ok_weaker c.check_refs.result (λ asked. omega (arith, asked, fit.0, c.requires.head.body)) c.check_refs.ensures.asks
