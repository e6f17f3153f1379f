use Rattle.std.proofs.Common.{◌≡◌, ◌≤◌, ◌+◌, length, arith}
use Rattle.bplist_objects.specs.Framed.{HonestlyIn}
use Rattle.bplist_objects.proofs.FirstFaults.{no_shape}
use Rattle.bplist_objects.proofs.HeadTies.{announced_shape, shape_announced, shape_tie}
use Rattle.bplist_cert.proofs.CheckSteps.{object_refused, on_err}
use Rattle.bplist_objects.proofs.FrameTies.{numbered}
use Rattle.bplist_lint.proofs.ExtentBytes.{keys_bytes}
use Rattle.bplist_lint.proofs.KeyLists.{have_ranks}
use Rattle.bplist_cert.proofs.AcceptedCertificates.{vouched_keys}
use Rattle.bplist_lint.proofs.ListSteps.{listed_other, listed_dict, listed_room}
use Rattle.bplist_lint.specs.ReachWalk.{extent}
use Rattle.bplist_lint.proofs.upgrader.list_object.Given.{Over}
use Rattle.bplist_lint.proofs.upgrader.list_object.Goals.{After-list}
use Rattle.bplist_lint.proofs.upgrader.list_object.Goals as goal

pub returns-in_err-head-clause-exact : goal.returns-in_err-head-clause-exact
returns-in_err-head-clause-exact g c = λ honest named heights starts ranked given valid v room l.
    let s = (valid.vouched c.args.n v).spells in
    on_err _ _ _ _ c.from_residual.ensures.1 (object_refused _ _ c.in_err-head.field-0.0 (λ fault h. absurd (no_shape _ _ c.args.n fault s.shape h s.has)) (c.in_err-head.ensures.rules honest))

pub returns-then-head-start-clause-exact : goal.returns-then-head-start-clause-exact
returns-then-head-start-clause-exact g c = λ honest named heights starts ranked given valid v room l.
    let n = c.args.n in
    let head = c.in_ok-head.head in
    let shape = (shape_tie _ _ n valid.frame c.requires.within head).0 (c.in_ok-head.ensures.rules honest) in
    let has = shape_announced _ _ n head shape in
    let begin : c.len-start.result ≡ length c.args.lists.now.positions.items = omega (arith, c.args.lists.now.positions.ok.0, c.len-start.ensures) in
    let fits = listed_room _ _ heights n starts c.args.lists.now.positions.items l v room head shape c.in-Dict.is (numbered valid.frame).ref_size.0 valid.room in
    omega (arith, fits, begin, (numbered valid.frame).table_late, (numbered valid.frame).large, c.if-head-start.true)

pub returns-in_err-list-in-Dict-clause-exact : goal.returns-in_err-list-in-Dict-clause-exact
returns-in_err-list-in-Dict-clause-exact g c = λ honest named heights starts ranked given valid v room l.
    let n = c.args.n in
    let head = c.in_ok-head.head in
    let shape = (shape_tie _ _ n valid.frame c.requires.within head).0 (c.in_ok-head.ensures.rules honest) in
    let has = shape_announced _ _ n head shape in
    let keys = vouched_keys _ _ heights valid n v head has c.in-Dict.is in
    let have = have_ranks _ _ named c.args.lists.now.ranks.table.items ranked n given head has c.in-Dict.is keys.0 keys.1 in
    on_err _ _ _ _ c.from_residual-in_err-list-in-Dict.ensures.1 ((rw c.in_ok-head.ensures.reads at c.in_err-list-in-Dict.ensures.exact) honest have)

pub returns-in_ok-list-in-Dict-clause-exact : goal.returns-in_ok-list-in-Dict-clause-exact
returns-in_ok-list-in-Dict-clause-exact g c = λ honest named heights starts ranked given valid v room l.
    let n = c.args.n in
    let head = c.in_ok-head.head in
    let shape = (shape_tie _ _ n valid.frame c.requires.within head).0 (c.in_ok-head.ensures.rules honest) in
    let has = shape_announced _ _ n head shape in
    let keys = vouched_keys _ _ heights valid n v head has c.in-Dict.is in
    let have = have_ranks _ _ named c.args.lists.now.ranks.table.items ranked n given head has c.in-Dict.is keys.0 keys.1 in
    let begin : c.len-start.result ≡ length c.args.lists.now.positions.items = omega (arith, c.args.lists.now.positions.ok.0, c.len-start.ensures) in
    let listed = (rw c.in_ok-head.ensures.reads at c.in_ok-list-in-Dict.ensures.exact) honest have in
    rw begin (listed_dict _ _ heights n starts c.args.lists.now.positions.items l v room head shape c.in-Dict.is (numbered valid.frame).ref_size.0 c.list.new.self.positions.items listed)

pub returns-in_default : goal.returns-in_default
returns-in_default g c = record {
  reads = c.in_ok-head.ensures.reads;
  asks = λ honest. omega (arith, c.in_ok-head.ensures.asks);
  same = cc;
  few = c.requires.few;
  exact = λ honest named heights starts ranked given valid v room l.
      let n = c.args.n in
      let head = c.in_ok-head.head in
      let shape = (shape_tie _ _ n valid.frame c.requires.within head).0 (c.in_ok-head.ensures.rules honest) in
      let has = shape_announced _ _ n head shape in
      listed_other _ _ heights n starts c.args.lists.now.positions.items l v room head shape c.in_default.not-Dict;
}

-- what was asked for with the key list
asked : (g : Over) (c : After-list g) → HonestlyIn (g.P.Source.means c.args.src.now) (λ f F. g.P.Source.asked c.list.new.src ≤ g.P.Source.asked c.args.src.now + (36 + extent f F c.args.n))
asked g c honest =
    let framed = c.frame-frame.ensures.framed in
    let head = c.in_ok-head.head in
    let has = c.in_ok-head.ensures.rules honest in
    let shape = announced_shape _ _ c.args.n (framed.framed honest) c.requires.within head has.0 has.1 in
    let read = rw c.in_ok-head.ensures.reads at c.list.ensures.asks in
    omega (arith, c.in_ok-head.ensures.asks, read, keys_bytes _ _ c.args.n head framed.safe.safe.ref_low c.in-Dict.is shape)

pub returns-in_err-list-in-Dict-clause-asks : goal.returns-in_err-list-in-Dict-clause-asks
returns-in_err-list-in-Dict-clause-asks g c = asked g (goal.at.returns-in_err-list-in-Dict-clause-asks g c).After-list

pub returns-in_ok-list-in-Dict-clause-asks : goal.returns-in_ok-list-in-Dict-clause-asks
returns-in_ok-list-in-Dict-clause-asks g c = asked g (goal.at.returns-in_ok-list-in-Dict-clause-asks g c).After-list
