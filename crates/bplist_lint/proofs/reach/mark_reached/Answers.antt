use Rattle.std.proofs.Common.{◌≡◌, [], length, arith, refl, sym, ap, ◌∙◌}
use Rattle.std.proofs.lemmas.Grind.{common_steps}
use Rattle.std.proofs.lemmas.Bool.{false≢true}
use Rattle.std.proofs.lemmas.List.{nil_from_length, length_push}
use Rattle.bplist_objects.specs.declared.frame.Frame.{Frame}
use Rattle.bplist_objects.specs.Framed.{frame_in}
use Rattle.bplist_objects.specs.Spelled.{refs_at}
use Rattle.bplist_lint.specs.declared.bit_set.BitSet.{BitSet}
use Rattle.bplist_lint.proofs.ObjectReferences.{no_refs_shape, broken_count, refs_as_shape}
use Rattle.bplist_lint.specs.BitSets.{count_in}
use Rattle.bplist_lint.specs.ReachSearch.{index_count}
use Rattle.bplist_lint.proofs.ReachSteps.{ready_popped, searching_step, searching_none, searching_end, places_few}
use Rattle.bplist_lint.proofs.reach.mark_reached.Goals as goal

pub loop-n-preserved-in_default-2 : goal.loop-n-preserved-in_default-2
loop-n-preserved-in_default-2 g c =
    let i = c.loop-n.invariant in
    record {
      reads = c.in_ok-head.ensures.reads ∙ i.reads;
      asked = omega (arith, i.asked, c.in_ok-head.ensures.asks, ap length c.in-Some.ensures.items, length_push c.pop.new.self.items c.in-Some.n);
      ready = ready_popped _ _ _ _ _ i.ready c.in-Some.ensures.items refl;
      searching = λ honest.
          let w = rw c.in-Some.ensures.items at (i.searching honest) in
          let shape = (rw i.reads at c.in_ok-head.ensures.shape) honest in
          searching_none _ _ c.in-Some.n _ _ _ _ _ w (no_refs_shape _ _ _ (rw c.in_default-2.is at shape)) w.known_good;
    }

pub follow-requires-clause-ready : goal.follow-requires-clause-ready
follow-requires-clause-ready g c =
    let i = c.loop-n.invariant in
    rw (c.in_ok-all.ensures.reads, c.in_ok-head.ensures.reads, i.reads) (ready_popped _ _ _ _ _ i.ready c.in-Some.ensures.items c.are_good.ensures.size)

pub loop-n-preserved-in_ok-follow : goal.loop-n-preserved-in_ok-follow
loop-n-preserved-in_ok-follow g c =
    let i = c.loop-n.invariant in
    record {
      reads = c.in_ok-follow.ensures.reads ∙ c.in_ok-all.ensures.reads ∙ c.in_ok-head.ensures.reads ∙ i.reads;
      asked =
          (let F : Frame = frame_in (g.P.Source.means c.args.src.now) in
          let good = rw i.ready.good_size at c.in_ok-all.ensures.asks in
          let followed = rw i.ready.followed_size at c.in_ok-follow.ensures.asks in
          let same = ap (λ (s : BitSet). count_in s.words.items (index_count F)) c.follow.ensures.good in
          omega (arith, i.asked, c.in_ok-head.ensures.asks, good, followed, same, c.in_ok-follow.ensures.work, ap length c.in-Some.ensures.items, length_push c.pop.new.self.items c.in-Some.n));
      ready = rw (c.in_ok-all.ensures.reads, c.in_ok-head.ensures.reads, i.reads) at c.in_ok-follow.ensures.ready;
      searching = λ honest.
          let w = rw c.in-Some.ensures.items at (i.searching honest) in
          let has = rw c.in-Some-2.is at ((rw i.reads at c.in_ok-head.ensures.shape) honest) in
          let exact = (rw (c.in_ok-head.ensures.reads, i.reads) at c.in_ok-all.ensures.exact) honest w.known_good in
          let good = (rw (c.in_ok-head.ensures.reads, i.reads) at c.in_ok-all.ensures.good) honest w.known_good in
          let below = exact.0 c.if-all.true in
          let same = refs_as_shape _ _ c.in-Some.n c.in-Some-2.head has below in
          let follow = (rw (c.in_ok-all.ensures.reads, c.in_ok-head.ensures.reads, i.reads) at c.in_ok-follow.ensures.exact) honest below w.known_followed in
          searching_step _ _ c.in-Some.n _ _ _ _ _ _ _ _ w (rw same follow.0) (rw same follow.1) (rw (ap (λ (s : BitSet). s.words.items) c.follow.ensures.good) good) follow.2;
    }

pub loop-n-preserved : goal.loop-n-preserved
loop-n-preserved g c =
    let i = c.loop-n.invariant in
    record {
      reads = c.in_ok-all.ensures.reads ∙ c.in_ok-head.ensures.reads ∙ i.reads;
      asked =
          (let good = rw i.ready.good_size at c.in_ok-all.ensures.asks in
          omega (arith, i.asked, c.in_ok-head.ensures.asks, good, ap length c.in-Some.ensures.items, length_push c.pop.new.self.items c.in-Some.n));
      ready = ready_popped _ _ _ _ _ i.ready c.in-Some.ensures.items c.are_good.ensures.size;
      searching = λ honest.
          let f = (g.P.Source.means c.args.src.now).octets in
          let F : Frame = frame_in (g.P.Source.means c.args.src.now) in
          let n = c.in-Some.n in
          let w = rw c.in-Some.ensures.items at (i.searching honest) in
          let has = rw c.in-Some-2.is at ((rw i.reads at c.in_ok-head.ensures.shape) honest) in
          let exact = (rw (c.in_ok-head.ensures.reads, i.reads) at c.in_ok-all.ensures.exact) honest w.known_good in
          let good = (rw (c.in_ok-head.ensures.reads, i.reads) at c.in_ok-all.ensures.good) honest w.known_good in
          let none : refs_at f F n ≡ [] = nil_from_length _ (broken_count f F n c.in-Some-2.head has (λ below. false≢true (sym c.if-all.false ∙ exact.1 below))) in
          searching_none _ _ n _ _ _ _ _ w none good;
    }

pub returns-clause-exact : goal.returns-clause-exact
returns-clause-exact g c = λ honest.
    let empty : c.loop-n.search.stack.items ≡ [] = grind (arith, common_steps) in
    searching_end _ _ _ _ _ (rw empty at (c.loop-n.invariant.searching honest))

pub returns-clause-asks : goal.returns-clause-asks
returns-clause-asks g c =
    omega (arith, c.loop-n.invariant.asked, places_few _ c.frame.ensures.framed.safe c.loop-n.search.good.words.items c.loop-n.search.followed.words.items)

pub returns-in_err-head-clause-asks : goal.returns-in_err-head-clause-asks
returns-in_err-head-clause-asks g c =
    let few = places_few _ c.frame.ensures.framed.safe c.loop-n.search.good.words.items c.loop-n.search.followed.words.items in
    omega (arith, c.loop-n.invariant.asked, c.shape_there.ensures.asks, ap length c.in-Some.ensures.items, length_push c.pop.new.self.items c.in-Some.n, few)

pub returns-in_err-all-clause-asks : goal.returns-in_err-all-clause-asks
returns-in_err-all-clause-asks g c =
    let i = c.loop-n.invariant in
    let good = rw i.ready.good_size at c.are_good.ensures.asks in
    let few = places_few _ c.frame.ensures.framed.safe c.are_good.new.good.words.items c.loop-n.search.followed.words.items in
    omega (arith, i.asked, c.in_ok-head.ensures.asks, good, ap length c.in-Some.ensures.items, length_push c.pop.new.self.items c.in-Some.n, few)

pub returns-in_err-follow-clause-asks : goal.returns-in_err-follow-clause-asks
returns-in_err-follow-clause-asks g c =
    let i = c.loop-n.invariant in
    let good = rw i.ready.good_size at c.are_good.ensures.asks in
    let followed = rw i.ready.followed_size at c.follow.ensures.asks in
    let few = places_few _ c.frame.ensures.framed.safe c.are_good.new.good.words.items c.follow.new.search.followed.words.items in
    omega (arith, i.asked, c.in_ok-head.ensures.asks, good, followed, ap length c.in-Some.ensures.items, length_push c.pop.new.self.items c.in-Some.n, few)

pub returns-in_err-named-clause-asks : goal.returns-in_err-named-clause-asks
returns-in_err-named-clause-asks g c =
    omega (arith, c.loop-n.invariant.asked, places_few _ c.frame.ensures.framed.safe c.loop-n.search.good.words.items c.loop-n.search.followed.words.items)

pub returns-in_err-vec-clause-asks : goal.returns-in_err-vec-clause-asks
returns-in_err-vec-clause-asks g c =
    omega (arith, c.loop-n.invariant.asked, places_few _ c.frame.ensures.framed.safe c.loop-n.search.good.words.items c.loop-n.search.followed.words.items)
