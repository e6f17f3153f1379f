use Rattle.std.proofs.Common.{◌≡◌, ℕ, ◌+◌, ◌<◌, ◌≤◌, ◌++◌, min, None, List, length, take, drop, slice_index, refl, ◌∙◌, inl, inr, ap, subst, arith}
use Rattle.std.proofs.lemmas.Grind.{common_steps}
use Rattle.std.proofs.lemmas.List.{get_or_append_left}
use Rattle.bplist_objects.specs.declared.frame.Frame.{Frame}
use Rattle.bplist_objects.specs.Framed.{HonestlyIn, frame_in}
use Rattle.bplist_objects.specs.Safe.{ref_count}
use Rattle.bplist_objects.specs.Scan.{ref}
use Rattle.bplist_objects.proofs.HeadTies.{shape_announced}
use Rattle.bplist_objects.proofs.ScanLaws.{asked_on, asked_within}
use Rattle.bplist_lint.proofs.ExtentBytes.{refs_bytes}
use Rattle.bplist_keys.specs.Classes.{HaveSeenKeys}
use Rattle.bplist_cert.specs.KeyRepeats.{HasGoodKeys}
use Rattle.bplist_cert.proofs.KeyRepeats.{keys_inside, good_at, classed_texts, apart_differ}
use Rattle.bplist_objects.specs.KeyCounts.{key_count}
use Rattle.bplist_lint.proofs.ContainerSteps.{keys_next, keys_few, measured_next, measured_all, of_checked}
use Rattle.bplist_lint.specs.ReachWalk.{extent}
use Rattle.bplist_lint.proofs.containers.container_height.Given.{Over}
use Rattle.bplist_lint.proofs.containers.container_height.Goals.{After-read_refs_in}
use Rattle.bplist_lint.proofs.containers.container_height.Goals as goal

pub loop-done-preserved : goal.loop-done-preserved
loop-done-preserved g c =
    let i = c.loop-done.invariant in
    let m = g.P.Source.means c.args.src.now in
    let f = m.octets in
    let F : Frame = frame_in m in
    let head = c.in-Some.head in
    let done = c.loop-done.done in
    let now = c.min-now.result in
    let into = c.read_refs_in.new.into in
    let block : List ℕ = into ++ drop now c.loop-done.block in
    let long : length into ≡ now = grind (arith, common_steps) in
    let room : length block ≡ length c.args.block.now = grind (arith, common_steps) in
    let short : length (take now c.loop-done.block) ≡ now = grind (arith, common_steps) in
    let low : done + now ≤ ref_count head.kind head.count = omega (arith, c.min-now.ensures, c.refs_of-refs.ensures, i.within) in
    record {
      reads = c.in_ok-read_refs_in.ensures.reads ∙ i.reads;
      asked = asked_on (g.P.Source.asked c.args.src.now + 36) _ _ done now F.ref_size i.asked (rw (i.reads, short) at c.read_refs_in.ensures.asks);
      room = room;
      within = omega (arith, low, c.refs_of-refs.ensures);
      same = c.are_new.ensures.same ∙ i.same;
      stamped = λ x. elim (c.are_new.ensures.stamped x) [
        | inl here ↦ inl here
        | inr same ↦ elim (i.stamped x) [ inl before ↦ inl (same ∙ before) | inr none ↦ inr (same ∙ none) ]
      ];
      seen = λ honest new dict.
          let are : (k : ℕ) → k < now → slice_index block k ≡ ref f F head (done + k) = λ k l. get_or_append_left into (drop now c.loop-done.block) 0 k (omega (arith, l, long)) ∙ (rw i.reads at c.in_ok-read_refs_in.ensures.numbers) honest k (omega (arith, l, long)) in
          let many = c.keys_among.ensures.value in
          let all : key_count head.kind head.count ≡ head.count = ap (λ kind. key_count kind head.count) dict in
          let seen = (rw (i.same, c.min.ensures) at c.are_new.ensures.seen) (ref f F head) (keys_next head done now block (ref f F head) dict are c.split_at.result.0.now c.keys_among.result many c.split_at.ensures.front c.split_at.ensures.front_len) (i.seen honest new dict) c.if-not-are_new.false in
          subst (λ count. HaveSeenKeys (ref f F head) c.args.table.now.classes.table.items c.args.n c.are_new.new.self.seen.items count None) (omega (arith, many, all, c.split_at.ensures.front_len)) seen;
      measured = λ honest kept.
          let are : (k : ℕ) → k < now → slice_index block k ≡ ref f F head (done + k) = λ k l. get_or_append_left into (drop now c.loop-done.block) 0 k (omega (arith, l, long)) ∙ (rw i.reads at c.in_ok-read_refs_in.ensures.numbers) honest k (omega (arith, l, long)) in
          let has = rw c.in-Some.is at (c.in_ok-head.ensures.shape honest) in
          let framed = c.frame-frame.ensures.framed.framed honest in
          rw c.max-best.ensures (measured_next f F c.args.n framed c.requires.within kept head has c.args.heights.now done now block low (omega (arith, c.min-now.ensures, room, i.room)) are c.split_at.result.1.now
          (rw c.keys_among.ensures.value at c.split_at.ensures.back) c.loop-done.best c.in-Some-greatest_height.height (i.measured honest kept) c.in-Some-greatest_height.ensures);
    }

pub returns-clause-exact : goal.returns-clause-exact
returns-clause-exact g c = λ honest kept keys new.
    let i = c.loop-done.invariant in
    let f = (g.P.Source.means c.args.src.now).octets in
    let F : Frame = frame_in (g.P.Source.means c.args.src.now) in
    let framed = c.frame-frame.ensures.framed.framed honest in
    let n = c.args.n in
    let head = c.in-Some.head in
    let classes = c.args.table.now.classes.table.items in
    let shape = rw c.in-Some.is at (c.in_ok-head.ensures.shape honest) in
    let has = shape_announced f F n head shape in
    let over : ref_count head.kind head.count ≤ c.loop-done.done = omega (arith, c.refs_of-refs.ensures, c.loop-done-test.false) in
    let good : HasGoodKeys f F None n = good_at f F None n head has (λ dict.
    let known = keys head has dict in
    let inside = keys_inside f F n kept head has dict in
    let all : key_count head.kind head.count ≡ head.count = ap (λ kind. key_count kind head.count) dict in
    let done : min c.loop-done.done head.count ≡ head.count = omega (arith, over, all, keys_few head.kind head.count) in
    let seen = rw done at (i.seen honest new dict) in
    (classed_texts f F head classes known.0 framed known.1 inside head.count (omega arith) seen.texts, apart_differ f F head classes known.0 head.count (omega arith) seen.first)) in
    of_checked c.checked_add.result _ _ _ c.checked_add.ensures (good, (c.loop-done.best, measured_all f F n framed c.requires.within kept head shape c.args.heights.now c.loop-done.done c.loop-done.best over (i.measured honest kept), refl))

-- what was asked for after one more block
asked : (g : Over) (c : After-read_refs_in g) → HonestlyIn (g.P.Source.means c.args.src.now) (λ f F. g.P.Source.asked c.read_refs_in.new.src ≤ g.P.Source.asked c.args.src.now + (36 + extent f F c.args.n))
asked g c honest =
    let i = c.loop-done.invariant in
    let F : Frame = frame_in (g.P.Source.means c.args.src.now) in
    let head = c.in-Some.head in
    let shape = rw c.in-Some.is at (c.in_ok-head.ensures.shape honest) in
    let start = g.P.Source.asked c.args.src.now + 36 in
    let done = c.loop-done.done in
    let now = c.min-now.result in
    let short : length (take now c.loop-done.block) ≡ now = grind (arith, common_steps) in
    let low : done + now ≤ ref_count head.kind head.count = omega (arith, c.min-now.ensures, c.refs_of-refs.ensures, i.within) in
    let read = asked_on start _ _ done now F.ref_size i.asked (rw (i.reads, short) at c.read_refs_in.ensures.asks) in
    let all = asked_within start _ (done + now) (ref_count head.kind head.count) F.ref_size read low in
    omega (arith, all, refs_bytes _ F c.args.n head c.frame-frame.ensures.framed.safe.safe.ref_low shape)

pub returns-in_err-read_refs_in-clause-asks : goal.returns-in_err-read_refs_in-clause-asks
returns-in_err-read_refs_in-clause-asks g c = asked g (goal.at.returns-in_err-read_refs_in-clause-asks g c).After-read_refs_in

pub returns-then-not-are_new-clause-asks : goal.returns-then-not-are_new-clause-asks
returns-then-not-are_new-clause-asks g c = asked g (goal.at.returns-then-not-are_new-clause-asks g c).After-read_refs_in

pub returns-in_default-greatest_height-clause-asks : goal.returns-in_default-greatest_height-clause-asks
returns-in_default-greatest_height-clause-asks g c = asked g (goal.at.returns-in_default-greatest_height-clause-asks g c).After-read_refs_in

pub returns-clause-asks : goal.returns-clause-asks
returns-clause-asks g c = λ honest.
    let i = c.loop-done.invariant in
    let F : Frame = frame_in (g.P.Source.means c.args.src.now) in
    let head = c.in-Some.head in
    let shape = rw c.in-Some.is at (c.in_ok-head.ensures.shape honest) in
    let fit = refs_bytes _ F c.args.n head c.frame-frame.ensures.framed.safe.safe.ref_low shape in
    let start = g.P.Source.asked c.args.src.now + 36 in
    let all = asked_within start _ c.loop-done.done (ref_count head.kind head.count) F.ref_size i.asked (omega (arith, i.within, c.refs_of-refs.ensures)) in
    omega (arith, all, fit)
