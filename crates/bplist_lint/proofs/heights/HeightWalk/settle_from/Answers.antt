use Rattle.std.proofs.Common.{◌≡◌, ◌≢◌, ◌<◌, ◌≤◌, ◌+◌, ℕ, ◌++◌, ◌∷◌, [], Bool, List, IsTrue, length, get_or, refl, sym, ◌∙◌, arith}
use Rattle.std.proofs.lemmas.Grind.{common_steps}
use Rattle.std.proofs.lemmas.List.{get_or_push, get_or_read, length_push, get_or-set_same, get_or-set_other}
use Rattle.bplist_keys.specs.Marks.{IsMarked}
use Rattle.bplist_lint.specs.HeightWalks.{state_at, AreClosed, Walks, left_of}
use Rattle.bplist_lint.specs.declared.heights.State.TheVariants.{New, Open, Founded, Circular}
use Rattle.bplist_lint.proofs.HeightCosts.{left_settle, left_opens, left_resumes, left_open}
use Rattle.bplist_lint.proofs.HeightSteps.{stays_known, settles_more, no_height, met_on, top_open, top_within, top_room, top_marked, standing_back, standing_open, standing_settle, work_settle, walking_slot, walking_open, walking_settle, not_founded, least_height, among_at}
use Rattle.bplist_lint.proofs.heights.HeightWalk.settle_from.Given.{Over}
use Rattle.bplist_lint.proofs.heights.HeightWalk.settle_from.Goals.{After-look_on}
use Rattle.bplist_lint.proofs.heights.HeightWalk.settle_from.Goals as goal

pub look_on-requires-clause-n_in : goal.look_on-requires-clause-n_in
look_on-requires-clause-n_in g c =
    let i = c.loop-m.invariant in rw i.same (top_within _ _ _ _ _ (rw c.in-Some.ensures.items at i.standing))

pub index_mut-requires : goal.index_mut-requires
index_mut-requires g c =
    let s = rw c.in-Some.ensures.items at c.loop-m.invariant.standing in omega (arith, top_within _ _ _ _ _ s, s.all_heights)

pub loop-m-preserved-in-Continue-branch-5 : goal.loop-m-preserved-in-Continue-branch-5
loop-m-preserved-in-Continue-branch-5 g c =
    let i = c.loop-m.invariant in
    let graph = g.R.References.graph c.args.graph.now in
    let m = c.in-Some.m in
    let next = c.in-New-2.next in
    let states = c.loop-m.self.states.items in
    let heights = c.loop-m.self.heights.items in
    let stack = c.pop.new.self.items in
    let s = rw c.in-Some.ensures.items at i.standing in
    let new = rw c.in-New-2.is at (rw i.same at c.in_ok-i.ensures.finds) in
    let within : next < length states = omega (arith, new.0, s.all_states) in
    let heights' = c.open-in-New-2.new.self.heights.items in
    let long : length heights' ≡ length heights = grind (arith, common_steps) in
    let others : (k : ℕ) → k ≢ m → get_or heights' k 0 ≡ get_or heights k 0 = λ k ne. rw c.open-in-New-2.ensures.heights (get_or-set_other heights m k (c.min.result + 1) 0 ne) in
    record {
      same = c.look_on.ensures.same ∙ i.same;
      reads = c.in_ok-i.ensures.reads ∙ i.reads;
      standing = rw (c.open-in-New-2.ensures.states, c.in_ok-open-in-New-2.ensures.stack, c.in_ok-push-in-New-2.ensures.items)
          (standing_open _ _ _ _ next (standing_back _ _ _ _ _ s heights' long others) new.0 new.1);
      settles = settles_more _ _ _ _ next Open within (λ e. cc e) c.open-in-New-2.ensures.states i.settles;
      walking = λ honest marks closed marked w0.
          let b = i.walking honest marks closed marked w0 in
          let w = rw c.in-Some.ensures.items at b.0 in
          let is = top_marked _ _ _ _ _ _ m s w in
          let own = closed m is in
          let opened = top_open _ _ _ _ m s in
          let shows = rw c.in-New-2.is at ((rw (i.same, i.reads) at c.in_ok-i.ensures.shows) honest own.0) in
          let goes = rw c.in-New-2.is at ((rw (i.same, i.reads) at c.in_ok-i.ensures.goes_on) honest own.0 (w.met m opened)) in
          let asked = rw c.in-New-2.is at ((rw (i.same, i.reads) at c.in_ok-i.ensures.asks) honest own.0 (w.met m opened)) in
          let low = top_within _ _ _ _ _ s in
          let slot : get_or heights' m 0 ≡ c.in-New-2.i + 1 = rw (c.open-in-New-2.ensures.heights, get_or-set_same heights m (c.min.result + 1) 0 (omega (arith, low, s.all_heights))) (omega (arith, c.min.ensures, shows.0, own.2)) in
          let zero_slot = no_height _ _ _ _ s next new.1 in
          let other : next ≢ m = λ e. absurd (cc (sym new.1 ∙ (rw (← e) at opened))) in
          let next_is : IsMarked marks next = rw shows.1 (own.1 _ shows.0) in
          let onward = walking_open _ _ _ _ (stack ++ m ∷ []) next w next_is within zero_slot
          (λ k last. let more = length_push stack m in rw (get_or_push stack m 0 k (omega (arith, more, last))) (among_at _ _ _ shows.0 shows.1)) in
          let stays = get_or-set_other states next m Open New (λ e. other (sym e)) ∙ opened in
          let waits = walking_slot _ _ _ _ _ m heights' onward stays others (rw slot (met_on (graph.refs m) states c.in-New-2.i next within shows.0 shows.1 goes.1)) in
          let one = left_resumes graph marks states heights heights' m c.in-New-2.i low is opened shows.0 goes.0 slot others in
          let two = left_opens graph marks states heights' next new.0 s.all_states next_is new.1 (others next other ∙ zero_slot) in
          rw (c.open-in-New-2.ensures.states, c.in_ok-open-in-New-2.ensures.stack, c.in_ok-push-in-New-2.ensures.items) (waits, omega (arith, b.1, asked, one, two));
    }

pub settle-requires-clause-within : goal.settle-requires-clause-within
settle-requires-clause-within g c =
    let s = rw c.in-Some.ensures.items at c.loop-m.invariant.standing in omega (arith, top_within _ _ _ _ _ s, s.all_heights)

pub loop-m-smaller-in-Circular : goal.loop-m-smaller-in-Circular
loop-m-smaller-in-Circular g c =
    let s = rw c.in-Some.ensures.items at c.loop-m.invariant.standing in
    rw (c.settle.ensures.states, c.settle.ensures.stack, c.in-Some.ensures.items) (work_settle _ _ _ _ c.in-Some.m s Circular refl)

pub loop-m-preserved-in-Circular : goal.loop-m-preserved-in-Circular
loop-m-preserved-in-Circular g c =
    let i = c.loop-m.invariant in
    let m = c.in-Some.m in
    let states = c.loop-m.self.states.items in
    let s = rw c.in-Some.ensures.items at i.standing in
    let within : m < length states = omega (arith, top_within _ _ _ _ _ s, s.all_states) in
    record {
      same = c.look_on.ensures.same ∙ i.same;
      reads = c.in_ok-i.ensures.reads ∙ i.reads;
      standing = rw (c.settle.ensures.states, c.settle.ensures.heights, c.settle.ensures.stack)
          (standing_settle _ _ _ _ m s Circular 0 (λ e. cc e) refl (λ e. cc e) (λ h. absurd (omega arith)));
      settles = settles_more _ _ _ _ m Circular within (λ e. cc e) c.settle.ensures.states i.settles;
      walking = λ honest marks closed marked w0.
          let b = i.walking honest marks closed marked w0 in
          let w = rw c.in-Some.ensures.items at b.0 in
          let is = top_marked _ _ _ _ _ _ m s w in
          let opened = top_open _ _ _ _ m s in
          let shows = rw c.in-Circular.is at ((rw (i.same, i.reads) at c.in_ok-i.ensures.shows) honest (closed m is).0) in
          let asked = rw c.in-Circular.is at ((rw (i.same, i.reads) at c.in_ok-i.ensures.asks) honest (closed m is).0 (w.met m opened)) in
          let left = left_settle (g.R.References.graph c.args.graph.now) marks states c.loop-m.self.heights.items m 0 Circular (top_within _ _ _ _ _ s) s.all_states is opened (λ slot count. refl) in
          rw (c.settle.ensures.states, c.settle.ensures.heights, c.settle.ensures.stack) (
            walking_settle _ _ _ _ _ _ m s w Circular 0 (λ e. cc e) (λ e. cc e) (λ e. cc e) (λ _. not_founded _ _ _ _ _ _ m s w shows.0 shows.1 shows.2),
            omega (arith, b.1, asked, left),
          );
    }

pub overflow_add-best : goal.overflow_add-best
overflow_add-best g c =
    let s = rw c.in-Some.ensures.items at c.loop-m.invariant.standing in
    omega (arith, (rw c.in-Founded.is at c.in_ok-i.ensures.finds) _ s.low, top_room _ _ _ _ _ s, c.requires.fits)

pub settle-requires-in-Founded-clause-within : goal.settle-requires-in-Founded-clause-within
settle-requires-in-Founded-clause-within g c =
    let s = rw c.in-Some.ensures.items at c.loop-m.invariant.standing in omega (arith, top_within _ _ _ _ _ s, s.all_heights)

pub loop-m-smaller : goal.loop-m-smaller
loop-m-smaller g c =
    let s = rw c.in-Some.ensures.items at c.loop-m.invariant.standing in
    rw (c.settle-in-Founded.ensures.states, c.settle-in-Founded.ensures.stack, c.in-Some.ensures.items) (work_settle _ _ _ _ c.in-Some.m s Founded refl)

pub loop-m-preserved : goal.loop-m-preserved
loop-m-preserved g c =
    let i = c.loop-m.invariant in
    let m = c.in-Some.m in
    let states = c.loop-m.self.states.items in
    let s = rw c.in-Some.ensures.items at i.standing in
    let within : m < length states = omega (arith, top_within _ _ _ _ _ s, s.all_states) in
    let low = (rw c.in-Founded.is at c.in_ok-i.ensures.finds) _ s.low in
    let settled = c.settle-in-Founded.ensures in
    record {
      same = c.look_on.ensures.same ∙ i.same;
      reads = c.in_ok-i.ensures.reads ∙ i.reads;
      standing = rw (settled.states, settled.heights, settled.stack)
          (standing_settle _ _ _ _ m s Founded _ (λ e. cc e) refl (λ _. omega (arith, low)) (λ _. refl));
      settles = settles_more _ _ _ _ m Founded within (λ e. cc e) settled.states i.settles;
      walking = λ honest marks closed marked w0.
          let b = i.walking honest marks closed marked w0 in
          let w = rw c.in-Some.ensures.items at b.0 in
          let is = top_marked _ _ _ _ _ _ m s w in
          let opened = top_open _ _ _ _ m s in
          let shows = (rw c.in-Founded.is at ((rw (i.same, i.reads) at c.in_ok-i.ensures.shows) honest (closed m is).0)) refl in
          let asked = rw c.in-Founded.is at ((rw (i.same, i.reads) at c.in_ok-i.ensures.asks) honest (closed m is).0 (w.met m opened)) in
          let left = left_settle (g.R.References.graph c.args.graph.now) marks states c.loop-m.self.heights.items m (c.in-Founded.best + 1) Founded (top_within _ _ _ _ _ s) s.all_states is opened (λ slot count. refl) in
          rw (settled.states, settled.heights, settled.stack) (
            walking_settle _ _ _ _ _ _ m s w Founded _ (λ e. cc e) (λ e. cc e) (λ _. least_height _ _ _ _ _ _ m s w c.in-Founded.best shows.0 shows.1) (λ e. cc e),
            omega (arith, b.1, asked, left),
          );
    }

pub loop-m-init : goal.loop-m-init
loop-m-init g c =
    let n = c.args.n in
    let states = c.args.self.now.states.items in
    let heights = c.args.self.now.heights.items in
    let s = c.requires.rests.standing in
    let within : n < length states = omega (arith, c.requires.n_in, s.all_states) in
    let none : c.args.self.now.stack.items ≡ [] = (let empty = c.requires.rests.empty in grind (arith, common_steps)) in
    let new : state_at states n ≡ New = sym (get_or_read states n c.index.result.now within c.index.ensures New) ∙ c.in-New.is in
    let zero_slot = no_height _ _ _ _ s n new in
    record {
      same = refl;
      reads = refl;
      standing = rw (c.open.ensures.states, c.open.ensures.heights, c.in_ok-open.ensures.stack, none) (standing_open _ _ _ _ n s c.requires.n_in new);
      settles = record {
        sees = rw (c.open.ensures.states, get_or-set_same states n Open New within) (λ e. cc e);
        keeps = λ k known. rw c.open.ensures.states (stays_known states n Open within (λ e. cc e) k known);
      };
      walking = λ honest marks closed marked w0.
          let left = left_opens (g.R.References.graph c.args.graph.now) marks states heights n c.requires.n_in s.all_states marked new zero_slot in
          rw (c.open.ensures.states, c.open.ensures.heights, c.in_ok-open.ensures.stack, none) (walking_open _ _ _ _ [] n w0 marked within zero_slot (λ k last. absurd (omega (arith, last))), omega (arith, left));
    }

-- what was asked for after a scan, whatever it found
scanned : (g : Over) (c : After-look_on g) → IsTrue (g.R.References.means c.args.graph.now).honest → (marks : List Bool) → AreClosed (g.R.References.graph c.args.graph.now) marks → IsMarked marks c.args.n → Walks (g.R.References.graph c.args.graph.now).refs marks c.args.self.now
    → g.R.References.asked c.look_on.new.graph ≤ g.R.References.asked c.args.graph.now + (292 + left_of (g.R.References.graph c.args.graph.now) marks c.args.self.now.states.items c.args.self.now.heights.items)
scanned g c honest marks closed marked w0 =
    let i = c.loop-m.invariant in
    let m = c.in-Some.m in
    let s = rw c.in-Some.ensures.items at i.standing in
    let b = i.walking honest marks closed marked w0 in
    let w = rw c.in-Some.ensures.items at b.0 in
    let is = top_marked _ _ _ _ _ _ m s w in
    let opened = top_open _ _ _ _ m s in
    let asked = (rw (i.same, i.reads) at c.look_on.ensures.asks_any) honest (closed m is).0 (w.met m opened) in
    let left = left_open (g.R.References.graph c.args.graph.now) marks c.loop-m.self.states.items c.loop-m.self.heights.items m (top_within _ _ _ _ _ s) is opened in
    omega (arith, b.1, asked, left)

pub returns-in_err-i-clause-asks : goal.returns-in_err-i-clause-asks
returns-in_err-i-clause-asks g c = scanned g (goal.at.returns-in_err-i-clause-asks g c).After-look_on

pub returns-in_err-push-in-New-2-clause-asks : goal.returns-in_err-push-in-New-2-clause-asks
returns-in_err-push-in-New-2-clause-asks g c = scanned g (goal.at.returns-in_err-push-in-New-2-clause-asks g c).After-look_on

pub returns-in_err-open-in-New-2-clause-asks : goal.returns-in_err-open-in-New-2-clause-asks
returns-in_err-open-in-New-2-clause-asks g c = scanned g (goal.at.returns-in_err-open-in-New-2-clause-asks g c).After-look_on
