use Rattle.std.proofs.Common.{ℕ, ◌+◌, ◌*◌, ◌≤◌, List, None, length, subst, sym, arith}
use Rattle.bplist_objects.specs.declared.frame.Frame.{Frame}
use Rattle.bplist_objects.specs.Answers.{Never}
use Rattle.bplist_objects.specs.Framed.{HonestlyIn, frame_in}
use Rattle.bplist_cert.specs.Lists.{lists}
use Rattle.bplist_cert.proofs.CheckSteps.{on_err}
use Rattle.bplist_lint.specs.FileFault.{IsFileCircle, IsFileFault}
use Rattle.bplist_lint.specs.Linted.{IsLintedBy, lint_of}
use Rattle.bplist_lint.specs.ReachWalk.{NamesMarked}
use Rattle.bplist_lint.specs.Upgraded.{IsUpgraded}
use Rattle.bplist_lint.proofs.Passes.{check_means, reached_room}
use Rattle.bplist_lint.proofs.linter.certify_by_ranks.Given.{Over}
use Rattle.bplist_lint.proofs.linter.certify_by_ranks.Goals.{After-list_by_ranks}
use Rattle.bplist_lint.proofs.linter.certify_by_ranks.Goals as goal

pub check_keys-requires-clause-known : goal.check_keys-requires-clause-known
check_keys-requires-clause-known g c = rw c.in_ok-ranks.ensures.reads (λ honest.
    let known = c.requires.walked honest in
    record { walked = known.0; named = c.args.named.marks.items; all = known.1; classes = (c.in_ok-ranks.ensures.exact honest).classes })

pub returns-in_err-heights-clause-exact : goal.returns-in_err-heights-clause-exact
returns-in_err-heights-clause-exact g c = λ honest.
    let told = (rw c.in_ok-ranks.ensures.reads at c.in_err-heights.ensures.exact) honest in
    on_err _ _ _ _ c.from_residual-in_err-heights.ensures.1 (check_means _ _ (IsFileCircle _) c.in_err-heights.field-0.0 (λ fault h. h) told)

pub returns-in_err-list_by_ranks-clause-exact : goal.returns-in_err-list_by_ranks-clause-exact
returns-in_err-list_by_ranks-clause-exact g c = λ honest.
    let known = c.requires.walked honest in
    let ranks = c.in_ok-ranks.ensures.exact honest in
    let linted = (rw (c.in_ok-heights.ensures.reads, c.in_ok-ranks.ensures.reads) at c.in_ok-heights-2.ensures.exact) honest in
    let never = (rw (c.in_ok-heights-2.ensures.reads, c.in_ok-heights.ensures.reads, c.in_ok-ranks.ensures.reads, c.in_ok-heights.ensures.same) at c.in_err-list_by_ranks.ensures.exact) honest linted.valid (_, ranks, λ n v. known.1 n (linted.least.only n v)) in
    on_err _ _ _ _ c.from_residual-in_err-list_by_ranks.ensures.1 (check_means Never (IsFileFault _) (IsFileCircle _) c.in_err-list_by_ranks.field-0.0 (λ fault h. absurd h) never)

pub returns-clause-exact : goal.returns-clause-exact
returns-clause-exact g c = λ honest.
    let known = c.requires.walked honest in
    let ranks = c.in_ok-ranks.ensures.exact honest in
    let linted = (rw (c.in_ok-heights.ensures.reads, c.in_ok-ranks.ensures.reads) at c.in_ok-heights-2.ensures.exact) honest in
    let listed = (rw (c.in_ok-heights-2.ensures.reads, c.in_ok-heights.ensures.reads, c.in_ok-ranks.ensures.reads, c.in_ok-heights.ensures.same) at c.in_ok-list_by_ranks.ensures.exact) honest linted.valid (_, ranks, λ n v. known.1 n (linted.least.only n v)) in
    let f = (g.P.Source.means c.args.src.now).octets in
    let F : Frame = frame_in (g.P.Source.means c.args.src.now) in
    subst (λ (hs : List ℕ). IsLintedBy f F (lint_of F (lists hs None) c.args.reached.tally) × IsUpgraded f F hs c.in_ok-list_by_ranks.field-0) (sym c.in_ok-list_by_ranks.ensures.heights) (linted, listed)

pub returns-in_err-ranks-clause-asks : goal.returns-in_err-ranks-clause-asks
returns-in_err-ranks-clause-asks g c = λ honest only.
    let fits = reached_room _ _ (c.frame-frame.ensures.framed.framed honest) c.args.reached c.requires.fits c.args.named.marks.items c.requires.all_named (c.requires.walked honest).0 only in
    omega (arith, c.known_ranks.ensures.asks honest fits.0, fits.2)

pub returns-in_err-heights-clause-asks : goal.returns-in_err-heights-clause-asks
returns-in_err-heights-clause-asks g c = λ honest only.
    let fits = reached_room _ _ (c.frame-frame.ensures.framed.framed honest) c.args.reached c.requires.fits c.args.named.marks.items c.requires.all_named (c.requires.walked honest).0 only in
    let keys = (rw c.in_ok-ranks.ensures.reads at c.check_keys.ensures.asks) honest in
    omega (arith, c.known_ranks.ensures.asks honest fits.0, keys, fits.1, fits.2)

pub returns-in_err-heights-2-clause-asks : goal.returns-in_err-heights-2-clause-asks
returns-in_err-heights-2-clause-asks g c = λ honest only.
    let fits = reached_room _ _ (c.frame-frame.ensures.framed.framed honest) c.args.reached c.requires.fits c.args.named.marks.items c.requires.all_named (c.requires.walked honest).0 only in
    let keys = (rw c.in_ok-ranks.ensures.reads at c.check_keys.ensures.asks) honest in
    let heights = (rw (c.in_ok-heights.ensures.reads, c.in_ok-ranks.ensures.reads) at c.finish.ensures.asks) honest in
    omega (arith, c.known_ranks.ensures.asks honest fits.0, keys, heights, fits.1, fits.2)

-- what was asked for in all
asked : (g : Over) (c : After-list_by_ranks g) → HonestlyIn (g.P.Source.means c.args.src.now) (λ f F. NamesMarked c.args.reached.marks.items c.args.named.marks.items
    → g.P.Source.asked c.list_by_ranks.new.src ≤ g.P.Source.asked c.args.src.now + (2 * length f + 15 * F.table + 1596 * F.objects + 292))
asked g c honest only =
    let fits = reached_room _ _ (c.frame-frame.ensures.framed.framed honest) c.args.reached c.requires.fits c.args.named.marks.items c.requires.all_named (c.requires.walked honest).0 only in
    let keys = (rw c.in_ok-ranks.ensures.reads at c.check_keys.ensures.asks) honest in
    let heights = (rw (c.in_ok-heights.ensures.reads, c.in_ok-ranks.ensures.reads) at c.finish.ensures.asks) honest in
    let linted = (rw (c.in_ok-heights.ensures.reads, c.in_ok-ranks.ensures.reads) at c.in_ok-heights-2.ensures.exact) honest in
    let listed = (rw (c.in_ok-heights-2.ensures.reads, c.in_ok-heights.ensures.reads, c.in_ok-ranks.ensures.reads) at c.list_by_ranks.ensures.asks) honest c.args.reached.marks.items (λ n v. ((c.requires.walked honest).0.marked n).1 (linted.least.only n v)) in
    omega (arith, c.known_ranks.ensures.asks honest fits.0, keys, heights, listed, fits.1, fits.2)

pub returns-in_err-list_by_ranks-clause-asks : goal.returns-in_err-list_by_ranks-clause-asks
returns-in_err-list_by_ranks-clause-asks g c = asked g (goal.at.returns-in_err-list_by_ranks-clause-asks g c).After-list_by_ranks

pub returns-clause-asks : goal.returns-clause-asks
returns-clause-asks g c = asked g (goal.at.returns-clause-asks g c).After-list_by_ranks
