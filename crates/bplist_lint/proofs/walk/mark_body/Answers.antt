use Rattle.std.proofs.Common.{◌≡◌, ◌*◌, ap, ◌+◌, ◌<◌, ◌≤◌, arith, inl, inr, length, refl, sym, ◌∙◌}
use Rattle.bplist_objects.specs.declared.frame.Frame.{Frame}
use Rattle.bplist_objects.specs.Framed.{frame_in}
use Rattle.bplist_objects.specs.Heads.{content_at, refs}
use Rattle.bplist_objects.specs.Safe.{ref_count}
use Rattle.bplist_objects.specs.Scan.{ref}
use Rattle.bplist_objects.proofs.BlockSteps.{still_of, block_is, each_more}
use Rattle.bplist_objects.proofs.BodyLaws.{refs_fit}
use Rattle.bplist_objects.proofs.References.{length-refs, nth-refs}
use Rattle.bplist_objects.proofs.ScanLaws.{asked_within}
use Rattle.bplist_keys.specs.Marks.{IsMarked}
use Rattle.bplist_lint.proofs.MarkSteps.{noted_more, named_front, front_marked}
use Rattle.bplist_lint.proofs.walk.mark_body.Goals as goal

pub loop-refs-preserved : goal.loop-refs-preserved
loop-refs-preserved g c =
    let i = c.loop-refs.invariant in
    let f = (g.P.Source.means c.args.src.now).octets in
    let F : Frame = frame_in (g.P.Source.means c.args.src.now) in
    let h = c.args.head.now in
    let from = c.loop-refs.refs.next in
    let lent = c.block-block.result.now in
    let names = c.insert_all.new.self.marks.items in
    let block = block_is i.reads i.of c.block-block.ensures (c.in_ok-read.ensures.next c.if-branch.true) in
    let marked = c.in_ok-mark_block.ensures in
    let below_block = rw c.frame-frame.ensures.frame at marked.below in
    let most : from + length lent ≤ ref_count h.kind h.count = omega (arith, block.long, block.within) in
    record {
      reads = c.in_ok-read.ensures.reads ∙ i.reads;
      asked = omega (arith, i.asked, rw i.reads at c.in_ok-read.ensures.asks_block);
      of = still_of i.of c.in_ok-read.ensures.same;
      steady = rw c.frame-frame.ensures.frame at marked.steady;
      worked = record { current = marked.worked.current ∙ i.worked.current; work = omega (arith, marked.worked.work, i.worked.work) };
      names = record { all = c.insert_all.ensures.all ∙ i.names.all; keeps = λ m h. c.insert_all.ensures.keeps m (i.names.keeps m h) };
      only = λ before m is. elim (c.insert_all.ensures.only m is) [
        | inl old ↦ marked.noted.keeps_marks m (i.only before m old)
        | inr found ↦ front_marked c.keys_among.result lent c.mark_block.new.worklist.marks.items m found marked.noted.all
      ];
      named = λ honest dict. each_more (λ k. k < h.count → IsMarked names (ref f F h k)) block
          (λ k low key. c.insert_all.ensures.keeps _ (i.named honest dict k low key))
          (λ j low key.
          let is = block.numbers honest j low in
          let there : j < c.keys_among.result = (c.keys_among.ensures.keys dict j low).1 (rw (c.first.ensures, c.in_ok-read.ensures.first c.if-branch.true) key) in
          named_front c.keys_among.result lent names j (ref f F h (from + j)) there c.keys_among.ensures.few is (omega (arith, rw is at (below_block j low), c.insert_all.ensures.all, i.names.all)) c.insert_all.ensures.named);
      below = λ honest. each_more (λ k. ref f F h k < F.objects) block (i.below honest) (λ j low. rw (block.numbers honest j low) at (below_block j low));
      noted = λ honest. rw block.long at (noted_more (refs (content_at f F h)) (c.args.worklist.now.current + 1) c.args.worklist.now.marks.items c.args.worklist.now.stack.items from c.loop-refs.worklist.marks.items c.loop-refs.worklist.stack.items (i.noted honest)
          lent (length lent) c.mark_block.new.worklist.marks.items c.mark_block.new.worklist.stack.items
          (omega (arith, most, length-refs f F h.kind h.count h.body)) refl
          (λ k low. block.numbers honest k low ∙ sym (nth-refs f F h.kind h.count h.body (from + k) (omega (arith, low, most))))
          (rw i.worked.current at marked.noted));
    }

pub returns-in_err-read-clause-asks : goal.returns-in_err-read-clause-asks
returns-in_err-read-clause-asks g c =
    let i = c.loop-refs.invariant in
    let F : Frame = frame_in (g.P.Source.means c.args.src.now) in
    let h = c.args.head.now in
    let fit = refs_fit F.ref_size h.count h.kind c.frame-frame.ensures.framed.safe.safe.ref_low in
    let all : c.loop-refs.refs.bound * F.ref_size ≡ ref_count h.kind h.count * F.ref_size = ap (λ n. n * F.ref_size) i.of.same_bound in
    omega (arith, i.asked, rw i.reads at c.in_err-read.ensures.asks, all, fit.0, c.requires.head.body)

pub returns-in_err-mark_block-clause-asks : goal.returns-in_err-mark_block-clause-asks
returns-in_err-mark_block-clause-asks g c =
    let i = c.loop-refs.invariant in
    let F : Frame = frame_in (g.P.Source.means c.args.src.now) in
    let h = c.args.head.now in
    let fit = refs_fit F.ref_size h.count h.kind c.frame-frame.ensures.framed.safe.safe.ref_low in
    let block = block_is i.reads i.of c.block-block.ensures (c.in_ok-read.ensures.next c.if-branch.true) in
    let read = rw i.reads at c.in_ok-read.ensures.asks_block in
    let all = asked_within (g.P.Source.asked c.args.src.now) (g.P.Source.asked c.read.new.src) c.read.new.self.next (ref_count h.kind h.count) F.ref_size (omega (arith, i.asked, read)) block.within in
    omega (arith, all, fit.0, c.requires.head.body)

pub returns-clause-asks : goal.returns-clause-asks
returns-clause-asks g c =
    let i = c.loop-refs.invariant in
    let F : Frame = frame_in (g.P.Source.means c.args.src.now) in
    let h = c.args.head.now in
    let fit = refs_fit F.ref_size h.count h.kind c.frame-frame.ensures.framed.safe.safe.ref_low in
    let end = c.in_ok-read.ensures.end c.if-branch.false in
    let all = asked_within (g.P.Source.asked c.args.src.now) _ c.loop-refs.refs.next (ref_count h.kind h.count) F.ref_size i.asked (omega (arith, end.1, i.of.same_bound)) in
    let same : c.loop-refs.refs.next * F.ref_size ≡ c.loop-refs.refs.bound * F.ref_size = ap (λ n. n * F.ref_size) end.1 in
    omega (arith, all, rw i.reads at c.in_ok-read.ensures.asks, same, fit.0, c.requires.head.body)
