use Rattle.std.proofs.Common.{◌≡◌, ◌+◌, ◌-◌, ◌<◌, arith, rules, inl, inr, ap, sym, ◌∙◌}
use Rattle.std.proofs.lemmas.Bool.{cases_lt, cases_eq}
use Rattle.bplist_objects.specs.declared.frame.Frame.{Frame}
use Rattle.bplist_objects.specs.Framed.{frame_in}
use Rattle.bplist_objects.specs.Safe.{ref_count}
use Rattle.bplist_objects.specs.Scan.{nth_number}
use Rattle.bplist_lint.specs.ReachSearch.{place_index, reference_at}
use Rattle.bplist_lint.proofs.ReachSteps.{reference_at_k, all_good, some_there}
use Rattle.bplist_lint.proofs.BitCounts.{count_more}
use Rattle.bplist_lint.proofs.reach.are_good.Goals as goal

pub loop-number-preserved : goal.loop-number-preserved
loop-number-preserved g c =
    let f = (g.P.Source.means c.args.src.now).octets in
    let F : Frame = frame_in (g.P.Source.means c.args.src.now) in
    let h = c.args.head.now in
    let i = c.loop-number.invariant in
    let j = c.loop-number.number in
    let k = j - c.ref_numbers-first.result.0 in
    let below : k < ref_count h.kind h.count = omega (arith, c.loop-number-test.true, c.ref_numbers-first.ensures.end, i.from) in
    let back : place_index F h.body + k ≡ j = omega (arith, c.ref_numbers-first.ensures.first, i.from) in
    let at_j : reference_at f F j ≡ nth_number f h.body F.ref_size k = ap (reference_at f F) (sym back) ∙ reference_at_k f F h c.frame-frame.ensures.framed.safe.safe.ref_low c.requires.head k below in
    let next = c.next_outside-number-in-loop-number.ensures in
    let same = ap (λ v. v.items) next.words in
    record {
      reads = c.in_ok-reference.ensures.reads ∙ i.reads;
      asked =
          (let inside : j < c.args.good.now.size = omega (arith, c.ref_numbers-first.ensures.within, c.loop-number-test.true, c.requires.size) in
          let more = count_more c.loop-number.good.words.items c.insert.new.self.words.items j c.args.good.now.size inside (i.outside inside) c.insert.ensures.here c.insert.ensures.keeps in
          let one = rw c.frame-frame.ensures.frame at c.in_ok-reference.ensures.asks in
          rw same (omega (arith, i.asked, more, one, c.frame-frame.ensures.framed.safe.safe.ref_high)));
      size = next.size ∙ c.insert.ensures.size ∙ i.size;
      outside = rw same (λ low. next.outside (omega (arith, low, c.insert.ensures.size, i.size)));
      from = omega (arith, next.from, i.from);
      good = λ honest known m is. elim (c.insert.ensures.only m (rw same at is)) [
        | inl old ↦ i.good honest known m old
        | inr e ↦
            let value = (rw (c.frame-frame.ensures.frame, i.reads) at c.in_ok-reference.ensures.value) honest in
            let low_j : reference_at f F j < F.objects = (let low = rw c.frame-frame.ensures.frame at (some_there _ _ c.object.result c.is_none.result c.is_none.ensures c.if-is_none.false c.object.ensures) in omega (arith, at_j, value, low.1.0, low.1.1)) in
            rw e low_j
      ];
      known = λ m low high. rw same (elim (cases_lt m j) [
        | inl first ↦ c.insert.ensures.keeps m (i.known m low first)
        | inr later ↦ elim (cases_eq m j) [
          | inl e ↦ rw e c.insert.ensures.here
          | inr ne ↦ next.before m (omega (arith, later, ne)) high
        ]
      ]);
    }

pub returns-clause-exact : goal.returns-clause-exact
returns-clause-exact g c = λ honest known.
    let h = c.args.head.now in
    let i = c.loop-number.invariant in (
      (λ _. all_good _ _ h c.frame-frame.ensures.framed.safe.safe.ref_low c.requires.head c.loop-number.good.words.items (i.good honest known) (λ k low. i.known _ (omega (arith, c.ref_numbers-first.ensures.first)) (omega (arith, low, c.loop-number-test.false, c.ref_numbers-first.ensures.first, c.ref_numbers-first.ensures.end)))),
      (λ _. search rules),
    )
