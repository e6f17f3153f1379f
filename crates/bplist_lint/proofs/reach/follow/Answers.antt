use Rattle.std.proofs.Common.{◌≡◌, ◌+◌, ◌-◌, ◌<◌, IsTrue, false, length, arith, inl, inr, refl, ap, sym, subst, ◌∙◌}
use Rattle.std.proofs.lemmas.Bool.{cases_lt, cases_eq}
use Rattle.std.proofs.lemmas.List.{get_or_read}
use Rattle.bplist_objects.specs.declared.frame.Frame.{Frame}
use Rattle.bplist_objects.specs.Framed.{frame_in}
use Rattle.bplist_objects.specs.Heads.{content_at, refs}
use Rattle.bplist_objects.specs.Safe.{ref_count}
use Rattle.bplist_objects.specs.Scan.{AreBelow, nth_number}
use Rattle.bplist_objects.proofs.References.{length-refs, nth-refs}
use Rattle.bplist_keys.specs.Marks.{IsMarked}
use Rattle.bplist_lint.specs.ReachSearch.{place_index, reference_at}
use Rattle.bplist_lint.specs.declared.bit_set.BitSet.{BitSet}
use Rattle.bplist_lint.proofs.ReachSteps.{Takes, takes_new, takes_old, reference_at_k, all_marked}
use Rattle.bplist_lint.proofs.HeightSteps.{among_at}
use Rattle.bplist_lint.proofs.BitCounts.{count_more}
use Rattle.bplist_lint.proofs.reach.follow.Goals as goal
use Rattle.bplist_lint.proofs.reach.follow.Goals.{then-not-index+in_ok-push, else-not-index}

pub loop-number-preserved : goal.loop-number-preserved
loop-number-preserved g c =
    let f = (g.P.Source.means c.args.src.now).octets in
    let F : Frame = frame_in (g.P.Source.means c.args.src.now) in
    let h = c.args.head.now in
    let i = c.loop-number.invariant in
    let j = c.loop-number.number in
    let k = j - c.ref_numbers-first.result.0 in
    let low : k < ref_count h.kind h.count = omega (arith, c.loop-number-test.true, c.ref_numbers-first.ensures.end, i.from) in
    let back : place_index F h.body + k ≡ j = omega (arith, c.ref_numbers-first.ensures.first, i.from) in
    let at_j : reference_at f F j ≡ nth_number f h.body F.ref_size k = ap (reference_at f F) (sym back) ∙ reference_at_k f F h c.frame-frame.ensures.framed.safe.safe.ref_low c.requires.head k low in
    let before = c.loop-number.search in
    let marks = before.marks.items in
    let m = c.object_in-m.result in
    let m_is : IsTrue (g.P.Source.means c.args.src.now).honest → AreBelow f h.body F.ref_size (ref_count h.kind h.count) F.objects → m ≡ nth_number f h.body F.ref_size k = λ honest below.
    let value = (rw (c.frame-frame.ensures.frame, i.reads) at c.in_ok-reference.ensures.value) honest in
    let good = below k low in
    (rw c.frame-frame.ensures.frame at c.object_in-m.ensures.same) (omega (arith, value, good)) ∙ value in
    let m_low = rw c.frame-frame.ensures.frame at c.object_in-m.ensures.inside in
    let fits : m < length marks = omega (arith, m_low, i.ready.all_marks) in
    let read = get_or_read marks m c.index.result.now fits c.index.ensures false in
    let after = c.if-not-index.search in
    let taken : Takes m marks before.stack.items after.marks.items after.stack.items = elim c.if-not-index.branch [
      | then-not-index+in_ok-push w ↦ rw (w.search-is, w.in_ok-push.ensures.items) (takes_new m marks before.stack.items fits (sym read ∙ w.if-not-index.true))
      | else-not-index w ↦ rw w.search-is (takes_old m marks before.stack.items (sym read ∙ w.if-not-index.false))
    ] in
    let sets : (after.good ≡ before.good) × (after.followed ≡ before.followed) = elim c.if-not-index.branch [
      | then-not-index+in_ok-push w ↦ rw w.search-is (refl, refl)
      | else-not-index w ↦ rw w.search-is (refl, refl)
    ] in
    let put = rw sets.1 at c.insert.ensures in
    let next = c.next_outside-number-in-loop-number.ensures in
    let same = ap (λ v. v.items) next.words in
    record {
      reads = c.in_ok-reference.ensures.reads ∙ i.reads;
      asked =
          (let inside : j < c.args.search.now.followed.size = omega (arith, c.ref_numbers-first.ensures.within, c.loop-number-test.true, c.requires.ready.followed_size) in
          let more = count_more before.followed.words.items c.insert.new.self.words.items j c.args.search.now.followed.size inside (i.outside inside) put.here put.keeps in
          let one = rw c.frame-frame.ensures.frame at c.in_ok-reference.ensures.asks in
          rw same (omega (arith, i.asked, more, one, c.frame-frame.ensures.framed.safe.safe.ref_high)));
      outside = rw same (λ low. next.outside (omega (arith, low, put.size, i.ready.followed_size, c.requires.ready.followed_size)));
      ready = record {
        all_marks = omega (arith, taken.all, i.ready.all_marks);
        stack_in = taken.stack_in _ m_low i.ready.stack_in;
        good_size = ap (λ (s : BitSet). s.size) sets.0 ∙ i.ready.good_size;
        followed_size = next.size ∙ put.size ∙ i.ready.followed_size;
      };
      good = sets.0 ∙ i.good;
      from = omega (arith, next.from, i.from);
      work = omega (arith, taken.work, i.work);
      known = λ q from high. rw same (elim (cases_lt q j) [
        | inl first ↦ put.keeps q (i.known q from first)
        | inr later ↦ elim (cases_eq q j) [
          | inl e ↦ rw e put.here
          | inr ne ↦ next.before q (omega (arith, later, ne)) high
        ]
      ]);
      looked = λ honest below all.
          let among = among_at (refs (content_at f F h)) k m (omega (arith, low, length-refs f F h.kind h.count h.body)) (m_is honest below ∙ sym (nth-refs f F h.kind h.count h.body k low)) in
          taken.looked _ _ _ among (i.looked honest below all);
      followed = λ honest below all q is. elim (put.only q (rw same at is)) [
        | inl old ↦ taken.keeps _ (i.followed honest below all q old)
        | inr e ↦ rw e (subst (IsMarked after.marks.items) (m_is honest below ∙ sym at_j) taken.marked)
      ];
    }

pub returns-clause-exact : goal.returns-clause-exact
returns-clause-exact g c = λ honest below all.
    let h = c.args.head.now in
    let i = c.loop-number.invariant in
    let followed = i.followed honest below all in (
      i.looked honest below all,
      all_marked _ _ h c.frame-frame.ensures.framed.safe.safe.ref_low c.requires.head c.loop-number.search.followed.words.items c.loop-number.search.marks.items followed (λ k low. i.known _ (omega (arith, c.ref_numbers-first.ensures.first)) (omega (arith, low, c.loop-number-test.false, c.ref_numbers-first.ensures.first, c.ref_numbers-first.ensures.end))),
      followed,
    )
