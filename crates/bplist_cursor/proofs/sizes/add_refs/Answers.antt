use Rattle.std.proofs.Common.{rules, ◌≡◌, ◌+◌, ◌≤◌, ◌∙◌, ap, length, drop, Some, sym, subst, arith}
use Rattle.bplist_objects.specs.Heads.{refs, content_at}
use Rattle.bplist_objects.specs.Safe.{ref_count}
use Rattle.bplist_objects.proofs.BlockSteps.{still_of, block_is}
use Rattle.bplist_cert.specs.CheckedFile.{meaning_of}
use Rattle.bplist_cursor.specs.Sizes.{added}
use Rattle.bplist_cursor.proofs.AddSteps.{block_added, block_not, refs_block, none_left, none_of}
use Rattle.bplist_cursor.proofs.PassSteps.{a_block_more}
use Rattle.bplist_cursor.proofs.sizes.add_refs.Goals as goal

pub returns-in_default-clause-exact : goal.returns-in_default-clause-exact
returns-in_default-clause-exact g c = λ honest whole is.
    let f = c.args.checked.now.source.octets in
    let F = c.args.checked.now.frame in
    let h = c.args.head.now in
    let v = c.loop-refs.invariant in
    let from = c.loop-refs.refs.next in
    let lent = c.block.result.now in
    let block = block_is (ap meaning_of v.same) v.of c.block.ensures (c.in_ok-read.ensures.next c.if-branch.true) in
    let within : from + length lent ≤ ref_count h.kind h.count = omega (arith, block.long, block.within) in
    let numbers = refs_block f F h from lent within (block.numbers honest) in
    let none = sym c.add_sizes.ensures ∙ none_of c.add_sizes.result c.in_default.not-Some in
    absurd (block_not c.args.sizes.now c.loop-refs.total whole (refs (content_at f F h)) lent from _ numbers none (v.left honest whole is))

pub loop-refs-preserved : goal.loop-refs-preserved
loop-refs-preserved g c =
    let f = c.args.checked.now.source.octets in
    let F = c.args.checked.now.frame in
    let h = c.args.head.now in
    let v = c.loop-refs.invariant in
    let from = c.loop-refs.refs.next in
    let lent = c.block.result.now in
    let block = block_is (ap meaning_of v.same) v.of c.block.ensures (c.in_ok-read.ensures.next c.if-branch.true) in
    let within : from + length lent ≤ ref_count h.kind h.count = omega (arith, block.long, block.within) in
    record {
      same = search rules;
      of = still_of v.of c.in_ok-read.ensures.same;
      asked = a_block_more _ _ _ from _ F.ref_size v.asked (rw v.same at c.in_ok-read.ensures.asks_block);
      left = λ honest whole is.
          let xs = refs (content_at f F h) in
          let numbers = refs_block f F h from lent within (block.numbers honest) in
          let some = sym c.add_sizes.ensures ∙ c.in-Some.is in
          subst (λ k. added c.args.sizes.now c.in-Some.more (drop k xs) ≡ Some whole) block.long
          (block_added c.args.sizes.now c.loop-refs.total c.in-Some.more whole xs lent from _ numbers some (v.left honest whole is));
    }

pub returns-clause-exact : goal.returns-clause-exact
returns-clause-exact g c = λ honest whole is.
    let v = c.loop-refs.invariant in
    none_left c.args.checked.now.source.octets c.args.checked.now.frame c.args.head.now c.args.sizes.now c.loop-refs.total whole c.loop-refs.refs.next
    (omega (arith, (c.in_ok-read.ensures.end c.if-branch.false).1, v.of.same_bound)) (v.left honest whole is)
