use Rattle.std.proofs.Common.{◌≡◌, ◌+◌, ◌<◌, ◌/◌, arith, get_or, length}
use Rattle.std.proofs.lemmas.Grind.{common_steps}
use Rattle.std.proofs.lemmas.List.{get_or_read}
use Rattle.bplist_lint.proofs.BitSets.{insert_here, insert_keeps, insert_only, insert_skips, set_skip, none_outside}
use Rattle.bplist_lint.proofs.bit_set.BitSet.insert.Goals.{After-index, else-word-via-then-word+else-is_none, else-word-via-else-word}
use Rattle.bplist_lint.proofs.bit_set.BitSet.insert.Goals as goal

within : (c : After-index) → c.args.i / 64 < length c.args.self.now.words.items
within c = let room = c.args.self.now.room in let whole = c.args.self.now.whole in grind (arith, common_steps)

is : (c : After-index) → c.index.result.now ≡ get_or c.args.self.now.words.items (c.args.i / 64) 0
is c = get_or_read c.args.self.now.words.items (c.args.i / 64) c.index.result.now (within c) c.index.ensures 0

pub invariant_of-self-else-is_none : goal.invariant_of-self-else-is_none
invariant_of-self-else-is_none c =
    let s = c.args.self.now in
    let at = (goal.at.invariant_of-self-else-is_none c).After-index in
    record { room = s.room; whole = s.whole; low = s.low; skipping = insert_skips _ _ _ (within at) (is at) _ s.skipping }

pub invariant_of-self-else-word : goal.invariant_of-self-else-word
invariant_of-self-else-word c =
    let s = c.args.self.now in
    let at = (goal.at.invariant_of-self-else-word c).After-index in
    record { room = s.room; whole = s.whole; low = s.low; skipping = insert_skips _ _ _ (within at) (is at) _ s.skipping }

pub invariant_of-self : goal.invariant_of-self
invariant_of-self c =
    let s = c.args.self.now in
    let at = (goal.at.invariant_of-self c).After-index in
    let block = c.args.i / 512 in
    let full = none_outside _ _ c.first_outside.result c.if-is_none.ensures c.first_outside.ensures in
    let low : block < length s.skips.items = (let room = s.room in omega (arith, room, c.requires)) in
    record {
      room = s.room;
      whole = s.whole;
      low = s.low;
      skipping =
          set_skip _ _ block (block + 1) (insert_skips _ _ _ (within at) (is at) _ s.skipping) low (omega arith) (omega (arith, low))
          (λ k from to. rw c.deref.ensures.value at (full k from (omega (arith, to))));
    }

pub returns-then-is_none-clause-here : goal.returns-then-is_none-clause-here
returns-then-is_none-clause-here c = let at = (goal.at.returns-then-is_none-clause-here c).After-index in insert_here _ _ _ (within at) (is at)

pub returns-then-is_none-clause-keeps : goal.returns-then-is_none-clause-keeps
returns-then-is_none-clause-keeps c = let at = (goal.at.returns-then-is_none-clause-keeps c).After-index in insert_keeps _ _ _ (within at) (is at)

pub returns-then-is_none-clause-only : goal.returns-then-is_none-clause-only
returns-then-is_none-clause-only c = let at = (goal.at.returns-then-is_none-clause-only c).After-index in insert_only _ _ _ (within at) (is at)

pub returns-else-word-clause-here : goal.returns-else-word-clause-here
returns-else-word-clause-here c =
    let at = (goal.at.returns-else-word-clause-here c).After-index in
    let here = insert_here _ _ _ (within at) (is at) in
    elim c.else-word.branch [ else-word-via-then-word+else-is_none w ↦ rw w.self-is here | else-word-via-else-word w ↦ rw w.self-is here ]

pub returns-else-word-clause-keeps : goal.returns-else-word-clause-keeps
returns-else-word-clause-keeps c =
    let at = (goal.at.returns-else-word-clause-keeps c).After-index in
    let keeps = insert_keeps _ _ _ (within at) (is at) in
    elim c.else-word.branch [ else-word-via-then-word+else-is_none w ↦ rw w.self-is keeps | else-word-via-else-word w ↦ rw w.self-is keeps ]

pub returns-else-word-clause-only : goal.returns-else-word-clause-only
returns-else-word-clause-only c =
    let at = (goal.at.returns-else-word-clause-only c).After-index in
    let only = insert_only _ _ _ (within at) (is at) in
    elim c.else-word.branch [ else-word-via-then-word+else-is_none w ↦ rw w.self-is only | else-word-via-else-word w ↦ rw w.self-is only ]
