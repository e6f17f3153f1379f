use Rattle.std.proofs.Common.{[], ◌∷◌, ◌++◌, arith, sym, ap, subst, refl, inl, inr, append-nil, flat_map, ◌∙◌, length, length-append}
use Rattle.bplist_cursor.specs.Path.{escaped}
use Rattle.bplist_cursor.specs.Tokens.{Reads, IsClosed, left}
use Rattle.bplist_cursor.proofs.Escapes.{closed-nil, closed_token}
use Rattle.bplist_cursor.proofs.TokenSteps.{reads_char, reads_more, left_none, meets_now, meets_later, reading_more}
use Rattle.bplist_cursor.proofs.path.read_token.Goals as goal

pub returns-then-c-eq47-clause-read : goal.returns-then-c-eq47-clause-read
returns-then-c-eq47-clause-read c =
    let before = c.loop-place.invariant in
    let read = reads_char c.loop-place.chars c.next.new.self c.in-Some.c before.read.after c.in-Some.ensures.steps.1 c.in-Some.ensures.steps.2 in (
      before.token,
      reads_more c.args.chars.now c.loop-place.chars c.next.new.self _ _ before.read (subst (λ d. Reads c.loop-place.chars c.next.new.self (d ∷ [])) c.if-c-eq47.true read),
      before.added,
      inl refl,
    )

pub unescape-requires-clause-readable : goal.unescape-requires-clause-readable
unescape-requires-clause-readable c =
    let read = reads_char c.loop-place.chars c.next.new.self c.in-Some.c c.loop-place.invariant.read.after c.in-Some.ensures.steps.1 c.in-Some.ensures.steps.2 in
    read.after

pub returns-in_default-unescape-clause-wrong : goal.returns-in_default-unescape-clause-wrong
returns-in_default-unescape-clause-wrong c =
    let before = c.loop-place.invariant in
    let read = reads_char c.loop-place.chars c.next.new.self c.in-Some.c before.read.after c.in-Some.ensures.steps.1 c.in-Some.ensures.steps.2 in
    meets_later c.args.chars.now c.loop-place.chars (flat_map escaped before.token) c.in-Some.place before.read
    (subst IsClosed (append-nil (flat_map escaped before.token)) (closed_token before.token [] closed-nil))
    (meets_now c.loop-place.chars c.next.new.self c.in-Some.c c.in-Some.place read c.in-Some.ensures.steps.0 c.in_default-unescape.ensures)

pub loop-place-smaller : goal.loop-place-smaller
loop-place-smaller c =
    let read = reads_char c.loop-place.chars c.next.new.self c.in-Some.c c.loop-place.invariant.read.after c.in-Some.ensures.steps.1 c.in-Some.ensures.steps.2 in
    let digit = c.in-Some-unescape.ensures in
    omega (arith, ap length read.read, ap length digit.1.read, length-append digit.0 (left c.unescape.new.rest))

pub loop-place-preserved : goal.loop-place-preserved
loop-place-preserved c =
    let before = c.loop-place.invariant in
    let read = reads_char c.loop-place.chars c.next.new.self c.in-Some.c before.read.after c.in-Some.ensures.steps.1 c.in-Some.ensures.steps.2 in
    let digit = c.in-Some-unescape.ensures in
    reading_more c.args.chars.now c.loop-place.chars c.next.new.self c.unescape.new.rest c.in-Some.c c.in-Some-unescape.c digit.0 c.args.step.now.items c.loop-place.step.items
    c.extend_from_slice.new.self.items before read digit.1 digit.2
    (c.in_ok-extend_from_slice.ensures.items ∙ ap (λ l. c.loop-place.step.items ++ l) c.encode_utf16.ensures.value)

pub returns-clause-read : goal.returns-clause-read
returns-clause-read c =
    let before = c.loop-place.invariant in (
      before.token,
      subst (λ s. Reads c.args.chars.now s (flat_map escaped before.token ++ [])) (sym c.in_default.ensures.steps.1)
          (subst (Reads c.args.chars.now c.loop-place.chars) (sym (append-nil (flat_map escaped before.token))) before.read),
      before.added,
      inr (ap left c.in_default.ensures.steps.1 ∙ left_none c.loop-place.chars c.in_default.ensures.steps.0),
    )
