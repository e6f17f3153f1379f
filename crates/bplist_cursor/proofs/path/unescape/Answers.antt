use Rattle.std.proofs.Common.{[], ◌∷◌, arith, sym, ap, subst}
use Rattle.bplist_cursor.specs.Tokens.{Reads}
use Rattle.bplist_cursor.proofs.TokenSteps.{reads_char, left_none, loose_end, loose_before}
use Rattle.bplist_cursor.proofs.path.unescape.Goals as goal

pub returns-in_err-digit : goal.returns-in_err-digit
returns-in_err-digit c = rw c.from_residual.ensures (loose_end _ _ c.if-c-ne126.false (left_none c.args.rest.now c.in_err-digit.ensures.steps.0))

pub returns-in-0 : goal.returns-in-0
returns-in-0 c = (
  0x30 ∷ [],
  subst (λ d. Reads c.args.rest.now c.next.new.self (d ∷ [])) c.in-0.is
      (reads_char c.args.rest.now c.next.new.self _ c.requires.readable c.in_ok-digit.ensures.steps.1 c.in_ok-digit.ensures.steps.2),
  ap (λ d. d ∷ 0x30 ∷ []) (sym c.if-c-ne126.false),
)

pub returns-in-1 : goal.returns-in-1
returns-in-1 c = (
  0x31 ∷ [],
  subst (λ d. Reads c.args.rest.now c.next.new.self (d ∷ [])) c.in-1.is
      (reads_char c.args.rest.now c.next.new.self _ c.requires.readable c.in_ok-digit.ensures.steps.1 c.in_ok-digit.ensures.steps.2),
  ap (λ d. d ∷ 0x31 ∷ []) (sym c.if-c-ne126.false),
)

pub returns-in_default : goal.returns-in_default
returns-in_default c =
    let read = reads_char c.args.rest.now c.next.new.self _ c.requires.readable c.in_ok-digit.ensures.steps.1 c.in_ok-digit.ensures.steps.2 in
    (loose_before _ _ c.in_ok-digit.digit _ c.if-c-ne126.false read.read (λ e. omega (arith, e, c.in_default)) (λ e. omega (arith, e, c.in_default)))
