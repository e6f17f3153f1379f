use Rattle.std.proofs.Common.{◌≡◌, [], ◌∷◌, ◌++◌, sym, ap, subst, ◌∙◌, map, true, rules, Err}
use Rattle.std.proofs.lemmas.List.{map-append}
use Rattle.std.specs.Str.{IsUtf8, chars}
use Rattle.bplist_cursor.specs.Path.{IsPathOf, units}
use Rattle.bplist_cursor.specs.Tokens.{IsReadable, Reads}
use Rattle.bplist_cursor.proofs.TokenSteps.{IsParsing, reads_char, empty_text, not_begun, parsing_starts, parsing_more, fails_at}
use Rattle.bplist_cursor.proofs.path.Path.parse.Goals as goal

pub returns-in_default-clause-steps : goal.returns-in_default-clause-steps
returns-in_default-clause-steps c =
    subst (λ l. IsPathOf c.args.text.now (map (λ s. s.items) l)) (sym c.new-steps.ensures.items)
    (empty_text c.args.text.now c.char_indices-chars.result c.char_indices-chars.ensures.rest c.in_default.ensures.steps.0)

pub returns-then-first-ne47-clause-wrong : goal.returns-then-first-ne47-clause-wrong
returns-then-first-ne47-clause-wrong c =
    let is = c.char_indices-chars.ensures.rest in
    let readable : IsReadable c.char_indices-chars.result = record { utf8 = subst IsUtf8 (sym is) c.utf8.text; fits = search rules } in
    let read = reads_char c.char_indices-chars.result c.next.new.self c.in-Some.first readable c.in-Some.ensures.steps.1 c.in-Some.ensures.steps.2 in
    not_begun c.args.text.now c.in-Some.first _ (ap chars (sym is) ∙ read.read) c.if-first-ne47.true

pub loop-goes_on-init : goal.loop-goes_on-init
loop-goes_on-init c =
    let is = c.char_indices-chars.ensures.rest in
    let readable : IsReadable c.char_indices-chars.result = record { utf8 = subst IsUtf8 (sym is) c.utf8.text; fits = search rules } in
    let read = reads_char c.char_indices-chars.result c.next.new.self c.in-Some.first readable c.in-Some.ensures.steps.1 c.in-Some.ensures.steps.2 in
    subst (λ l. IsParsing c.args.text.now c.next.new.self true (map (λ s. s.items) l)) (sym c.new-steps.ensures.items)
    (parsing_starts c.char_indices-chars.result c.next.new.self c.args.text.now is c.char_indices-chars.ensures.offset
    (subst (λ d. Reads c.char_indices-chars.result c.next.new.self (d ∷ [])) c.if-first-ne47.false read))

pub returns-in_err-goes_on-clause-wrong : goal.returns-in_err-goes_on-clause-wrong
returns-in_err-goes_on-clause-wrong c =
    let is : c.from_residual.result ≡ Err c.in_err-goes_on.field-0.0 = search rules in
    let parsing = subst (λ b. IsParsing c.args.text.now c.loop-goes_on.chars b (map (λ s. s.items) c.loop-goes_on.steps.items)) c.loop-goes_on-test.true c.loop-goes_on.invariant in
    rw is (fails_at c.args.text.now c.loop-goes_on.chars _ c.in_err-goes_on.field-0.0 parsing c.in_err-goes_on.ensures.wrong)

pub loop-goes_on-preserved : goal.loop-goes_on-preserved
loop-goes_on-preserved c =
    let token = c.in_ok-goes_on.ensures.read in
    let parsing = subst (λ b. IsParsing c.args.text.now c.loop-goes_on.chars b (map (λ s. s.items) c.loop-goes_on.steps.items)) c.loop-goes_on-test.true c.loop-goes_on.invariant in
    let pushed : c.push.new.self.items ≡ c.loop-goes_on.steps.items ++ c.read_token.new.step ∷ [] = c.in_ok-push.ensures.items in
    let step : c.read_token.new.step.items ≡ units token.0 = token.2 ∙ ap (λ l. l ++ units token.0) c.new-step.ensures.items in
    parsing_more c.args.text.now c.loop-goes_on.chars c.read_token.new.chars c.in_ok-goes_on.goes_on _ _ token.0 parsing token.1 token.3
    (ap (map (λ s. s.items)) pushed ∙ map-append (λ s. s.items) c.loop-goes_on.steps.items (c.read_token.new.step ∷ [])
    ∙ ap (λ u. map (λ s. s.items) c.loop-goes_on.steps.items ++ u ∷ []) step)
