use Rattle.std.proofs.Common.{◌≡◌, ◌++◌, ◌∙◌, ℕ, List, sym, ap, arith, append_assoc}
use Rattle.std.proofs.lemmas.Result.{err_from_is_err_and}
use Rattle.std.proofs.lemmas.List.Concat.{flat_map-append}
use Rattle.std.specs.Int.{bytes_high_first}
use Rattle.std.specs.Slice.Iter.{chunks_rest}
use Rattle.bplist_octets.proofs.SinkSteps.{takes_more, takes_then_part, part_of_more}
use Rattle.bplist_cert.specs.Encoding.{words}
use Rattle.bplist_cert.proofs.certificate.put_words.Goals as goal

-- the bytes of three parts, one after the other
spelled_parts : (done block rest all : List ℕ) → (done ++ block) ++ rest ≡ all → (words done ++ words block) ++ words rest ≡ words all
spelled_parts done block rest all e =
    ap (λ l. l ++ words rest) (sym (flat_map-append (bytes_high_first 4) done block)) ∙ sym (flat_map-append (bytes_high_first 4) (done ++ block) rest) ∙ ap words e

pub loop-block-preserved : goal.loop-block-preserved
loop-block-preserved g c =
    let steps = c.in-Some.ensures.steps in
    let (_, _, size, done, all, taken) = c.loop-block.invariant in
    let block = c.in-Some.block.now in
    let put = rw c.write_u32_into.ensures at c.in_ok-put.ensures.taken in (
      omega (arith, steps.0, size),
      tt,
      steps.0 ∙ size,
      done ++ block,
      append_assoc done block (chunks_rest c.next.new.self) ∙ ap (λ l. done ++ l) (sym steps.1.0) ∙ all,
      rw (flat_map-append (bytes_high_first 4) done block) (takes_more taken put),
    )

pub returns-in_err-put-clause-part : goal.returns-in_err-put-clause-part
returns-in_err-put-clause-part g c =
    let steps = c.in-Some.ensures.steps in
    let (_, _, size, done, all, taken) = c.loop-block.invariant in
    let block = c.in-Some.block.now in
    let rest = chunks_rest c.next.new.self in
    let p = err_from_is_err_and c.from_residual.result c.from_residual.ensures.1 in
    let part = rw c.write_u32_into.ensures at c.in_err-put.ensures.part in
    let whole = spelled_parts done block rest c.args.numbers.now (append_assoc done block rest ∙ ap (λ l. done ++ l) (sym steps.1.0) ∙ all) in
    rw (p.1, p.2) (rw whole at (part_of_more _ _ _ (words done ++ words block) (words rest) _ (takes_then_part _ _ _ _ _ (words done) (words block) _ taken part)))
