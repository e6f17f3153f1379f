use Rattle.std.proofs.lemmas.Result.{err_from_is_err_and}
use Rattle.bplist_octets.proofs.SinkSteps.{takes_more, takes_then_part}
use Rattle.bplist_cert.proofs.certificate.put_keys.Goals as goal

pub returns-in_err-put_words-2-clause-part : goal.returns-in_err-put_words-2-clause-part
returns-in_err-put_words-2-clause-part g c =
    let p = err_from_is_err_and c.from_residual-in_err-put_words-2.result c.from_residual-in_err-put_words-2.ensures.1 in
    let starts = rw c.deref.ensures.value at c.in_ok-put_words.ensures.taken in
    let positions = rw c.deref-in-Some.ensures.value at c.in_err-put_words-2.ensures.part in
    rw (p.1, p.2, c.in-Some.is, ← c.keys.view_is) (takes_then_part _ _ _ _ _ _ _ _ starts positions)

pub returns-in_ok-put_words-2-clause-taken : goal.returns-in_ok-put_words-2-clause-taken
returns-in_ok-put_words-2-clause-taken g c =
    let starts = rw c.deref.ensures.value at c.in_ok-put_words.ensures.taken in
    let positions = rw c.deref-in-Some.ensures.value at c.in_ok-put_words-2.ensures.taken in
    rw (c.in-Some.is, ← c.keys.view_is) (takes_more starts positions)
