use Rattle.std.proofs.Common.{◌≡◌, ◌++◌, ◌∙◌, ℕ, List, [], Option, Result, Ok, Err, is_some, length, ap, subst, append_assoc, append-nil}
use Rattle.std.specs.Prelude.{IfErr, MatchResult, OnOk}
use Rattle.std.specs.Int.{bytes_high_first}
use Rattle.std.specs.Io.KnownBytes.{Appends}
use Rattle.std.proofs.lemmas.Result.{err_from_is_err_and}
use Rattle.bplist_octets.specs.declared.sink.WriteFault.{WriteFault}
use Rattle.bplist_octets.specs.Sending.{Sending, SendsPart, Takes, TakesPart}
use Rattle.bplist_octets.proofs.SinkSteps.{takes_more, takes_then_part, part_of_more, out_start, out_takes, out_end}
use Rattle.bplist_cert.specs.Encoding.{key_words, magic, words}
use Rattle.bplist_cert.proofs.certificate.Certificate.write_to.Goals as goal

-- a write failed behind the bytes `xs`, within `ys`, and `rest` would have followed
cut : (old mid new : Option (List ℕ)) (s t : Sending) (xs ys rest all : List ℕ) (k : ℕ) → s ≡ record { sent = 0; held = [] }
    → (xs ++ ys) ++ rest ≡ all → Takes old mid s t xs → TakesPart mid new t ys k → SendsPart old new 0 all k
cut old mid new s t xs ys rest all k is e taken part =
    let more : TakesPart old new s ((xs ++ ys) ++ rest) k = part_of_more old new s (xs ++ ys) rest k (takes_then_part old mid new s t xs ys k taken part) in
    rw e at (rw is at more)

-- the four parts of a certificate
four : (front count counted heights keys : List ℕ) → count ≡ counted
    → ((front ++ count) ++ heights) ++ keys ≡ front ++ (counted ++ (heights ++ keys))
four front count counted heights keys e =
    append_assoc (front ++ count) heights keys ∙ append_assoc front count (heights ++ keys) ∙ ap (λ b. front ++ (b ++ (heights ++ keys))) e

pub returns-in_err-put-2-clause-sent : goal.returns-in_err-put-2-clause-sent
returns-in_err-put-2-clause-sent g c =
    let p = err_from_is_err_and c.from_residual-in_err-put-2.result c.from_residual-in_err-put-2.ensures.1 in
    let front = magic (is_some c.self.inside.keys) in
    let count = c.to_be_bytes.result in
    let rest = words c.self.inside.heights.items ++ key_words c.self.inside.keys in
    let put = rw c.magic_of.ensures at c.in_ok-put.ensures.taken in
    let counted : count ≡ bytes_high_first 8 (length c.self.inside.heights.items) = c.to_be_bytes.ensures ∙ ap (bytes_high_first 8) (c.len-count.ensures ∙ c.self.inside.heights.ok.0) in
    let whole = append_assoc front count rest ∙ ap (λ b. front ++ (b ++ rest)) counted in
    rw (p.1, p.2, ← c.self.view_is) (cut _ _ _ _ _ front count rest _ _ c.new-sink.ensures whole put c.in_err-put-2.ensures.part)

pub returns-in_err-put_words-clause-sent : goal.returns-in_err-put_words-clause-sent
returns-in_err-put_words-clause-sent g c =
    let p = err_from_is_err_and c.from_residual-in_err-put_words.result c.from_residual-in_err-put_words.ensures.1 in
    let front = magic (is_some c.self.inside.keys) in
    let count = c.to_be_bytes.result in
    let heights = words c.self.inside.heights.items in
    let keys = key_words c.self.inside.keys in
    let put = takes_more (rw c.magic_of.ensures at c.in_ok-put.ensures.taken) c.in_ok-put-2.ensures.taken in
    let part = rw c.deref.ensures.value at c.in_err-put_words.ensures.part in
    let counted : count ≡ bytes_high_first 8 (length c.self.inside.heights.items) = c.to_be_bytes.ensures ∙ ap (bytes_high_first 8) (c.len-count.ensures ∙ c.self.inside.heights.ok.0) in
    rw (p.1, p.2, ← c.self.view_is) (cut _ _ _ _ _ (front ++ count) heights keys _ _ c.new-sink.ensures (four front count _ heights keys counted) put part)

pub returns-in_err-put_keys-clause-sent : goal.returns-in_err-put_keys-clause-sent
returns-in_err-put_keys-clause-sent g c =
    let p = err_from_is_err_and c.from_residual-in_err-put_keys.result c.from_residual-in_err-put_keys.ensures.1 in
    let front = magic (is_some c.self.inside.keys) in
    let count = c.to_be_bytes.result in
    let heights = words c.self.inside.heights.items in
    let keys = key_words c.self.inside.keys in
    let words_put = rw c.deref.ensures.value at c.in_ok-put_words.ensures.taken in
    let put = takes_more (takes_more (rw c.magic_of.ensures at c.in_ok-put.ensures.taken) c.in_ok-put-2.ensures.taken) words_put in
    let counted : count ≡ bytes_high_first 8 (length c.self.inside.heights.items) = c.to_be_bytes.ensures ∙ ap (bytes_high_first 8) (c.len-count.ensures ∙ c.self.inside.heights.ok.0) in
    let whole = append-nil (((front ++ count) ++ heights) ++ keys) ∙ four front count _ heights keys counted in
    rw (p.1, p.2, ← c.self.view_is) (cut _ _ _ _ _ ((front ++ count) ++ heights) keys [] _ _ c.new-sink.ensures whole put c.in_err-put_keys.ensures.part)

-- all was put in, and then sent
sent : (old mid new : Option (List ℕ)) (s t u : Sending) (all whole : List ℕ) (flushed : Result (Unit {0}) WriteFault) → s ≡ record { sent = 0; held = [] } → whole ≡ all
    → Takes old mid s t whole → OnOk flushed (Takes mid new t u []) → OnOk flushed (u.held ≡ []) → IfErr flushed (λ e. TakesPart mid new t [] e.sent)
    → MatchResult flushed (λ _. Appends old new all) (λ fault. SendsPart old new 0 all fault.sent)
sent old mid new s t u all whole (Ok _) is e taken end empty part =
    subst (Appends old new) (append-nil whole ∙ e) (out_end (out_takes (out_takes (out_start old s (ap (λ (z : Sending). z.sent) is) (ap (λ (z : Sending). z.held) is)) taken) end) empty)
sent old mid new s t u all whole (Err fault) is e taken end empty part =
    cut old mid new s t whole [] [] all fault.sent is (append-nil (whole ++ []) ∙ append-nil whole ∙ e) taken part

pub returns-clause-sent : goal.returns-clause-sent
returns-clause-sent g c =
    let front = magic (is_some c.self.inside.keys) in
    let count = c.to_be_bytes.result in
    let heights = words c.self.inside.heights.items in
    let keys = key_words c.self.inside.keys in
    let words_put = rw c.deref.ensures.value at c.in_ok-put_words.ensures.taken in
    let put = takes_more (takes_more (takes_more (rw c.magic_of.ensures at c.in_ok-put.ensures.taken) c.in_ok-put-2.ensures.taken) words_put) c.in_ok-put_keys.ensures.taken in
    let counted : count ≡ bytes_high_first 8 (length c.self.inside.heights.items) = c.to_be_bytes.ensures ∙ ap (bytes_high_first 8) (c.len-count.ensures ∙ c.self.inside.heights.ok.0) in
    rw (← c.self.view_is) (sent _ _ _ _ _ _ _ (((front ++ count) ++ heights) ++ keys) _ c.new-sink.ensures (four front count _ heights keys counted) put
    c.flush.ensures.taken c.flush.ensures.empty c.flush.ensures.part)
