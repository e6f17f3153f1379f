-- Bytes that are sent in parts.
use Rattle.std.proofs.Common.{◌≡◌, ℕ, ◌+◌, ◌-◌, ◌≤◌, List, ◌++◌, arith, length, take, drop, slice_range, sym, ap, ◌∙◌, subst, None, Some, Result, Ok, Err}
use Rattle.std.specs.Prelude.{Option, MatchResult}
use Rattle.std.specs.Io.{WritesAtMost}
use Rattle.std.specs.Io.KnownBytes.{Appends, Keeps, WriteAppends}
use Rattle.std.proofs.KnownBytes.{Appends-trans}
use Rattle.std.proofs.lemmas.List.{take-take, length-take-le, length-drop}
use lib.Seq.{take-add}

-- after a write of n more bytes
sends_more : (text : List ℕ) (a n m : ℕ) (old mid new : Option (List ℕ)) → m ≡ a + n → n ≤ length text - a → Appends old mid (take a text)
    → Appends mid new (take n (slice_range text a (length text))) → Appends old new (take m text)
sends_more text a n m old mid new is fits before write =
    let part : take n (slice_range text a (length text)) ≡ take n (drop a text) = take-take n (length text - a) (drop a text) fits in
    subst (Appends old new) (ap (λ l. take a text ++ l) part ∙ sym (take-add a n text) ∙ ap (λ i. take i text) (sym is))
    (Appends-trans old mid new (take a text) (take n (slice_range text a (length text))) before write)

-- after a write that failed
sends_none : (old mid new : Option (List ℕ)) (xs : List ℕ) → Appends old mid xs → Keeps mid new → Appends old new xs
sends_none None mid new xs p q = tt
sends_none (Some x) None new xs p q = absurd p
sends_none (Some x) (Some y) None xs p q = absurd q
sends_none (Some x) (Some y) (Some z) xs p q = q ∙ p

-- after a write that took this many bytes, or failed
pub sends_on : {E : Type 0} (text : List ℕ) (a took : ℕ) (old mid new : Option (List ℕ)) (r : Result ℕ E) → Appends old mid (take a text)
    → WritesAtMost r (slice_range text a (length text)) → WriteAppends mid new r (slice_range text a (length text))
    → MatchResult r (λ n. took ≡ n) (λ _. took ≡ 0) → (took ≤ length text - a) × Appends old new (take (a + took) text)
sends_on text a took old mid new (Ok n) before most write is =
    let long : length (slice_range text a (length text)) ≡ length text - a = length-take-le (length text - a) (drop a text) (omega (arith, length-drop a text)) in
    let fits : n ≤ length text - a = omega (arith, most, long) in
    (omega (arith, is, fits), sends_more text a n (a + took) old mid new (omega (arith, is)) fits before write)
sends_on text a took old mid new (Err e) before most write is =
    let same : a ≡ a + took = omega (arith, is) in
    (omega (arith, is), subst (λ k. Appends old new (take k text)) same (sends_none old mid new (take a text) before write))
