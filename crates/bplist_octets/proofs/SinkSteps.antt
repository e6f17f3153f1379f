-- What is sent, from call to call.
use Rattle.std.proofs.Common.{◌≡◌, ℕ, ◌+◌, ◌≤◌, List, [], ◌++◌, arith, length, take, sym, ap, ◌∙◌, subst, append_assoc, append-nil}
use Rattle.std.specs.Prelude.{Option}
use Rattle.std.specs.Io.KnownBytes.{Appends}
use Rattle.std.proofs.KnownBytes.{Appends-trans, Appends-nil}
use Rattle.std.proofs.lemmas.List.{length-append, take-append-le, length-take-le}
use lib.Seq.{take-append-add}
use Rattle.bplist_octets.specs.Sending.{Sending, SendsPart, SendsSome, Takes, TakesPart, IsOut, AtMost}

-- nothing was put in
pub takes_nothing : (now : Option (List ℕ)) (s : Sending) → Takes now now s s []
takes_nothing now s = record { gone = []; appended = Appends-nil now; counted = omega arith; all = append-nil s.held }

-- first bytes were put in, and then more
pub takes_more : {old mid new : Option (List ℕ)} {s t u : Sending} {xs ys : List ℕ} → Takes old mid s t xs → Takes mid new t u ys → Takes old new s u (xs ++ ys)
takes_more {old} {mid} {new} {s} {t} {u} {xs} {ys} p q = record {
  gone = p.gone ++ q.gone;
  appended = Appends-trans old mid new p.gone q.gone p.appended q.appended;
  counted = let a = p.counted in let b = q.counted in omega (arith, a, b, length-append p.gone q.gone);
  all = sym (append_assoc s.held xs ys) ∙ ap (λ l. l ++ ys) p.all ∙ append_assoc p.gone t.held ys ∙ ap (λ l. p.gone ++ l) q.all ∙ sym (append_assoc p.gone q.gone u.held);
}

-- first bytes were put in, and were sent with a part of more
pub takes_then_part : (old mid new : Option (List ℕ)) (s t : Sending) (xs ys : List ℕ) (k : ℕ) → Takes old mid s t xs → TakesPart mid new t ys k → TakesPart old new s (xs ++ ys) k
takes_then_part old mid new s t xs ys k p q =
    let all : s.held ++ (xs ++ ys) ≡ p.gone ++ (t.held ++ ys) = sym (append_assoc s.held xs ys) ∙ ap (λ l. l ++ ys) p.all ∙ append_assoc p.gone t.held ys in
    let a = p.counted in
    let b = q.2 in
    let fewer = q.1 in
    let long = ap length all in (
      length p.gone + q.0,
      omega (arith, long, fewer, length-append p.gone (t.held ++ ys)),
      omega (arith, a, b),
      subst (Appends old new) (sym (ap (take (length p.gone + q.0)) all ∙ take-append-add p.gone (t.held ++ ys) q.0)) (Appends-trans old mid new p.gone (take q.0 (t.held ++ ys)) p.appended q.3),
    )

-- first bytes were put in, and a part of them was sent
pub some_of_takes : {old new : Option (List ℕ)} {s t : Sending} {xs : List ℕ} (ys : List ℕ) → Takes old new s t xs → SendsSome old new (s.held ++ (xs ++ ys))
some_of_takes {s = s} {t = t} {xs = xs} ys p = (
  p.gone,
  t.held ++ ys,
  p.appended,
  sym (append_assoc s.held xs ys) ∙ ap (λ l. l ++ ys) p.all ∙ append_assoc p.gone t.held ys,
)

-- first bytes were put in, a first part of more was sent with them, and others would have followed
pub takes_then_some : (old mid new : Option (List ℕ)) {s t : Sending} {xs : List ℕ} (ys zs : List ℕ) → Takes old mid s t xs → SendsSome mid new (t.held ++ ys)
    → SendsSome old new (s.held ++ (xs ++ (ys ++ zs)))
takes_then_some old mid new {s} {t} {xs} ys zs p q = (
  p.gone ++ q.0,
  q.1 ++ zs,
  Appends-trans old mid new p.gone q.0 p.appended q.2,
  sym (append_assoc s.held xs (ys ++ zs)) ∙ ap (λ l. l ++ (ys ++ zs)) p.all ∙ append_assoc p.gone t.held (ys ++ zs) ∙ ap (λ l. p.gone ++ l) (sym (append_assoc t.held ys zs) ∙ ap (λ l. l ++ zs) q.3 ∙ append_assoc q.0 q.1 zs)
      ∙ sym (append_assoc p.gone q.0 (q.1 ++ zs)),
)

-- a text that is cut is a cut of any longer text
pub part_of_more : (old new : Option (List ℕ)) (s : Sending) (xs ys : List ℕ) (k : ℕ) → TakesPart old new s xs k → TakesPart old new s (xs ++ ys) k
part_of_more old new s xs ys k p =
    let all : s.held ++ (xs ++ ys) ≡ (s.held ++ xs) ++ ys = sym (append_assoc s.held xs ys) in
    let fewer = p.1 in
    let long = ap length all in (
      p.0,
      omega (arith, long, fewer, length-append (s.held ++ xs) ys),
      p.2,
      subst (Appends old new) (sym (ap (take p.0) all ∙ take-append-le p.0 (s.held ++ xs) ys (omega (arith, fewer)))) p.3,
    )

-- before anything is put in
pub out_start : (start : Option (List ℕ)) (s : Sending) → s.sent ≡ 0 → s.held ≡ [] → IsOut start start s []
out_start start s none empty = record { gone = []; counted = sym none; appended = Appends-nil start; all = empty }

-- the text goes on
pub out_takes : {start old new : Option (List ℕ)} {s t : Sending} {written bytes : List ℕ} → IsOut start old s written → Takes old new s t bytes → IsOut start new t (written ++ bytes)
out_takes {start} {old} {new} {s} {t} {written} {bytes} o p = record {
  gone = o.gone ++ p.gone;
  counted = let a = o.counted in let b = p.counted in omega (arith, a, b, length-append o.gone p.gone);
  appended = Appends-trans start old new o.gone p.gone o.appended p.appended;
  all = append_assoc o.gone p.gone t.held ∙ ap (λ l. o.gone ++ l) (sym p.all) ∙ sym (append_assoc o.gone s.held bytes) ∙ ap (λ l. l ++ bytes) o.all;
}

-- a text is cut if a write fails
pub out_part : (start old new : Option (List ℕ)) (s : Sending) (written bytes : List ℕ) (k : ℕ) → IsOut start old s written → TakesPart old new s bytes k → SendsPart start new 0 (written ++ bytes) k
out_part start old new s written bytes k o p =
    let all : written ++ bytes ≡ o.gone ++ (s.held ++ bytes) = ap (λ l. l ++ bytes) (sym o.all) ∙ append_assoc o.gone s.held bytes in
    let a = o.counted in
    let b = p.2 in
    let fewer = p.1 in
    let long = ap length all in
    let is : k ≡ length o.gone + p.0 = omega (arith, a, b) in (
      k,
      omega (arith, is, fewer, long, length-append o.gone (s.held ++ bytes)),
      omega arith,
      subst (Appends start new) (sym (ap (take k) all ∙ ap (λ i. take i (o.gone ++ (s.held ++ bytes))) is ∙ take-append-add o.gone (s.held ++ bytes) p.0)) (Appends-trans start old new o.gone (take p.0 (s.held ++ bytes)) o.appended p.3),
    )

-- if nothing is held, the whole text was sent
pub out_end : {start now : Option (List ℕ)} {s : Sending} {written : List ℕ} → IsOut start now s written → s.held ≡ [] → Appends start now written
out_end {start} {now} {s} {written} o empty =
    subst (Appends start now) (sym (append-nil o.gone) ∙ ap (λ l. o.gone ++ l) (sym empty) ∙ o.all) o.appended

pub out_long : {start now : Option (List ℕ)} {s : Sending} {written : List ℕ} → IsOut start now s written → length written ≡ s.sent + length s.held
out_long {start} {now} {s} {written} o =
    let a = o.counted in
    let long = ap length o.all in
    omega (arith, a, long, length-append o.gone s.held)

pub cut_bounded : (start now : Option (List ℕ)) (text : List ℕ) (n k : ℕ) → length text ≤ n → SendsPart start now 0 text k → AtMost start now n
cut_bounded start now text n k low p =
    let less = p.1 in
    (take p.0 text, omega (arith, length-take-le p.0 text (omega (arith, less)), less, low), p.3)
