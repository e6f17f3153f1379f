-- Units of a text that are written to a buffer.
use Rattle.std.proofs.Common.{arith, ◌≡◌, ◌≤◌, ◌⊎◌, ◌++◌, ◌∙◌, ◌-◌, min, ℕ, List, Ok, inl, inr, length, take, drop, refl, sym, ap}
use Rattle.std.proofs.lemmas.Bool.{cases_lt, le-leb}
use Rattle.std.proofs.lemmas.List.{length-take, length-drop, take_all}
use lib.Seq.{take-append-le}
use Rattle.bplist_octets.specs.Octets.{part}
use Rattle.bplist_objects.specs.Safe.{IsSafeBody, IsSafeText}
use Rattle.bplist_objects.specs.Units.{IsTextKind, units_of}
use Rattle.bplist_objects.specs.declared.head.Head.{Head}
use Rattle.bplist_objects.proofs.Units.{length-units_at}
use Rattle.bplist_c.specs.Statuses.{PutsItems}

-- parts from one place, or of no units, are the same
same_part : (us : List ℕ) (a b n : ℕ) → (a ≡ b) ⊎ (n ≡ 0) → part us a n ≡ part us b n
same_part us a b n (inl e) = ap (λ place. part us place n) e
same_part us a b n (inr none) = rw none refl

-- as many as there are and as fit are the first of them that fit
as_fit : (xs : List ℕ) (n room : ℕ) → n ≡ min (length xs) room → take n xs ≡ take room xs
as_fit xs n room e = elim (cases_lt room (length xs)) [
  | inl less ↦ ap (λ k. take k xs) (omega (arith, less, e))
  | inr all ↦ take_all n xs (omega (arith, all, e)) ∙ sym (take_all room xs all)
]

-- items that fit are written
pub fitting : {X : Type 0} (items old new : List X) (was count : ℕ) → length items ≤ length old → count ≡ length items → new ≡ items ++ drop (length items) old
    → PutsItems (Ok items) old new was count 0
fitting items old new was count fits counted put = (counted, rw (le-leb (length items) (length old) fits) (refl, put))

-- a part that was read into the front of the buffer, as much as there is and as fits, is written
pub part_put : (us : List ℕ) (from start now : ℕ) (read old : List ℕ) (was : ℕ) → start ≡ min from (length us)
    → now ≡ min (length us - start) (length old) → read ≡ part us start now → PutsItems (Ok (part us from (length old))) old (read ++ drop now old) was now 0
part_put us from start now read old was e d is =
    let items = part us from (length old) in
    let left = length-drop from us in
    let begin : (start ≡ from) ⊎ (now ≡ 0) = elim (cases_lt (length us) from) [
      | inl past ↦ inr (omega (arith, past, e, d))
      | inr within ↦ inl (omega (arith, within, e))
    ] in
    let same : read ≡ items = is ∙ same_part us start from now begin ∙ as_fit (drop from us) now (length old) (omega (arith, left, e, d)) in
    let size : length items ≡ now = length-take (length old) (drop from us) ∙ omega (arith, left, e, d) in
    fitting items old (read ++ drop now old) was now (omega (arith, size, d)) (sym size) (rw size (ap (λ us. us ++ drop now old) same))

-- units that were read into the front of the buffer, as many as there are and as fit, are written
pub units_put : (f : List ℕ) (head : Head) (from start now : ℕ) (read old : List ℕ) (was : ℕ) → IsTextKind head.kind → IsSafeBody (length f) head
    → start ≡ min from head.count → now ≡ min (head.count - start) (length old) → read ≡ part (units_of f head) start now
    → PutsItems (Ok (part (units_of f head) from (length old))) old (read ++ drop now old) was now 0
units_put f head from start now read old was text safe e d is =
    let all : length (units_of f head) ≡ head.count = length-units_at f head.kind head.count head.body text (omega (arith, safe.body, safe.within)) in
    part_put (units_of f head) from start now read old was (omega (arith, all, e)) (omega (arith, all, d)) is

-- as many units as a text has are all of them
pub whole_units : (f : List ℕ) (head : Head) (n : ℕ) (us : List ℕ) → IsSafeText (length f) head → n ≡ head.count
    → us ≡ part (units_of f head) 0 n → us ≡ units_of f head
whole_units f head n us text e is =
    let all : length (units_of f head) ≡ head.count =
    length-units_at f head.kind head.count head.body text.kind (omega (arith, text.body.body, text.body.within)) in
    is ∙ take_all n (units_of f head) (omega (arith, all, e))

-- what was written to the front of a list is its front
pub take_front : (len : ℕ) (xs ys : List ℕ) → length xs ≡ len → take len (xs ++ ys) ≡ xs
take_front len xs ys e = take-append-le len xs ys (omega (arith, e)) ∙ take_all len xs (omega (arith, e))
