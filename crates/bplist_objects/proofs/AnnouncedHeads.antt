-- What marker and count announce at a place is a front there, and the other way around; how many bytes they take.
use Rattle.std.proofs.Common.{◌≡◌, ℕ, suc, ◌<◌, ◌≤◌, ◌+◌, ◌-◌, ◌*◌, ◌^◌, inl, inr, List, [], ◌∷◌, ◌++◌, length, slice_index, take, drop, refl, sym, ap, ap₂, ◌∙◌, subst, arith, length-drop, take-append-drop, get_or-drop, pow_mono}
use Rattle.std.proofs.Math.Seq.{drop-cons, take-append_seam}
use Rattle.std.proofs.lemmas.List.{length-take-le, drop-drop}
use Rattle.bplist_octets.specs.Octets.{part, num}
use Rattle.bplist_objects.specs.declared.head.Kind.{Kind}
use Rattle.bplist_objects.specs.declared.head.Kind.TheVariants as kinds
use Rattle.bplist_objects.specs.Announced.{IsCount, IsFront}
use Rattle.bplist_objects.specs.Markers.{Markers, plain, counted, markers_of, AnnouncesAs, Announces}

-- marker and count take at most 18 bytes, and at least one
pub announced_short : (f : List ℕ) (p : ℕ) (form : Markers) (count body : ℕ) → AnnouncesAs f p form count body → (p < body) × (body ≤ p + 18)
announced_short f p (plain low high says) count body a = (omega (arith, a.3), omega (arith, a.3))
announced_short f p (counted high) count body (inl a) = (omega (arith, a.2), omega (arith, a.2))
announced_short f p (counted high) count body (inr (at, (w, w4, form, c, b))) = let small : 2 ^ w ≤ 16 = pow_mono {i = w} {j = 4} w4 in (omega (arith, b), omega (arith, b, small))

-- a front at this place, and what follows it
abbrev Fronted : List ℕ → ℕ → (List ℕ → Type 0) → ℕ → Type 0
Fronted f p Q body = (front rest : List ℕ) × (drop p f ≡ front ++ rest) × Q front × (body ≡ p + length front)

-- ---- from the announcement to the front
one_byte : (f : List ℕ) (p body : ℕ) (Q : List ℕ → Type 0) → p < length f → body ≡ p + 1 → Q (slice_index f p ∷ []) → Fronted f p Q body
one_byte f p body Q within b q = (slice_index f p ∷ [], drop (suc p) f, drop-cons f p 0 within, q, b)

-- the front of a marker of this number
marked : {m n : ℕ} → m ≡ n → m ∷ [] ≡ n ∷ []
marked e = ap (λ x. x ∷ []) e

in_counted : (f : List ℕ) (p g count body : ℕ) → body ≤ length f → AnnouncesAs f p (counted g) count body → Fronted f p (IsCount g count) body
in_counted f p g count body within (inl (low, at, b)) = one_byte f p body (IsCount g count) (omega arith) b (inl (low, marked at))
in_counted f p g count body within (inr (at, (w, w4, form, c, b))) =
    let x = slice_index f (suc p) in
    let m = slice_index f p in
    let j : suc p ≡ p + 1 = omega arith in
    let form' : x ≡ 16 + w = subst (λ y. slice_index f y ≡ 16 + w) (sym j) form in
    let rest = drop (suc (suc p)) f in
    let len : length (take (2 ^ w) rest) ≡ 2 ^ w = length-take-le (2 ^ w) rest (omega (arith, length-drop (suc (suc p)) f, within, b)) in
    let second : drop (suc p) f ≡ x ∷ rest = drop-cons f (suc p) 0 (omega (arith, within, b)) in
    let first : drop p f ≡ m ∷ drop (suc p) f = drop-cons f p 0 (omega (arith, within, b)) in
    let k : p + 2 ≡ suc (suc p) = omega arith in
    let eq : drop p f ≡ (m ∷ x ∷ take (2 ^ w) rest) ++ drop (2 ^ w) rest = first ∙ ap (λ r. m ∷ r) second ∙ ap (λ r. m ∷ x ∷ r) (sym (take-append-drop (2 ^ w) rest)) in
    let value : num (take (2 ^ w) rest) ≡ count = ap (λ i. num (take (2 ^ w) (drop i f))) (sym k) ∙ sym c in
    (m ∷ x ∷ take (2 ^ w) rest, drop (2 ^ w) rest, eq, inr (w, take (2 ^ w) rest, w4, len, value, ap₂ (λ a b. a ∷ b ∷ take (2 ^ w) rest) at form'), omega (arith, b, len))

rest_fronted : (f : List ℕ) (p : ℕ) (kind : Kind) (count body : ℕ) → p < length f → body ≤ length f → Announces f p kind count body → Fronted f p (IsFront kind count) body
rest_fronted f p kinds.Null count body l r (low, high, c, b) = one_byte f p body (IsFront kinds.Null count) l b (c, marked (omega arith))
rest_fronted f p kinds.False count body l r (low, high, c, b) = one_byte f p body (IsFront kinds.False count) l b (c, marked (omega arith))
rest_fronted f p kinds.True count body l r (low, high, c, b) = one_byte f p body (IsFront kinds.True count) l b (c, marked (omega arith))
rest_fronted f p kinds.Int count body l r (low, high, c, b) = one_byte f p body (IsFront kinds.Int count) l b (slice_index f p - 16, omega arith, c, marked (omega arith))
rest_fronted f p kinds.Real count body l r (low, high, c, b) = one_byte f p body (IsFront kinds.Real count) l b (slice_index f p - 32, omega arith, omega arith, c, marked (omega arith))
rest_fronted f p kinds.Date count body l r (low, high, c, b) = one_byte f p body (IsFront kinds.Date count) l b (c, marked (omega arith))
rest_fronted f p kinds.Uid count body l r (low, high, c, b) = one_byte f p body (IsFront kinds.Uid count) l b (slice_index f p - 128, omega arith, omega arith, marked (omega arith))
rest_fronted f p kinds.Bytes count body l r a = in_counted f p 4 count body r a
rest_fronted f p kinds.Ascii count body l r a = in_counted f p 5 count body r a
rest_fronted f p kinds.Wide count body l r a = in_counted f p 6 count body r a
rest_fronted f p kinds.Array count body l r a = in_counted f p 10 count body r a
rest_fronted f p kinds.Set count body l r a = in_counted f p 12 count body r a
rest_fronted f p kinds.Dict count body l r a = in_counted f p 13 count body r a

-- ---- from the front to the announcement
first_byte : (f : List ℕ) (p m : ℕ) (front l rest : List ℕ) → drop p f ≡ front ++ rest → front ≡ m ∷ l → slice_index f p ≡ m
first_byte f p m front l rest e i =
    let z : p + 0 ≡ p = omega arith in
    ap (slice_index f) (sym z) ∙ sym (get_or-drop p f 0 0) ∙ ap (λ x. slice_index x 0) (e ∙ ap (λ x. x ++ rest) i)

end_of : (p : ℕ) (m : ℕ) (front : List ℕ) → front ≡ m ∷ [] → p + length front ≡ p + 1
end_of p m front i = ap (λ x. p + length x) i

-- a front that is only a marker
from_byte : (f : List ℕ) (p low high : ℕ) (says : ℕ → ℕ) (count m : ℕ) (front rest : List ℕ) → drop p f ≡ front ++ rest → front ≡ m ∷ [] → low ≤ m → m ≤ high → count ≡ says m
    → AnnouncesAs f p (plain low high says) count (p + length front)
from_byte f p low high says count m front rest e i l h c =
    let at = first_byte f p m front [] rest e i in
    (omega (arith, at, l), omega (arith, at, h), c ∙ ap says (sym at), end_of p m front i)

uncounted : (f : List ℕ) (p g count : ℕ) (front rest : List ℕ) → drop p f ≡ front ++ rest → IsCount g count front → AnnouncesAs f p (counted g) count (p + length front)
uncounted f p g count front rest e (inl (low, i)) = inl (low, first_byte f p _ front [] rest e i, end_of p _ front i)
uncounted f p g count front rest e (inr (w, l, w4, len, value, i)) =
    let all : drop p f ≡ ((16 * g + 15) ∷ (16 + w) ∷ l) ++ rest = e ∙ ap (λ x. x ++ rest) i in
    let second : drop (p + 1) f ≡ ((16 + w) ∷ l) ++ rest = sym (drop-drop 1 p f) ∙ ap (drop 1) all in
    let third : drop (p + 2) f ≡ l ++ rest = sym (drop-drop 2 p f) ∙ ap (drop 2) all in
    let front2 : take (2 ^ w) (l ++ rest) ≡ l = ap (λ j. take j (l ++ rest)) (sym len) ∙ take-append_seam l rest in
    inr (first_byte f p _ front _ rest e i, (w, w4, first_byte f (p + 1) (16 + w) ((16 + w) ∷ l) l rest second refl, sym (ap num (ap (take (2 ^ w)) third ∙ front2) ∙ value), omega (arith, ap length i, len)))

rest_announced : (f : List ℕ) (p : ℕ) (kind : Kind) (count : ℕ) (front rest : List ℕ) → drop p f ≡ front ++ rest → IsFront kind count front → Announces f p kind count (p + length front)
rest_announced f p kinds.Null count front rest e i = from_byte f p 0 0 (λ m. 0) count 0 front rest e i.1 (omega arith) (omega arith) i.0
rest_announced f p kinds.False count front rest e i = from_byte f p 8 8 (λ m. 0) count 8 front rest e i.1 (omega arith) (omega arith) i.0
rest_announced f p kinds.True count front rest e i = from_byte f p 9 9 (λ m. 0) count 9 front rest e i.1 (omega arith) (omega arith) i.0
rest_announced f p kinds.Int count front rest e (w, w4, c, i) = from_byte f p 16 20 (λ m. 2 ^ (m - 16)) count (16 + w) front rest e i (omega arith) (omega arith) (c ∙ ap (λ x. 2 ^ x) (omega arith))
rest_announced f p kinds.Real count front rest e (w, w2, w3, c, i) = from_byte f p 34 35 (λ m. 2 ^ (m - 32)) count (32 + w) front rest e i (omega arith) (omega arith) (c ∙ ap (λ x. 2 ^ x) (omega arith))
rest_announced f p kinds.Date count front rest e i = from_byte f p 51 51 (λ m. 8) count 51 front rest e i.1 (omega arith) (omega arith) i.0
rest_announced f p kinds.Uid count front rest e (n, few, c, i) = from_byte f p 128 143 (λ m. m - 127) count (128 + n) front rest e i (omega arith) (omega arith) (omega arith)
rest_announced f p kinds.Bytes count front rest e i = uncounted f p 4 count front rest e i
rest_announced f p kinds.Ascii count front rest e i = uncounted f p 5 count front rest e i
rest_announced f p kinds.Wide count front rest e i = uncounted f p 6 count front rest e i
rest_announced f p kinds.Array count front rest e i = uncounted f p 10 count front rest e i
rest_announced f p kinds.Set count front rest e i = uncounted f p 12 count front rest e i
rest_announced f p kinds.Dict count front rest e i = uncounted f p 13 count front rest e i

-- ---- the same by the part that the front is
-- a front of this kind and count at this place, up to the body
abbrev pub IsFrontAt : List ℕ → ℕ → Kind → ℕ → ℕ → Type 0
IsFrontAt f p kind count body = (front : List ℕ) × (part f p (length front) ≡ front) × IsFront kind count front × (body ≡ p + length front)

pub announced : (f : List ℕ) (p : ℕ) (kind : Kind) (count body : ℕ) → IsFrontAt f p kind count body → Announces f p kind count body
announced f p kind count body (front, stands, is, b) =
    let rest = drop (length front) (drop p f) in
    let all : drop p f ≡ front ++ rest = sym (take-append-drop (length front) (drop p f)) ∙ ap (λ x. x ++ rest) stands in
    subst (Announces f p kind count) (sym b) (rest_announced f p kind count front rest all is)

pub fronted : (f : List ℕ) (p : ℕ) (kind : Kind) (count body : ℕ) → body ≤ length f → Announces f p kind count body → IsFrontAt f p kind count body
fronted f p kind count body within a =
    let short = announced_short f p (markers_of kind) count body a in
    let (front, rest, all, is, b) = rest_fronted f p kind count body (omega (arith, short.0)) within a in
    (front, ap (take (length front)) all ∙ take-append_seam front rest, is, b)
