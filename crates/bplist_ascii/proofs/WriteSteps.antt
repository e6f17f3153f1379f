-- What is put into a sink, piece by piece.
use Rattle.std.proofs.Common.{IsTrue, take-append-drop, slice_index, ◌&&◌, ◌≡◌, ◌≢◌, ℕ, suc, ◌+◌, ◌<◌, ◌≤◌, Bool, true, false, List, [], ◌∷◌, ◌++◌, arith, length, take, drop, refl, sym, ap, ◌∙◌, subst, append_assoc, append-nil, Result, Ok, Err}
use Rattle.std.specs.Prelude.{Option, OnErr}
use Rattle.std.specs.List.{flat_map, list_all}
use Rattle.std.proofs.KnownBytes.{Appends-trans}
use Rattle.std.proofs.lemmas.List.{length-append}
use Rattle.std.proofs.lemmas.Grind.{flat_map-append}
use Rattle.std.proofs.lemmas.List.Folds.{list_all-append}
use Rattle.std.proofs.lemmas.List.{drop_more}
use lib.Seq.{take-add}
use Rattle.bplist_octets.specs.Octets.{part}
use Rattle.bplist_cert.specs.CheckedFile.{CheckedFile}
use Rattle.bplist_octets.specs.Sending.{Sending, SendsSome, TakesPart}
use Rattle.std.specs.Char.{is_ascii_alphanumeric}
use Rattle.hex.specs.Hex.{encode_lower, encode_with}
use Rattle.bplist_cursor.specs.Texts.{text_of_units, quoted}
use Rattle.bplist_ascii.specs.declared.printer.Style.TheVariants.{Unquoted, Quoted}
use Rattle.bplist_cursor.specs.declared.faults.Unread.{Unread}
use Rattle.bplist_cursor.specs.declared.faults.Unread.TheVariants as unread
use Rattle.bplist_ascii.specs.BoundedWrites.{styled, fits, hex_digits, is_unquoted_text, Adds, AddsText, AddFails, StaysWithin}
use Rattle.bplist_ascii.specs.declared.printer.PrintFault.{PrintFault}
use Rattle.bplist_ascii.specs.declared.printer.PrintFault.TheVariants.{NoAsciiForm, TooLong, Write, Read, Changed, Memory}
use Rattle.bplist_cursor.proofs.StepObjects.{not_true}
use Rattle.bplist_octets.proofs.SinkSteps.{takes_nothing, takes_more, takes_then_part, takes_then_some, some_of_takes, part_of_more}

pub adds_nothing : (now : Option (List ℕ)) (s : Sending) (room : ℕ) → Adds now now s s room room []
adds_nothing now s room = record { taken = takes_nothing now s; counted = omega arith }

-- bytes, and then more bytes
pub adds_more : {old mid new : Option (List ℕ)} {s t u : Sending} {r r' r'' : ℕ} {xs ys : List ℕ} → Adds old mid s t r r' xs → Adds mid new t u r' r'' ys
    → Adds old new s u r r'' (xs ++ ys)
adds_more {old} {mid} {new} {s} {t} {u} {r} {r'} {r''} {xs} {ys} p q = record {
  taken = takes_more p.taken q.taken;
  counted = let a = p.counted in let b = q.counted in omega (arith, a, b, length-append xs ys);
}

-- what was put in fit the room
pub adds_fit : {old new : Option (List ℕ)} {s t : Sending} {r r' : ℕ} {xs : List ℕ} → Adds old new s t r r' xs → StaysWithin old new s r
adds_fit {old} {new} {s} {t} {r} {r'} {xs} p =
    let gone = p.taken.gone in
    let all : length (s.held ++ xs) ≡ length (gone ++ t.held) = ap length p.taken.all in
    let counted = p.counted in
    (gone, omega (arith, all, counted, length-append s.held xs, length-append gone t.held), p.taken.appended)

-- what fits the room that was left fits the whole room
pub adds_within : (old mid new : Option (List ℕ)) {s t : Sending} {r r' : ℕ} {xs : List ℕ} → Adds old mid s t r r' xs → StaysWithin mid new t r' → StaysWithin old new s r
adds_within old mid new {s} {t} {r} {r'} {xs} p q =
    let gone = p.taken.gone in
    let all : length (s.held ++ xs) ≡ length (gone ++ t.held) = ap length p.taken.all in
    let counted = p.counted in
    let most = q.1 in (
      gone ++ q.0,
      omega (arith, all, counted, most, length-append s.held xs, length-append gone t.held, length-append gone q.0),
      Appends-trans old mid new gone q.0 p.taken.appended q.2,
    )

-- a fault after first bytes were put in: some more failed, and others would have followed
pub adds_fail : (old mid new : Option (List ℕ)) {s t : Sending} {r r' : ℕ} {xs : List ℕ} (ys zs whole : List ℕ) (e : PrintFault) → Adds old mid s t r r' xs
    → (length ys ≤ r' → AddFails mid new t ys e) → whole ≡ xs ++ (ys ++ zs) → length whole ≤ r → AddFails old new s whole e
adds_fail old mid new {s} {t} {r} {r'} {xs} ys zs whole e p q is low =
    let counted = p.counted in
    let long = ap length is in
    let part = q (omega (arith, counted, low, long, length-append xs (ys ++ zs), length-append ys zs)) in
    go e part
  where
    some : SendsSome mid new (t.held ++ ys) → SendsSome old new (s.held ++ whole)
    some out = subst (λ l. SendsSome old new (s.held ++ l)) (sym is) (takes_then_some old mid new ys zs p.taken out)

    go : (e : PrintFault) → AddFails mid new t ys e → AddFails old new s whole e
    go (Write sent) part = subst (λ l. TakesPart old new s l sent) (append_assoc xs ys zs ∙ sym is) (part_of_more old new s (xs ++ ys) zs sent (takes_then_part old mid new s t xs ys sent p.taken part))
    go (Read fault) part = some part
    go Memory part = some part
    go Changed part = part
    go TooLong part = part
    go (NoAsciiForm n) part = part

-- a text, and then more bytes
pub text_more : {old mid new : Option (List ℕ)} {s t u : Sending} {r r' r'' : ℕ} {P : Type 0} {xs : List ℕ} (ys zs : List ℕ) → AddsText old mid s t r r' P xs → Adds mid new t u r' r'' ys
    → (P → xs ++ ys ≡ zs) → AddsText old new s u r r'' P zs
text_more ys zs p q is = record { bytes = p.bytes ++ ys; adds = adds_more p.adds q; is = λ h. ap (λ l. l ++ ys) (p.is h) ∙ is h }

pub text_adds : {old new : Option (List ℕ)} {s t : Sending} {r r' : ℕ} {P : Type 0} {xs : List ℕ} → AddsText old new s t r r' P xs → P → Adds old new s t r r' xs
text_adds {old} {new} {s} {t} {r} {r'} {P} {xs} p h = subst (Adds old new s t r r') (p.is h) p.adds

-- a list as what is before a part, the part, and what is after it
pub parts_of : (xs : List ℕ) (a n : ℕ) → xs ≡ take a xs ++ (part xs a n ++ drop n (drop a xs))
parts_of xs a n = sym (take-append-drop a xs) ∙ ap (λ l. take a xs ++ l) (sym (take-append-drop n (drop a xs)))

pub flat_part : (f : ℕ → List ℕ) (xs : List ℕ) (a n : ℕ) → flat_map f (take a xs) ++ flat_map f (part xs a n) ≡ flat_map f (take (a + n) xs)
flat_part f xs a n = sym (flat_map-append f (take a xs) (part xs a n)) ∙ ap (flat_map f) (sym (take-add a n xs))

pub flat_parts : (f : ℕ → List ℕ) (xs : List ℕ) (a n : ℕ) → flat_map f xs ≡ flat_map f (take a xs) ++ (flat_map f (part xs a n) ++ flat_map f (drop n (drop a xs)))
flat_parts f xs a n =
    ap (flat_map f) (parts_of xs a n)
    ∙ flat_map-append f (take a xs) (part xs a n ++ drop n (drop a xs))
    ∙ ap (λ l. flat_map f (take a xs) ++ l) (flat_map-append f (part xs a n) (drop n (drop a xs)))

both_true : (a b : Bool) → (a && b) ≡ true → (a ≡ true) × (b ≡ true)
both_true true b h = (refl, h)
both_true false b h = cc h

-- if all items pass, those of a part pass
pub all_in_part : (p : ℕ → Bool) (xs : List ℕ) (a n : ℕ) → list_all p xs ≡ true → list_all p (part xs a n) ≡ true
all_in_part p xs a n h =
    let all = sym (ap (list_all p) (parts_of xs a n) ∙ list_all-append p (take a xs) (part xs a n ++ drop n (drop a xs))) ∙ h in
    let rest = both_true (list_all p (take a xs)) (list_all p (part xs a n ++ drop n (drop a xs))) all in
    (both_true (list_all p (part xs a n)) (list_all p (drop n (drop a xs))) (sym (list_all-append p (part xs a n) (drop n (drop a xs))) ∙ rest.1)).0

pub part_one : (xs : List ℕ) (i : ℕ) → i < length xs → part xs i 1 ≡ slice_index xs i ∷ []
part_one xs i l = ap (take 1) (drop_more xs i 0 l)

flat_one : (f : ℕ → List ℕ) (xs : List ℕ) (i : ℕ) → i < length xs → flat_map f (part xs i 1) ≡ f (slice_index xs i)
flat_one f xs i l = ap (flat_map f) (part_one xs i l) ∙ append-nil (f (slice_index xs i))

-- one more item
pub flat_next : (f : ℕ → List ℕ) (xs : List ℕ) (i : ℕ) → i < length xs → flat_map f (take i xs) ++ f (slice_index xs i) ≡ flat_map f (take (i + 1) xs)
flat_next f xs i l = ap (λ ys. flat_map f (take i xs) ++ ys) (sym (flat_one f xs i l)) ∙ flat_part f xs i 1

-- all items as those before one, the item, and those after it
pub flat_at : (f : ℕ → List ℕ) (xs : List ℕ) (i : ℕ) → i < length xs → flat_map f xs ≡ flat_map f (take i xs) ++ (f (slice_index xs i) ++ flat_map f (drop 1 (drop i xs)))
flat_at f xs i l = flat_parts f xs i 1 ∙ ap (λ ys. flat_map f (take i xs) ++ (ys ++ flat_map f (drop 1 (drop i xs)))) (flat_one f xs i l)

pub passes_at : (p : ℕ → Bool) (xs : List ℕ) (i : ℕ) → i < length xs → list_all p xs ≡ true → p (slice_index xs i) ≡ true
passes_at p xs i l h = (both_true (p (slice_index xs i)) true (sym (ap (list_all p) (part_one xs i l)) ∙ all_in_part p xs i 1 h)).0

-- what holds of every result holds of an error
pub on_err : {X E : Type 0} {P : Type 0} (r : Result X E) → P → OnErr r P
on_err (Ok x) p = tt
on_err (Err e) p = p

pub length-unquoted : (us : List ℕ) → length (flat_map (styled Unquoted) us) ≡ length us
length-unquoted [] = refl
length-unquoted (u ∷ us) = ap suc (length-unquoted us)

-- bytes, and then a text
pub text_after : {old mid new : Option (List ℕ)} {s t u : Sending} {r r' r'' : ℕ} {P : Type 0} {xs ys : List ℕ} → Adds old mid s t r r' xs → AddsText mid new t u r' r'' P ys → AddsText old new s u r r'' P (xs ++ ys)
text_after {xs = xs} p q = record { bytes = xs ++ q.bytes; adds = adds_more p q.adds; is = λ h. ap (λ l. xs ++ l) (q.is h) }

-- any units can be written in quotes
pub all_fit : (us : List ℕ) → list_all (fits Quoted) us ≡ true
all_fit [] = refl
all_fit (u ∷ us) = all_fit us

pub all_more : (p : ℕ → Bool) (us : List ℕ) (a n : ℕ) → list_all p (take a us) ≡ true → list_all p (part us a n) ≡ true → list_all p (take (a + n) us) ≡ true
all_more p us a n h k = ap (list_all p) (take-add a n us) ∙ list_all-append p (take a us) (part us a n) ∙ ap (λ b. b && list_all p (part us a n)) h ∙ k

-- the digits of bytes, byte by byte
pub all_digits : (bytes : List ℕ) → flat_map hex_digits bytes ≡ encode_lower bytes
unfolding encode_with
all_digits [] = refl
all_digits (b ∷ bytes) = ap (λ l. hex_digits b ++ l) (all_digits bytes)

pub all_is_unquoted : (us : List ℕ) → 0 < length us → list_all is_ascii_alphanumeric us ≡ true → is_unquoted_text us ≡ true
all_is_unquoted [] l h = absurd (omega (arith, l))
all_is_unquoted (u ∷ us) l h = h

unquoted_all : (us : List ℕ) → is_unquoted_text us ≡ true → list_all is_ascii_alphanumeric us ≡ true
unquoted_all [] h = refl
unquoted_all (u ∷ us) h = h

-- a part that has another character than letters and digits
pub part_not_unquoted : (us : List ℕ) (a n : ℕ) → list_all is_ascii_alphanumeric (part us a n) ≡ false → false ≡ is_unquoted_text us
part_not_unquoted us a n h = sym (not_true (is_unquoted_text us) (λ unquoted. let k = all_in_part is_ascii_alphanumeric us a n (unquoted_all us unquoted) in cc (h, k)))

pub unquoted_text : (us : List ℕ) → is_unquoted_text us ≡ true → (text_of_units us ≡ us) × (list_all (fits Unquoted) us ≡ true)
unquoted_text [] h = absurd (cc h)
unquoted_text (u ∷ us) h = (rw h refl, h)

pub quoted_text : (us : List ℕ) → is_unquoted_text us ≡ false → text_of_units us ≡ quoted us
quoted_text [] h = refl
quoted_text (u ∷ us) h = rw h refl

pub flat_unquoted : (us : List ℕ) → flat_map (styled Unquoted) us ≡ us
flat_unquoted [] = refl
flat_unquoted (u ∷ us) = ap (λ l. u ∷ l) (flat_unquoted us)

-- a text that equals another if its premise holds
pub text_under : {old new : Option (List ℕ)} {s t : Sending} {r r' : ℕ} {P : Type 0} {xs ys : List ℕ} → (P → xs ≡ ys) → AddsText old new s t r r' P xs → AddsText old new s t r r' P ys
text_under e p = record { bytes = p.bytes; adds = p.adds; is = λ h. p.is h ∙ e h }

-- a fault for a text is one for an equal text
pub fails_under : (old new : Option (List ℕ)) (s : Sending) (room : ℕ) (e : PrintFault) {xs ys : List ℕ} → xs ≡ ys → (length xs ≤ room → AddFails old new s xs e) → length ys ≤ room → AddFails old new s ys e
fails_under old new s room e is h = subst (λ l. length l ≤ room → AddFails old new s l e) is h

-- the error of printing for a cause of an unread object
abbrev pub print_fault_of : Unread → PrintFault
print_fault_of (unread.Read fault) = Read fault
print_fault_of unread.Changed = Changed

-- a first part of the bytes was put in, and a first part of these was sent
pub adds_some : {old new : Option (List ℕ)} {s t : Sending} {r r' : ℕ} {xs whole : List ℕ} (ys : List ℕ) → Adds old new s t r r' xs → whole ≡ xs ++ ys → SendsSome old new (s.held ++ whole)
adds_some {old} {new} {s} ys p is = subst (λ l. SendsSome old new (s.held ++ l)) (sym is) (some_of_takes ys p.taken)

-- a read failed after the first of the bytes were put in
pub read_fails : {old new : Option (List ℕ)} {s t : Sending} {r r' : ℕ} {xs whole : List ℕ} (ys : List ℕ) (e : Unread) → Adds old new s t r r' xs → whole ≡ xs ++ ys → e ≢ unread.Changed
    → AddFails old new s whole (print_fault_of e)
read_fails ys (unread.Read fault) p is h = adds_some ys p is
read_fails ys unread.Changed p is h = absurd (h refl)

-- a fault for a text that is read from a file is one for the text of the same file
pub fails_same : (old new : Option (List ℕ)) (s : Sending) (room : ℕ) (e : PrintFault) (words : CheckedFile → List ℕ) {x y : CheckedFile} → x ≡ y
    → (IsTrue x.source.honest → length (words x) ≤ room → AddFails old new s (words x) e) → IsTrue y.source.honest → length (words y) ≤ room → AddFails old new s (words y) e
fails_same old new s room e words same h = subst (λ x. IsTrue x.source.honest → length (words x) ≤ room → AddFails old new s (words x) e) same h
