-- Texts that are read in parts, none of which ends inside a character.
use Rattle.std.proofs.Common.{◌≡◌, ◌<◌, ◌≤◌, ◌+◌, ◌-◌, ◌&&◌, ◌||◌, ◌++◌, ℕ, suc, List, [], ◌∷◌, Bool, true, false, Option, map, length, take, drop, slice_index, ap, sym, ◌∙◌, refl, arith, append_assoc, append-nil, cond}
use Rattle.std.proofs.Common.{take-append-drop, get_or-drop, Some}
use Rattle.std.proofs.lemmas.Bool.Decides.{nat_tests}
use Rattle.std.specs.Prelude.{get_or}
use Rattle.std.proofs.lemmas.List.{drop-drop, drop_all, get_or_append_left, get_or_past, map-append, take-append-le, take-take}
use Rattle.std.proofs.lemmas.List.Folds.{list_any-append}
use Rattle.std.proofs.lemmas.Str.{encodes-append, utf16_chars-nil}
use Rattle.bplist_objects.proofs.Parts.{get_or-part}
use Rattle.bplist_objects.proofs.Units.{length-part}
use Rattle.std.specs.Prelude.{not, is_some, unwrap_or, encode_utf8_all}
use Rattle.std.specs.List.{list_any}
use Rattle.std.specs.Char.Utf16.{has_unpaired_surrogate, is_high_surrogate, is_low_surrogate, lone_unit_char, surrogate_pair_char, utf16_chars}
use Rattle.bplist_octets.specs.Octets.{part}
use Rattle.bplint_engine.specs.Streams.{IsCut}

-- the last unit is the first half of a pair
abbrev ends_high : List ℕ → Bool
ends_high [] = false
ends_high (u ∷ []) = is_high_surrogate u
ends_high (u ∷ v ∷ us) = ends_high (v ∷ us)

-- the first unit is the second half of a pair
abbrev starts_low : List ℕ → Bool
starts_low [] = false
starts_low (u ∷ us) = is_low_surrogate u

cut_tail : (v : ℕ) (us bs : List ℕ) → (ends_high (v ∷ us) && starts_low bs) ≡ false → (ends_high us && starts_low bs) ≡ false
cut_tail v [] bs h = refl
cut_tail v (w ∷ us) bs h = h

chars_split : (xs bs : List ℕ) → (ends_high xs && starts_low bs) ≡ false → utf16_chars (xs ++ bs) ≡ utf16_chars xs ++ utf16_chars bs
unfolding utf16_chars
chars_split [] bs h = refl
chars_split (u ∷ []) [] h = refl
chars_split (u ∷ []) (b ∷ bs) h = rw h refl
chars_split (u ∷ v ∷ us) bs h =
    go (is_high_surrogate u && is_low_surrogate v) (chars_split us bs (cut_tail v us bs h)) (chars_split (v ∷ us) bs h)
  where
    go : (t : Bool) → utf16_chars (us ++ bs) ≡ utf16_chars us ++ utf16_chars bs → utf16_chars (v ∷ us ++ bs) ≡ utf16_chars (v ∷ us) ++ utf16_chars bs
        → cond t (Some (surrogate_pair_char u v) ∷ utf16_chars (us ++ bs)) (lone_unit_char u ∷ utf16_chars (v ∷ us ++ bs))
        ≡ cond t (Some (surrogate_pair_char u v) ∷ utf16_chars us) (lone_unit_char u ∷ utf16_chars (v ∷ us)) ++ utf16_chars bs
    go true p q = ap (λ cs. Some (surrogate_pair_char u v) ∷ cs) p
    go false p q = ap (λ cs. lone_unit_char u ∷ cs) q

-- the last unit of a part, and the first one after it, by their places

ends_at : (us : List ℕ) → ends_high us ≡ is_high_surrogate (slice_index us (length us - 1))
ends_at [] = refl
ends_at (u ∷ []) = refl
ends_at (u ∷ v ∷ us) =
    let step : suc (suc (length us)) - 1 ≡ suc (suc (length us) - 1) = omega arith in
    ends_at (v ∷ us) ∙ ap (λ k. is_high_surrogate (slice_index (u ∷ v ∷ us) k)) (sym step)

starts_at : (us : List ℕ) → starts_low us ≡ is_low_surrogate (slice_index us 0)
starts_at [] = refl
starts_at (u ∷ us) = refl

-- the characters from a cut on are those up to the next cut and those after it
pub chars_step : (us : List ℕ) (a n : ℕ) → 0 < n → a + n ≤ length us → IsCut us (a + n) → utf16_chars (drop a us) ≡ utf16_chars (part us a n) ++ utf16_chars (drop (a + n) us)
chars_step us a n some within cut =
    let long = length-part us a n within in
    let last : ends_high (part us a n) ≡ is_high_surrogate (slice_index us (a + n - 1)) =
    ends_at (part us a n) ∙ ap is_high_surrogate (ap (λ k. slice_index (part us a n) (k - 1)) long ∙ get_or-part us a n (n - 1) 0 (omega (arith, some)) ∙ ap (slice_index us) (omega (arith, some))) in
    let first : starts_low (drop n (drop a us)) ≡ is_low_surrogate (slice_index us (a + n)) =
    starts_at (drop n (drop a us)) ∙ ap is_low_surrogate (ap (λ l. slice_index l 0) (drop-drop n a us) ∙ get_or-drop (a + n) us 0 0 ∙ ap (slice_index us) (omega arith)) in
    ap utf16_chars (sym (take-append-drop n (drop a us)))
    ∙ chars_split (part us a n) (drop n (drop a us)) ((λ i. last i && first i) ∙ cut)
    ∙ ap (λ l. utf16_chars (part us a n) ++ utf16_chars l) (drop-drop n a us)

-- the UTF-8 of characters
abbrev pub utf8_of : List (Option ℕ) → List ℕ
utf8_of cs = encode_utf8_all (map (λ o. unwrap_or o 0xFFFD) cs)

pub utf8_append : (xs bs : List (Option ℕ)) → utf8_of (xs ++ bs) ≡ utf8_of xs ++ utf8_of bs
utf8_append xs bs = ap encode_utf8_all (map-append (λ o. unwrap_or o 0xFFFD) xs bs) ∙ encodes-append (map (λ o. unwrap_or o 0xFFFD) xs) (map (λ o. unwrap_or o 0xFFFD) bs)

-- some surrogate among the characters has no partner
abbrev pub have_lone : List (Option ℕ) → Bool
have_lone cs = list_any (λ o. not (is_some o)) cs

-- the characters before this place and those from it on are all characters
abbrev pub IsRead : List ℕ → ℕ → List (Option ℕ) → Type 0
IsRead us done cs = utf16_chars us ≡ cs ++ utf16_chars (drop done us)

pub read_start : (us : List ℕ) → IsRead us 0 []
read_start us = refl

pub read_on : (us : List ℕ) (done n : ℕ) (cs : List (Option ℕ)) → 0 < n → done + n ≤ length us → IsCut us (done + n) → IsRead us done cs
    → IsRead us (done + n) (cs ++ utf16_chars (part us done n))
read_on us done n cs some within cut is =
    is ∙ ap (λ l. cs ++ l) (chars_step us done n some within cut) ∙ sym (append_assoc cs (utf16_chars (part us done n)) (utf16_chars (drop (done + n) us)))

pub read_end : (us : List ℕ) (done : ℕ) (cs : List (Option ℕ)) → length us ≤ done → IsRead us done cs → utf16_chars us ≡ cs
read_end us done cs past is = is ∙ ap (λ l. cs ++ utf16_chars l) (drop_all done us past) ∙ ap (λ l. cs ++ l) utf16_chars-nil ∙ append-nil cs

-- a part with a lone surrogate shows that the whole text has one
pub lone_in_part : (us : List ℕ) (done n : ℕ) (cs : List (Option ℕ)) → 0 < n → done + n ≤ length us → IsCut us (done + n) → IsRead us done cs
    → has_unpaired_surrogate (part us done n) ≡ true → has_unpaired_surrogate us ≡ true
lone_in_part us done n cs some within cut is lone =
    let rest = utf16_chars (drop (done + n) us) in
    ap have_lone (read_on us done n cs some within cut is)
    ∙ list_any-append (λ o. not (is_some o)) (cs ++ utf16_chars (part us done n)) rest
    ∙ ap (λ b. b || have_lone rest) (list_any-append (λ o. not (is_some o)) cs (utf16_chars (part us done n)) ∙ ap (λ b. have_lone cs || b) lone)
    ∙ either (have_lone cs) (have_lone rest)
  where
    either : (a b : Bool) → ((a || true) || b) ≡ true
    either true b = refl
    either false b = refl

pub none_lone_on : (cs ds : List (Option ℕ)) → have_lone cs ≡ false → have_lone ds ≡ false → have_lone (cs ++ ds) ≡ false
none_lone_on cs ds h k = list_any-append (λ o. not (is_some o)) cs ds ∙ (λ i. h i || k i)

-- the UTF-8 of the whole text, from what is read and what is left
pub utf8_rest : (us : List ℕ) (done : ℕ) (cs : List (Option ℕ)) → IsRead us done cs → utf8_of (utf16_chars us) ≡ utf8_of cs ++ utf8_of (utf16_chars (drop done us))
utf8_rest us done cs is = ap utf8_of is ∙ utf8_append cs (utf16_chars (drop done us))

-- the same with the next part
pub utf8_parts : (us : List ℕ) (done n : ℕ) (cs : List (Option ℕ)) → 0 < n → done + n ≤ length us → IsCut us (done + n) → IsRead us done cs
    → utf8_of (utf16_chars us) ≡ utf8_of cs ++ (utf8_of (utf16_chars (part us done n)) ++ utf8_of (utf16_chars (drop (done + n) us)))
utf8_parts us done n cs some within cut is =
    utf8_rest us done cs is
    ∙ ap (λ l. utf8_of cs ++ l) (ap utf8_of (chars_step us done n some within cut) ∙ utf8_append (utf16_chars (part us done n)) (utf16_chars (drop (done + n) us)))

-- the first half of a pair is not also a second half
high_not_low : (u : ℕ) → is_high_surrogate u ≡ true → is_low_surrogate u ≡ false
high_not_low u h = grind (arith, nat_tests, h)

low_not_high : (u : ℕ) → is_low_surrogate u ≡ true → is_high_surrogate u ≡ false
low_not_high u h = grind (arith, nat_tests, h)

-- a part ends between characters if it ends with the text, if its last unit is no first half, or if it ends before a
-- first half
pub cut_at_end : (us : List ℕ) (place : ℕ) → length us ≤ place → IsCut us place
cut_at_end us place past = ap (λ u. is_high_surrogate (slice_index us (place - 1)) && is_low_surrogate u) (get_or_past us place 0 past) ∙ none (is_high_surrogate (slice_index us (place - 1)))
  where
    none : (b : Bool) → (b && false) ≡ false
    none true = refl
    none false = refl

pub cut_behind : (us : List ℕ) (place : ℕ) → is_high_surrogate (slice_index us (place - 1)) ≡ false → IsCut us place
cut_behind us place h = ap (λ b. b && is_low_surrogate (slice_index us place)) h

pub cut_before : (us : List ℕ) (place : ℕ) → is_high_surrogate (slice_index us place) ≡ true → IsCut us place
cut_before us place h = ap (λ b. is_high_surrogate (slice_index us (place - 1)) && b) (high_not_low (slice_index us place) h) ∙ none (is_high_surrogate (slice_index us (place - 1)))
  where
    none : (b : Bool) → (b && false) ≡ false
    none true = refl
    none false = refl

-- a first part of what was read
pub front_read : (us into rest : List ℕ) (from n m : ℕ) → m ≤ n → from + n ≤ length us → into ≡ part us from n → take m (into ++ rest) ≡ part us from m
front_read us into rest from n m less within read =
    let long = ap length read ∙ length-part us from n within in
    take-append-le m into rest (omega (arith, long, less)) ∙ ap (take m) read ∙ take-take m n (drop from us) less

-- the last unit that was read
pub last_read : (us into rest : List ℕ) (from n : ℕ) → 0 < n → from + n ≤ length us → into ≡ part us from n → get_or (into ++ rest) (n - 1) 0 ≡ slice_index us (from + (n - 1))
last_read us into rest from n some within read =
    let long = ap length read ∙ length-part us from n within in
    get_or_append_left into rest 0 (n - 1) (omega (arith, long, some)) ∙ ap (λ l. get_or l (n - 1) 0) read ∙ get_or-part us from n (n - 1) 0 (omega (arith, some))

-- units of a text in a file
pub not_lone : (b : Bool) → true ≡ not b → b ≡ false
not_lone false h = refl
not_lone true h = cc h

-- ---- texts whose surrogates all have their partners
-- such a text does not end with the first half of a pair
none_high_last : (us : List ℕ) → has_unpaired_surrogate us ≡ false → ends_high us ≡ false
unfolding utf16_chars
none_high_last [] h = refl
none_high_last (u ∷ []) h = grind (arith, nat_tests, h)
none_high_last (u ∷ v ∷ us) h = go (is_high_surrogate u && is_low_surrogate v) refl h (none_high_last us) (none_high_last (v ∷ us))
  where
    pair : (b : Bool) → (b && is_low_surrogate v) ≡ true → is_high_surrogate v ≡ false
    pair true e = low_not_high v e
    pair false e = absurd (cc e)

    behind : (us : List ℕ) → is_high_surrogate v ≡ false → ends_high us ≡ false → ends_high (v ∷ us) ≡ false
    behind [] e k = e
    behind (w ∷ us) e k = k

    rest : (b c : Bool) → (b || c) ≡ false → c ≡ false
    rest false c e = e
    rest true c e = absurd (cc e)

    go : (t : Bool) → (is_high_surrogate u && is_low_surrogate v) ≡ t
        → have_lone (cond t (Some (surrogate_pair_char u v) ∷ utf16_chars us) (lone_unit_char u ∷ utf16_chars (v ∷ us))) ≡ false
        → (have_lone (utf16_chars us) ≡ false → ends_high us ≡ false) → (have_lone (utf16_chars (v ∷ us)) ≡ false → ends_high (v ∷ us) ≡ false) → ends_high (u ∷ v ∷ us) ≡ false
    go true e k after behind_one = behind us (pair (is_high_surrogate u) e) (after k)
    go false e k after behind_one = behind_one (rest _ _ k)

-- one such text after another
module _ (xs ys : List ℕ) (h : has_unpaired_surrogate xs ≡ false) (k : has_unpaired_surrogate ys ≡ false) where
  joined_chars : utf16_chars (xs ++ ys) ≡ utf16_chars xs ++ utf16_chars ys
  joined_chars = chars_split xs ys (ap (λ b. b && starts_low ys) (none_high_last xs h))

  pub joined_paired : has_unpaired_surrogate (xs ++ ys) ≡ false
  joined_paired = ap have_lone joined_chars ∙ none_lone_on (utf16_chars xs) (utf16_chars ys) h k

  pub joined_utf8 : utf8_of (utf16_chars (xs ++ ys)) ≡ utf8_of (utf16_chars xs) ++ utf8_of (utf16_chars ys)
  joined_utf8 = ap utf8_of joined_chars ∙ utf8_append (utf16_chars xs) (utf16_chars ys)
