-- The names of keys whose units are all ASCII.
use Rattle.std.proofs.Common.{◌≡◌, ℕ, zero, suc, ◌<◌, ◌∷◌, [], List, Bool, true, false, not, is_some, map, slice_index, Some, refl, ap, ap₂, ◌∙◌, arith}
use Rattle.std.specs.Prelude.{encode_utf8_all}
use Rattle.std.specs.List.{list_all, list_any}
use Rattle.std.specs.Option.{unwrap_or}
use Rattle.std.specs.Char.Utf16.{has_unpaired_surrogate, utf16_chars, utf16_lossy_chars}
use Rattle.std.proofs.lemmas.Bool.{and_parts, ltb-true}
use Rattle.std.proofs.lemmas.Str.{encodes-IsAscii, utf16_chars-nil, utf16_chars_lone}
use Rattle.std.proofs.str.Utf16.{lone_unit_char_low}
use Rattle.bplint_lines.specs.MemberNames.{is_ascii}

low : (u : ℕ) → is_ascii u ≡ true → u < 0x80
low u h = ltb-true u 0x80 h

ascii_at : (us : List ℕ) → list_all is_ascii us ≡ true → (i : ℕ) → slice_index us i < 128
ascii_at [] h i = omega arith
ascii_at (u ∷ us) h zero = low u (and_parts (is_ascii u) (list_all is_ascii us) h).0
ascii_at (u ∷ us) h (suc i) = ascii_at us (and_parts (is_ascii u) (list_all is_ascii us) h).1 i

-- each unit is a character
chars_of : (us : List ℕ) → list_all is_ascii us ≡ true → utf16_chars us ≡ map Some us
chars_of [] h = utf16_chars-nil
chars_of (u ∷ us) h =
    let parts = and_parts (is_ascii u) (list_all is_ascii us) h in
    let small = low u parts.0 in
    utf16_chars_lone u us (λ pair. omega (arith, pair.0, small)) ∙ ap₂ (λ c cs. c ∷ cs) (lone_unit_char_low u (omega (arith, small))) (chars_of us parts.1)

none_unpaired : (us : List ℕ) → list_any (λ o. not (is_some o)) (map Some us) ≡ false
none_unpaired [] = refl
none_unpaired (u ∷ us) = none_unpaired us

same_chars : (us : List ℕ) → map (λ o. unwrap_or o 0xFFFD) (map Some us) ≡ us
same_chars [] = refl
same_chars (u ∷ us) = ap (λ cs. u ∷ cs) (same_chars us)

-- no surrogate lacks its other half
pub ascii_paired : (us : List ℕ) → list_all is_ascii us ≡ true → has_unpaired_surrogate us ≡ false
ascii_paired us ascii = ap (list_any (λ o. not (is_some o))) (chars_of us ascii) ∙ none_unpaired us

-- the units are the bytes of the text
pub ascii_bytes : (us : List ℕ) → list_all is_ascii us ≡ true → encode_utf8_all (utf16_lossy_chars us) ≡ us
ascii_bytes us ascii =
    let same : utf16_lossy_chars us ≡ us = ap (map (λ o. unwrap_or o 0xFFFD)) (chars_of us ascii) ∙ same_chars us in
    ap encode_utf8_all same ∙ encodes-IsAscii us (ascii_at us ascii)
