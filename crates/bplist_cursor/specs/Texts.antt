-- The old-style texts of texts and of data.
-- Source: Apple's old-style form; `\U` with four digits and the order of the tests are profile.
use Rattle.std.specs.Prelude.{ℕ, ◌/◌, ◌%◌, ◌==◌, nat_le, ◌&&◌, ◌||◌, if◌then◌else◌, List, [], ◌∷◌, ◌++◌, flat_map}
use Rattle.std.specs.Char.{is_ascii_alphanumeric}
use Rattle.std.specs.List.{list_all}
use Rattle.hex.specs.Hex.{encode_lower}

-- a unit inside quotes: `\"`, `\\`, `\n`, the character itself, or `\U` and four hexadecimal digits
abbrev pub quoted_unit : ℕ → List ℕ
quoted_unit u =
    if u == 0x22 || u == 0x5C then 0x5C ∷ u ∷ []
    else if u == 0x0A then 0x5C ∷ 0x6E ∷ []
    else if nat_le 0x20 u && nat_le u 0x7E then u ∷ []
    else 0x5C ∷ 0x55 ∷ encode_lower (u / 256 ∷ u % 256 ∷ [])

-- a text in quotes
abbrev pub quoted : List ℕ → List ℕ
quoted units = 0x22 ∷ (flat_map quoted_unit units ++ 0x22 ∷ [])

-- the old-style text of these units: themselves if there are only ASCII letters and digits, at least one, else in
-- quotes
abbrev pub text_of_units : List ℕ → List ℕ
text_of_units [] = 0x22 ∷ 0x22 ∷ []
text_of_units us = if list_all is_ascii_alphanumeric us then us else 0x22 ∷ (flat_map quoted_unit us ++ 0x22 ∷ [])

-- the old-style text of data: `<`, the hexadecimal digits, `>`
abbrev pub text_of_bytes : List ℕ → List ℕ
text_of_bytes bytes = 0x3C ∷ (encode_lower bytes ++ 0x3E ∷ [])
