-- How lines write texts. Source: profile.
use Rattle.std.specs.Prelude.{◌++◌, ◌/◌, ◌%◌, ℕ, ◌==◌, ◌&&◌, ◌||◌, List, [], ◌∷◌, Bool, if◌then◌else◌, encode_utf8}
use Rattle.std.specs.Char.{is_ascii_alphanumeric, is_control}
use Rattle.std.specs.Char.Utf16.{is_high_surrogate, is_low_surrogate, surrogate_pair_char}
use Rattle.std.specs.Int.{is_in_range}
use Rattle.std.specs.List.{list_all}
use Rattle.hex.specs.Hex.{encode_lower}
use Rattle.bplist_cursor.specs.Texts.{text_of_units}
use Rattle.bplint_lines.specs.declared.texts.Style.{Style}
use Rattle.bplint_lines.specs.declared.texts.Style.TheVariants.{OldStyle, Utf8}

-- a line cannot show this unit: a control character, a line or paragraph separator, or a control of text direction
abbrev pub is_unshown : ℕ → Bool
is_unshown u = is_control u || u == 0x61C || is_in_range 0x200E 0x200F u || is_in_range 0x2028 0x202E u || is_in_range 0x2066 0x2069 u

-- the unit is a half of a surrogate pair
abbrev pub is_surrogate : ℕ → Bool
is_surrogate u = is_in_range 0xD800 0xDFFF u

-- a unit that is in no pair, between quotes: `\"`, `\\`, `\U` and four hexadecimal digits for what a line cannot show
-- and for a half of a pair, otherwise its UTF-8
abbrev pub utf8_unit : ℕ → List ℕ
utf8_unit u =
    if u == 0x22 || u == 0x5C then 0x5C ∷ u ∷ []
    else if is_unshown u || is_surrogate u then 0x5C ∷ 0x55 ∷ encode_lower (u / 256 ∷ u % 256 ∷ [])
    else encode_utf8 u

-- the units are the two halves of a surrogate pair
abbrev pub starts_pair : ℕ → ℕ → Bool
starts_pair u v = is_high_surrogate u && is_low_surrogate v

-- units between quotes: the UTF-8 of each surrogate pair, and every other unit by itself
abbrev pub utf8_units : List ℕ → List ℕ
utf8_units [] = []
utf8_units (u ∷ []) = utf8_unit u
utf8_units (u ∷ v ∷ us) = if starts_pair u v then encode_utf8 (surrogate_pair_char u v) ++ utf8_units us
    else utf8_unit u ++ utf8_units (v ∷ us)

-- a text in UTF-8: its units if there are only ASCII letters and digits, at least one, else in quotes
abbrev pub utf8_text : List ℕ → List ℕ
utf8_text [] = 0x22 ∷ 0x22 ∷ []
utf8_text us = if list_all is_ascii_alphanumeric us then us else 0x22 ∷ (utf8_units us ++ 0x22 ∷ [])

-- a text with these units in a style
abbrev pub text_in : Style → List ℕ → List ℕ
text_in OldStyle units = text_of_units units
text_in Utf8 units = utf8_text units
