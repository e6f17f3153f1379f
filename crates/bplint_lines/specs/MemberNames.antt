-- The names of members in lines. Source: the path texts RFC 6901; the indexes profile.
use Rattle.std.specs.Prelude.{◌++◌, ℕ, ◌||◌, List, Bool, nat_lt, if◌then◌else◌, codes, encode_utf8_all}
use Rattle.std.specs.List.{flat_map, list_any}
use Rattle.std.specs.Fmt.{decimal}
use Rattle.std.specs.Char.Utf16.{has_unpaired_surrogate, utf16_lossy_chars}
use Rattle.bplist_cursor.specs.Path.{escaped}
use Rattle.bplint_lines.specs.declared.texts.Style.{Style}
use Rattle.bplint_lines.specs.declared.texts.Style.TheVariants.{OldStyle, Utf8}
use Rattle.bplint_lines.specs.Texts.{is_unshown, utf8_text}

-- the unit is an ASCII character
abbrev pub is_ascii : ℕ → Bool
is_ascii u = nat_lt u 0x80

-- an index in brackets
abbrev pub bracketed : ℕ → List ℕ
bracketed i = codes "[" ++ decimal i ++ codes "]"

-- the name of member i of an array
abbrev pub index_name : List ℕ → ℕ → List ℕ
index_name path i = path ++ codes "/" ++ decimal i

-- the name of value i if the key cannot be shown: its index, and then in UTF-8 style the key as a text
abbrev pub unshown_name : Style → ℕ → List ℕ → List ℕ
unshown_name OldStyle i key = bracketed i
unshown_name Utf8 i key = bracketed i ++ utf8_text key

-- the name of value i: the path text of its container, `/` and the escaped key, unless the key is no UTF-16 or cannot
-- be shown
abbrev pub key_name : Style → List ℕ → ℕ → List ℕ → List ℕ
key_name style path i key = if list_any is_unshown key || has_unpaired_surrogate key then unshown_name style i key
    else path ++ codes "/" ++ flat_map escaped (encode_utf8_all (utf16_lossy_chars key))
