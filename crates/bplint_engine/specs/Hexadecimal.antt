-- Input as hexadecimal text. Source: profile.
use Rattle.std.specs.Prelude.{ℕ, ◌-◌, ◌==◌, if◌then◌else◌, List, length, take, slice_index, Result}
use Rattle.hex.specs.declared.error.FromHexError.{FromHexError}
use Rattle.hex.specs.Hex.{decode_of}

-- the bytes that the text spells, after one line feed is dropped from its end, or why it spells none
abbrev pub spelled : List ℕ → Result (List ℕ) FromHexError
spelled text = let last = length text - 1 in decode_of (if slice_index text last == 10 then take last text else text)
