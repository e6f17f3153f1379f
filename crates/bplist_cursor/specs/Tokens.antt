-- What is read of a path text, from call to call. Source: profile.
use Rattle.std.specs.Prelude.{◌≡◌, ◌<◌, ℕ, ◌+◌, ◌^◌, Bool, true, false, List, [], ◌∷◌, ◌++◌, length, drop, encode_utf8_all}
use Rattle.std.specs.Str.{IsUtf8, chars}
use Rattle.std.specs.Str.Iter.{char_indices_rest, char_indices_offset}
use Rattle.std.specs.declared.str.CharIndices.{CharIndices}
use Rattle.bplist_cursor.specs.Path.{IsLoose}

-- the characters that are still to be read
abbrev pub left : CharIndices → List ℕ
left s = chars (char_indices_rest s)

-- what is still to be read is UTF-8, and its end can be counted
pub record IsReadable (s : CharIndices) : Type 0 where
  pub utf8 : IsUtf8 (char_indices_rest s)
  pub fits : char_indices_offset s + length (char_indices_rest s) < 2 ^ 64

-- these characters were read
pub record Reads (old new : CharIndices) (cs : List ℕ) : Type 0 where
  pub read : left old ≡ cs ++ left new
  pub counted : char_indices_offset new ≡ char_indices_offset old + length (encode_utf8_all cs)
  pub after : IsReadable new

-- no `~` of these characters is loose, whatever follows them
abbrev pub IsClosed : List ℕ → Type 0
IsClosed front = (rest : List ℕ) (k : ℕ) → k < length front → ¬ IsLoose (drop k (front ++ rest))

-- the first loose `~` of what was still to be read begins at this byte of the text
pub record MeetsLoose (old : CharIndices) (place : ℕ) : Type 0 where
  pub front : List ℕ
  pub tail : List ℕ
  pub read : left old ≡ front ++ tail
  pub closed : IsClosed front
  pub loose : IsLoose tail
  pub counted : place ≡ char_indices_offset old + length (encode_utf8_all front)

-- the `/` that begins the next token, if there is one
abbrev pub slash : Bool → List ℕ
slash true = 0x2F ∷ []
slash false = []
