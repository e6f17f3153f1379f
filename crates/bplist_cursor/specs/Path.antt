-- Path texts, as lists of characters. Source: RFC 6901, sections 3 and 4; the places of wrong texts are profile.
use Rattle.std.specs.Prelude.{◌≡◌, ◌≢◌, ◌⊎◌, ◌==◌, ℕ, ◌<◌, List, [], ◌∷◌, length, take, drop, map, flat_map, slice_get, Some, if◌then◌else◌, encode_utf8_all}
use Rattle.std.specs.Str.{chars}
use Rattle.std.specs.Char.Escape.{encode_utf16}

-- a character in a path text: `~` is written `~0`, and `/` is written `~1`
abbrev pub escaped : ℕ → List ℕ
escaped c = if c == 0x7E then 0x7E ∷ 0x30 ∷ [] else if c == 0x2F then 0x7E ∷ 0x31 ∷ [] else c ∷ []

-- the characters of a token as UTF-16 units
abbrev pub units : List ℕ → List ℕ
units token = flat_map encode_utf16 token

-- the text is that of tokens, each with a `/` before it; the steps are the characters of the tokens as UTF-16 units
abbrev pub IsPathOf : List ℕ → List (List ℕ) → Type 0
IsPathOf text steps = (tokens : List (List ℕ)) × (chars text ≡ flat_map (λ token. 0x2F ∷ flat_map escaped token) tokens)
    × (steps ≡ map (flat_map encode_utf16) tokens)

-- the characters begin with a `~` that is not followed by `0` or `1`
abbrev pub IsLoose : List ℕ → Type 0
IsLoose cs = (slice_get cs 0 ≡ Some 0x7E) × (slice_get cs 1 ≢ Some 0x30) × (slice_get cs 1 ≢ Some 0x31)

-- character k is wrong: it is the first and not `/`, or it begins a loose `~`
abbrev pub IsWrong : List ℕ → ℕ → Type 0
IsWrong cs k = ((k ≡ 0) × (0 < length cs) × (slice_get cs 0 ≢ Some 0x2F)) ⊎ IsLoose (drop k cs)

-- the text does not spell steps, and its first wrong character begins at this byte
pub record IsNoPath (text : List ℕ) (place : ℕ) : Type 0 where
  pub none : (steps : List (List ℕ)) → ¬ IsPathOf text steps
  pub before : ℕ
  pub wrong : IsWrong (chars text) before
  pub first : (k : ℕ) → k < before → ¬ IsWrong (chars text) k
  pub counted : place ≡ length (encode_utf8_all (take before (chars text)))
