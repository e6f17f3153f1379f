-- Bytes by place, and the numbers that they spell. Source of `num`: the format comment of CFBinaryPList.c, by which
-- numbers of several bytes are big-endian. Source of the others: profile.
use Rattle.std.specs.Prelude.{ℕ, ◌+◌, ◌*◌, ◌^◌, ◌<◌, ◌≤◌, List, [], ◌∷◌, length, take, drop, slice_index}

-- the n bytes from a place on
abbrev pub part : List ℕ → ℕ → ℕ → List ℕ
part octets place n = take n (drop place octets)

-- the big-endian number of these bytes
unfoldable pub num : List ℕ → ℕ
num [] = 0
num (x ∷ xs) = x * 256 ^ length xs + num xs

-- all bytes are below 128
abbrev pub AreLow : List ℕ → Type 0
AreLow octets = (k : ℕ) → k < length octets → slice_index octets k < 128

-- the first byte of 128 or more is at this place
abbrev pub IsFirstHigh : List ℕ → ℕ → Type 0
IsFirstHigh octets place = (place < length octets) × ((k : ℕ) → k < place → slice_index octets k < 128) × (128 ≤ slice_index octets place)
